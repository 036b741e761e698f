use Rattle.std.proofs.Common.{◌≡◌, refl, ap, ◌∙◌, sym, None, Some, Ok, option_map}
use Rattle.std.proofs.lemmas.Result.{on_err_weaker}
use Rattle.resolver_fetch.specs.Cursor.{ExpectsNewId, scan_of}
use Rattle.resolver_fetch_scan.specs.Fetcher.{Fetcher}
use Rattle.resolver_fetch_scan.specs.Orders.{orders}
use Rattle.resolver_fetch.specs.Seeking.{tried_next}
use Rattle.resolver_fetch.specs.Stepping.{after_step}
use Rattle.resolver_fetch.proofs.Progress.{if-refused}
use Rattle.resolver_fetch_scan.proofs.Outcomes.{onto-ok}
use Rattle.resolver_fetch_scan.proofs.TrailLaws.{trail_law}
use Rattle.resolver_fetch.proofs.Stepping.{answer-refused, answer-taken, answer-unasked, answer-wanted, if-memory, question-new, step-closed, step-new}
use Rattle.resolver_fetch.proofs.fetcher.Fetcher.scan_answer.Goals as goal

pub returns-in-Ok-clause-ok : goal.returns-in-Ok-clause-ok
returns-in-Ok-clause-ok g c =
    let o = orders g.K.Ord.cmp g.P.Ord.cmp in
    let f = c.args.self.now in
    let cursor = c.in-Some.cursor in
    let held : c.self.inside.cursor ≡ Some cursor = sym c.take.ensures.value ∙ c.in-Some.is in
    let scan = sym (ap (λ (f : Fetcher g.row.K.Denot g.row.P.Denot). f.scan) c.self.view_is) ∙ ap (option_map scan_of) held in
    let right = rw held at c.self.invariant.2 in
    let tries : tried_next o f cursor.moment cursor.trail ≡ Some cursor.trying = rw (← c.self.view_is) right.tries in
    let took = answer-taken o f cursor c.args.answer c.in-Ok.step scan tries c.in-Ok.ensures.ok in
    let closed = rw c.take.ensures.after at c.go.ensures.ok in
    onto-ok c.go.result _ _ (λ is. took ∙ ap (λ (n : Fetcher g.row.K.Denot g.row.P.Denot). (Ok tt, n)) (sym (is
    ∙ ap (λ (f : Fetcher g.row.K.Denot g.row.P.Denot). after_step o (scan_of cursor) cursor.trying.key c.in-Ok.step (record f { scan = None })) c.self.view_is
    ∙ step-closed o f (scan_of cursor) cursor.trying.key c.in-Ok.step))) closed

pub returns-in-Ok-clause-law : goal.returns-in-Ok-clause-law
returns-in-Ok-clause-law g c =
    let o = orders g.K.Ord.cmp g.P.Ord.cmp in
    let cursor = c.in-Some.cursor in
    let held : c.self.inside.cursor ≡ Some cursor = sym c.take.ensures.value ∙ c.in-Some.is in
    let scan = sym (ap (λ (f : Fetcher g.row.K.Denot g.row.P.Denot). f.scan) c.self.view_is) ∙ ap (option_map scan_of) held in
    let right = rw held at c.self.invariant.2 in
    let tries : tried_next o c.args.self.now cursor.moment cursor.trail ≡ Some cursor.trying = rw (← c.self.view_is) right.tries in
    let expects : ExpectsNewId c.args.self.now.asked c.args.self.now.last_id cursor.expects = rw (← c.self.view_is) right.new_id in
    onto-ok c.go.result _ _ (λ is. (trail_law o).answered c.args.self.now _ c.args.answer (question-new o c.args.self.now cursor scan tries expects) is) (returns-in-Ok-clause-ok g c)

pub returns-in-Err-clause-refused : goal.returns-in-Err-clause-refused
returns-in-Err-clause-refused g c = λ other.
    let o = orders g.K.Ord.cmp g.P.Ord.cmp in
    let cursor = c.in-Some.cursor in
    let held : c.self.inside.cursor ≡ Some cursor = sym c.take.ensures.value ∙ c.in-Some.is in
    let scan = sym (ap (λ (f : Fetcher g.row.K.Denot g.row.P.Denot). f.scan) c.self.view_is) ∙ ap (option_map scan_of) held in
    let right = rw held at c.self.invariant.2 in
    let tries : tried_next o c.args.self.now cursor.moment cursor.trail ≡ Some cursor.trying = rw (← c.self.view_is) right.tries in
    answer-refused o c.args.self.now cursor c.args.answer c.in-Err.fault scan tries (c.in-Err.ensures.refused other)

pub returns-in-Ok-clause-takes : goal.returns-in-Ok-clause-takes
returns-in-Ok-clause-takes g c =
    let o = orders g.K.Ord.cmp g.P.Ord.cmp in
    let cursor = c.in-Some.cursor in
    let held : c.self.inside.cursor ≡ Some cursor = sym c.take.ensures.value ∙ c.in-Some.is in
    let scan = sym (ap (λ (f : Fetcher g.row.K.Denot g.row.P.Denot). f.scan) c.self.view_is) ∙ ap (option_map scan_of) held in
    let right = rw held at c.self.invariant.2 in
    let tries : tried_next o c.args.self.now cursor.moment cursor.trail ≡ Some cursor.trying = rw (← c.self.view_is) right.tries in
    if-memory c.go.result _ (ap (λ r. r.0) (answer-taken o c.args.self.now cursor c.args.answer c.in-Ok.step scan tries c.in-Ok.ensures.ok))

pub returns-in-Err-clause-takes : goal.returns-in-Err-clause-takes
returns-in-Err-clause-takes g c = λ wanting.
    let o = orders g.K.Ord.cmp g.P.Ord.cmp in
    let cursor = c.in-Some.cursor in
    let held : c.self.inside.cursor ≡ Some cursor = sym c.take.ensures.value ∙ c.in-Some.is in
    let scan = sym (ap (λ (f : Fetcher g.row.K.Denot g.row.P.Denot). f.scan) c.self.view_is) ∙ ap (option_map scan_of) held in
    let right = rw held at c.self.invariant.2 in
    let tries : tried_next o c.args.self.now cursor.moment cursor.trail ≡ Some cursor.trying = rw (← c.self.view_is) right.tries in
    answer-wanted o c.args.self.now cursor c.args.answer scan tries (c.in-Err.ensures.takes wanting)

pub go-requires : goal.go-requires
go-requires g c =
    let o = orders g.K.Ord.cmp g.P.Ord.cmp in
    let cursor = c.in-Some.cursor in
    let held : c.self.inside.cursor ≡ Some cursor = sym c.take.ensures.value ∙ c.in-Some.is in
    let right = rw held at c.self.invariant.2 in
    record {
      keys_clone = c.requires.keys_clone;
      peers_clone = c.requires.peers_clone;
      closed = rw c.take.ensures.after refl;
      right = record { moment_fits = right.moment_fits; tries = right.tries; new_id = right.new_id };
      new_id = step-new o c.self.inside.requests c.self.inside.last_id cursor.trying cursor.expects c.args.answer c.in-Ok.step right.new_id c.in-Ok.ensures.ok;
    }

pub invariant_of-self : goal.invariant_of-self
invariant_of-self g c = rw c.take.ensures.after (c.self.invariant.0, c.self.invariant.1, tt)

pub invariant_of-self-in-Ok : goal.invariant_of-self-in-Ok
invariant_of-self-in-Ok g c = rw c.take.ensures.after (c.self.invariant.0, c.self.invariant.1, tt)

pub invariant_of-self-in-Err : goal.invariant_of-self-in-Err
invariant_of-self-in-Err g c =
    let held : c.self.inside.cursor ≡ Some c.in-Some.cursor = sym c.take.ensures.value ∙ c.in-Some.is in
    (c.self.invariant.0, c.self.invariant.1, rw held at c.self.invariant.2)

pub returns-in_default-clause-refused : goal.returns-in_default-clause-refused
returns-in_default-clause-refused g c = λ other.
    let none : c.self.inside.cursor ≡ None = sym c.take.ensures.value ∙ c.in_default.is in
    let scan = sym (ap (λ (f : Fetcher g.row.K.Denot g.row.P.Denot). f.scan) c.self.view_is) ∙ ap (option_map scan_of) none in
    answer-unasked (orders g.K.Ord.cmp g.P.Ord.cmp) c.args.self.now c.args.answer scan

pub returns-in_default-clause-err : goal.returns-in_default-clause-err
returns-in_default-clause-err g c =
    let none : c.self.inside.cursor ≡ None = sym c.take.ensures.value ∙ c.in_default.is in
    let same : c.take.new.self ≡ c.self.inside.cursor = c.take.ensures.after ∙ sym none in
    rw same c.self.view_is

pub returns-in-Err-clause-err : goal.returns-in-Err-clause-err
returns-in-Err-clause-err g c =
    let held : c.self.inside.cursor ≡ Some c.in-Some.cursor = sym c.take.ensures.value ∙ c.in-Some.is in
    rw held at c.self.view_is

pub returns-in-Ok-clause-refused : goal.returns-in-Ok-clause-refused
returns-in-Ok-clause-refused g c = if-refused c.go.result _ _ (λ fault wanting other. absurd (other wanting)) c.go.ensures.only

pub returns-in-Ok-clause-err : goal.returns-in-Ok-clause-err
returns-in-Ok-clause-err g c =
    let held : c.self.inside.cursor ≡ Some c.in-Some.cursor = sym c.take.ensures.value ∙ c.in-Some.is in
    let same = rw held at c.self.view_is in
    on_err_weaker c.go.result (λ kept. kept ∙ same) c.go.ensures.err
