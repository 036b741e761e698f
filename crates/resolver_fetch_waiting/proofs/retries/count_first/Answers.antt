use Rattle.std.proofs.Common.{refl, ◌≡◌, ◌∙◌, ap, rules}
use Rattle.std.proofs.lemmas.Cmp.{tied_itself}
use Rattle.std.specs.Ordering.{is_eq}
use Rattle.resolver_types.proofs.Undone.{removed-inserted}
use Rattle.resolver_fetch_waiting.specs.Pending.{with_key}
use Rattle.resolver_fetch_scan.proofs.Outcomes.{on-err}
use Rattle.resolver_fetch_waiting.proofs.retries.count_first.Goals as goal

pub returns-in-Err-clause-as_before : goal.returns-in-Err-clause-as_before
returns-in-Err-clause-as_before g c =
    let none = c.requires.first in
    search (rules, none, removed-inserted g.K.Ord.cmp c.args.key c.args.retries.now.entries 1 (ap is_eq (tied_itself g.met.K.Ord.total c.args.key)) none)

pub returns-clause-ok : goal.returns-clause-ok
returns-clause-ok g c =
    let waits : c.in_ok-waits.waits ≡ c.args.key = c.requires.keys_clone c.args.key c.in_ok-waits.waits c.in_ok-waits.ensures.cases in
    c.in_default.ensures.ok ∙ ap (λ k. with_key g.K.Ord.cmp (c.args.place, k) c.args.pending.now) waits

pub put-requires-clause-not_waiting : goal.put-requires-clause-not_waiting
put-requires-clause-not_waiting g c =
    let waits : c.in_ok-waits.waits ≡ c.args.key = c.requires.keys_clone c.args.key c.in_ok-waits.waits c.in_ok-waits.ensures.cases in
    rw waits c.requires.not_waiting

pub returns-in_err-insert-clause-as_before : goal.returns-in_err-insert-clause-as_before
returns-in_err-insert-clause-as_before g c =
    let same : c.insert.new.self.entries ≡ c.args.retries.now.entries = search rules in
    on-err c.from_residual-in_err-insert.result _ same

pub returns-in_err-counted-clause-as_before : goal.returns-in_err-counted-clause-as_before
returns-in_err-counted-clause-as_before g c = on-err c.from_residual-in_err-counted.result _ refl
