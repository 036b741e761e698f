use Rattle.std.proofs.Common.{◌∙◌, ◌≡◌, ℕ, Bool, Option, Some, None, false, true, cond, sym, ap, is_some, rules, refl, subst}
use Rattle.std.specs.Prelude.{◌≢◌, Result, Ok, Err, IfOk, IfErr, OnOk, OnErr}
use Rattle.std.specs.Option.{option_map}
use Rattle.resolver_base.specs.declared.fault.Fault.{Fault}
use Rattle.resolver_base.specs.declared.fault.Fault.TheVariants.{Exhausted, OutOfMemory}
use Rattle.resolver_base.specs.declared.feedback.Feedback.{Feedback}
use Rattle.resolver_base.specs.declared.feedback.Feedback.TheVariants as feedbacks
use Rattle.resolver_types.specs.Names.{Names, names}
use Rattle.resolver_messages.specs.Waiting.{Told, told_of}
use Rattle.resolver_desk.specs.Desk.{Book, Desk, desk_put, feedback_of, has_room, placed, with_put}
use Rattle.resolver_mailbox.specs.Shares.{IsAdded, Share, first_share, with_message}
use Rattle.resolver_mailbox.proofs.Counts.{begun-counted, begun-recorded, for-one, stored-counted, stored-recorded}
use Rattle.resolver_mailbox.proofs.mailbox.counted.Counted.put.Goals as goal

on-err : {F X : Type 0} (result : Result F Fault) → X → OnErr result X
on-err (Ok made) x = tt
on-err (Err fault) x = x

-- memory is the one thing that may be wanting
exhausted-none : {F : Type 0} (X : Type 0) (result : Result F Fault) → IfErr result (λ fault. fault ≡ OutOfMemory) → IfErr result (λ fault. fault ≡ Exhausted → X)
exhausted-none X (Ok made) is = tt
exhausted-none X (Err fault) is = λ other. absurd (let both = sym is ∙ other in cc)

only-memory : {F : Type 0} (result : Result F Fault) → IfErr result (λ fault. fault ≡ OutOfMemory) → IfErr result (λ fault. fault ≢ OutOfMemory → fault ≡ Exhausted)
only-memory (Ok made) is = tt
only-memory (Err fault) is = λ other. absurd (other is)

module _ {K S M Q : Type 0} where
  closed-answer : (desk : Desk K S M Q) → desk.is_closed ≡ true → feedbacks.Closed ≡ feedback_of desk
  closed-answer desk closed = ap (λ (t : Bool). cond t feedbacks.Closed (cond (has_room desk) feedbacks.Ok feedbacks.Backoff)) (sym closed)

  -- an open desk doesn't answer Closed
  open-answer : (desk : Desk K S M Q) → desk.is_closed ≡ false → feedback_of desk ≡ feedbacks.Closed → ⊥
  open-answer desk unclosed is = cases (has_room desk) (ap (λ (t : Bool). cond t feedbacks.Closed (cond (has_room desk) feedbacks.Ok feedbacks.Backoff)) (sym unclosed) ∙ is) where
    cases : (t : Bool) → cond t feedbacks.Ok feedbacks.Backoff ≡ feedbacks.Closed → ⊥
    cases true wrong = cc
    cases false wrong = cc

  open-answers : (X : Type 0) (result : Result Feedback Fault) (desk : Desk K S M Q) → desk.is_closed ≡ false → IfOk result (λ feedback. feedback ≡ feedback_of desk) → IfOk result (λ feedback. feedback ≡ feedbacks.Closed → X)
  open-answers X (Ok feedback) desk unclosed is = λ closed. absurd (open-answer desk unclosed (sym is ∙ closed))
  open-answers X (Err fault) desk unclosed is = tt

  -- a put of a handle that has a share
  stored-added : (result : Result Feedback Fault) (told : Told K S M Q) (share now : Share K S M Q) (was : Option (Share K S M Q)) → Some share ≡ was → OnOk result (now ≡ with_message told share)
      → IfOk result (λ feedback. feedback ≢ feedbacks.Closed → IsAdded told was (Some now))
  stored-added (Ok feedback) told share now was held is = λ unshut. subst (λ w. IsAdded told w (Some now)) held is
  stored-added (Err fault) told share now was held is = tt

  stored-same : (result : Result Feedback Fault) (share now : Share K S M Q) (was : Option (Share K S M Q)) → Some share ≡ was → OnErr result (now ≡ share) → OnErr result (Some now ≡ was)
  stored-same (Ok feedback) share now was held is = tt
  stored-same (Err fault) share now was held is = ap (λ s. Some s) is ∙ held

  -- a first put
  begun-added : (told : Told K S M Q) (handle : ℕ) (share : Share K S M Q) (was : Option (Share K S M Q)) → None ≡ was → share ≡ first_share handle told → IsAdded told was (Some share)
  begun-added told handle share was none is = subst (λ w. IsAdded told w (Some share)) none (is ∙ ap (λ (h : ℕ). first_share h told) (ap (λ s. s.handle) (sym is)))

module _ {K S M Q : Type 0} (n : Names K S) (merged : M → M → M) (keeps : Q → K → S → Bool) where
  closed-put : (handle : Option ℕ) (told : Told K S M Q) (desk : Desk K S M Q) → desk.is_closed ≡ true → desk ≡ desk_put n merged keeps handle told desk
  closed-put handle told desk closed = ap (λ (t : Bool). cond t desk (record (placed n merged keeps told desk) { book = option_map (with_put handle told (has_room desk)) desk.book })) (sym closed)

  -- where there is no book, nobody asks for the handle
  unbooked-put : (handle other : Option ℕ) (told : Told K S M Q) (desk : Desk K S M Q) → is_some desk.book ≡ false → desk_put n merged keeps handle told desk ≡ desk_put n merged keeps other told desk
  unbooked-put handle other told desk none = ap (λ book. cond desk.is_closed desk (record (placed n merged keeps told desk) { book = book })) (cases desk.book none) where
    cases : (book : Option (Book K S M Q)) → is_some book ≡ false → option_map (with_put handle told (has_room desk)) book ≡ option_map (with_put other told (has_room desk)) book
    cases None none = refl
    cases (Some book) none = absurd cc

pub invariant_of-self-in-Some-share : goal.invariant_of-self-in-Some-share
invariant_of-self-in-Some-share g c =
    let n = names g.K.Ord.cmp g.S.Ord.cmp in
    let was = c.args.self.now in
    let totals = c.in-Some-totals.totals in
    let put = c.put-in-Some-share in
    let handle = c.in-Some-share.share.handle in
    let told = told_of c.args.message in
    let unclosed : was.desk.is_closed ≡ false = search rules in
    let some : is_some was.desk.book ≡ true = was.recorded ∙ sym was.totaled ∙ ap is_some c.in-Some-totals.is in record {
      recorded = stored-recorded n g.M.Metadata.merged g.Q.Predicate.keeps put.result (Some handle) told was.desk put.new.desk unclosed put.ensures.desk put.ensures.err_desk ∙ was.recorded;
      totaled = ap is_some (sym c.in-Some-totals.is) ∙ was.totaled;
      counted = for-one _ _
          (stored-counted n g.M.Metadata.merged g.Q.Predicate.keeps put.result handle told was.desk put.new.desk totals.puts.total put.new.total.total totals.takes.total totals.spare.parts unclosed some
          put.ensures.desk put.ensures.total put.ensures.err_desk put.ensures.err_total (was.counted totals c.in-Some-totals.is));
    }

pub invariant_of-self-2 : goal.invariant_of-self-2
invariant_of-self-2 g c =
    let n = names g.K.Ord.cmp g.S.Ord.cmp in
    let was = c.args.self.now in
    let totals = c.in-Some-totals.totals in
    let first = c.first in
    let told = told_of c.args.message in
    let unclosed : was.desk.is_closed ≡ false = search rules in
    let some : is_some was.desk.book ≡ true = was.recorded ∙ sym was.totaled ∙ ap is_some c.in-Some-totals.is in record {
      recorded = begun-recorded n g.M.Metadata.merged g.Q.Predicate.keeps first.result None told was.desk first.new.desk unclosed first.ensures.desk first.ensures.err_desk ∙ was.recorded;
      totaled = ap is_some (sym c.in-Some-totals.is) ∙ was.totaled;
      counted = for-one _ _
          (begun-counted n g.M.Metadata.merged g.Q.Predicate.keeps first.result told was.desk first.new.desk totals.puts.total first.new.total.total totals.takes.total totals.spare.parts first.new.spare.parts unclosed some
          first.ensures.desk first.ensures.total first.ensures.spare first.ensures.err_desk first.ensures.err_total first.ensures.err_spare (was.counted totals c.in-Some-totals.is));
    }

pub invariant_of-self : goal.invariant_of-self
invariant_of-self g c = record { recorded = c.args.self.now.recorded; totaled = c.args.self.now.totaled; counted = c.args.self.now.counted }

pub put-requires : goal.put-requires
put-requires g c = record { keys_clone = g.met.K.Faithful.clones; subscribers_clone = g.met.S.Faithful.clones; tests_clone = g.met.Q.Faithful.clones }

pub returns-then-is_closed-clause-feedback : goal.returns-then-is_closed-clause-feedback
returns-then-is_closed-clause-feedback g c = closed-answer c.args.self.now.desk (sym c.is_closed.ensures ∙ c.if-is_closed.true)

pub returns-then-is_closed-clause-desk : goal.returns-then-is_closed-clause-desk
returns-then-is_closed-clause-desk g c =
    closed-put (names g.K.Ord.cmp g.S.Ord.cmp) g.M.Metadata.merged g.Q.Predicate.keeps (option_map (λ s. s.handle) c.args.seat.now) (told_of c.args.message) c.args.self.now.desk (sym c.is_closed.ensures ∙ c.if-is_closed.true)

pub returns-then-is_closed-clause-added : goal.returns-then-is_closed-clause-added
returns-then-is_closed-clause-added g c = λ recorded unshut. absurd (unshut refl)

pub returns-then-is_closed-clause-unrecorded : goal.returns-then-is_closed-clause-unrecorded
returns-then-is_closed-clause-unrecorded g c = λ unrecorded unshut. absurd (unshut refl)

pub returns-in_default-totals : goal.returns-in_default-totals
returns-in_default-totals g c =
    let was = c.args.self.now in
    let unclosed : was.desk.is_closed ≡ false = sym c.is_closed.ensures ∙ c.if-is_closed.false in
    let unrecorded : g.N.Naming.is_recorded ≡ false = sym was.totaled ∙ ap is_some c.in_default-totals.is in
    let answer = ap (λ answer. answer.0) c.in_ok-feedback.ensures.answer in
    record {
      feedback = answer;
      desk = c.in_ok-feedback.ensures.ok
          ∙ unbooked-put (names g.K.Ord.cmp g.S.Ord.cmp) g.M.Metadata.merged g.Q.Predicate.keeps None (option_map (λ s. s.handle) c.args.seat.now) (told_of c.args.message) was.desk (was.recorded ∙ unrecorded);
      added = λ recorded. absurd (let both = sym recorded ∙ unrecorded in cc);
      unrecorded = λ unrecorded unshut. c.seat.view_is;
      closed = λ closed. absurd (open-answer was.desk unclosed (sym answer ∙ closed));
      err = tt;
      err_desk = tt;
      shut = tt;
      only = tt;
      exhausted = tt;
    }

pub returns-in-Some-share : goal.returns-in-Some-share
returns-in-Some-share g c =
    let was = c.args.self.now in
    let put = c.put-in-Some-share in
    let unclosed : was.desk.is_closed ≡ false = sym c.is_closed.ensures ∙ c.if-is_closed.false in
    let recorded : g.N.Naming.is_recorded ≡ true = sym was.totaled ∙ ap is_some c.in-Some-totals.is in
    let held : Some c.in-Some-share.share ≡ c.args.seat.now = sym c.in-Some-share.is ∙ c.seat.view_is in
    record {
      feedback = put.ensures.feedback;
      desk = subst (λ seat. OnOk put.result (put.new.desk ≡ desk_put (names g.K.Ord.cmp g.S.Ord.cmp) g.M.Metadata.merged g.Q.Predicate.keeps (option_map (λ s. s.handle) seat) (told_of c.args.message) was.desk)) held put.ensures.desk;
      added = λ recorded. stored-added put.result (told_of c.args.message) c.in-Some-share.share put.new.self c.args.seat.now held put.ensures.listed;
      unrecorded = λ unrecorded. absurd (let both = sym recorded ∙ unrecorded in cc);
      closed = open-answers _ put.result was.desk unclosed put.ensures.feedback;
      err = stored-same put.result c.in-Some-share.share put.new.self c.args.seat.now held put.ensures.err;
      err_desk = put.ensures.err_desk;
      shut = on-err put.result unclosed;
      only = only-memory put.result put.ensures.only;
      exhausted = exhausted-none _ put.result put.ensures.only;
    }

pub returns : goal.returns
returns g c =
    let was = c.args.self.now in
    let made = c.in_ok-feedback-2 in
    let unclosed : was.desk.is_closed ≡ false = sym c.is_closed.ensures ∙ c.if-is_closed.false in
    let recorded : g.N.Naming.is_recorded ≡ true = sym was.totaled ∙ ap is_some c.in-Some-totals.is in
    let none : None ≡ c.args.seat.now = sym c.in_default-share.is ∙ c.seat.view_is in
    record {
      feedback = made.ensures.feedback;
      desk = subst (λ seat. c.first.new.desk ≡ desk_put (names g.K.Ord.cmp g.S.Ord.cmp) g.M.Metadata.merged g.Q.Predicate.keeps (option_map (λ s. s.handle) seat) (told_of c.args.message) was.desk) none made.ensures.desk;
      added = λ recorded unshut. begun-added (told_of c.args.message) _ made.first c.args.seat.now none made.ensures.share;
      unrecorded = λ unrecorded. absurd (let both = sym recorded ∙ unrecorded in cc);
      closed = λ closed. absurd (open-answer was.desk unclosed (sym made.ensures.feedback ∙ closed));
      err = tt;
      err_desk = tt;
      shut = tt;
      only = tt;
      exhausted = tt;
    }
