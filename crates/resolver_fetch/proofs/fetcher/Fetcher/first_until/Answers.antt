use Rattle.std.proofs.Common.{◌≡◌, ◌∙◌, ap, subst, sym, ℕ, suc, ◌<◌, ◌≤◌, ◌∷◌, Some, false, true, length, arith}
use Rattle.std.proofs.lemmas.Bool.Decides.{nat_tests}
use Rattle.std.proofs.lemmas.Map.Keys.{sorted_tail}
use Rattle.std.specs.Ordering.{nat_cmp}
use Rattle.std.specs.Prelude.{nat_le}
use Rattle.resolver_priority_set.specs.Priorities.{pair_order}
use Rattle.resolver_fetch_scan.specs.Orders.{orders}
use Rattle.resolver_fetch_waiting.specs.Queues.{placed}
use Rattle.resolver_fetch.specs.Seeking.{first_until, trying_key}
use Rattle.resolver_fetch_scan.specs.Trying.{Trying}
use Rattle.resolver_fetch.proofs.Dues.{until-here, until-none, until-past}
use Rattle.resolver_fetch_scan.proofs.Outcomes.{refused, refused-as}
use Rattle.resolver_fetch.proofs.fetcher.Fetcher.first_until.Goals as goal

past : (x y : ℕ) → y < x → nat_le x y ≡ false
past x y more = grind (arith, nat_tests, more)

due : (x y : ℕ) → x ≤ y → nat_le x y ≡ true
due x y le = grind (arith, nat_tests, le)

pub returns-then-pair-moment-clause-ok : goal.returns-then-pair-moment-clause-ok
returns-then-pair-moment-clause-ok g c =
    let o = orders g.K.Ord.cmp g.P.Ord.cmp in
    let p = c.in-Some.pair.now in
    let queue = c.next.new.self in
    let list : c.loop-pair.pair-iterator ≡ p ∷ queue = c.in-Some.ensures.steps in
    let more : c.args.moment < p.0 = c.if-pair-moment.true in
    sym (until-none o c.args.self.now c.args.trail.now c.args.moment c.args.is_retry p queue (rw list at c.loop-pair.invariant.ordered) (past p.0 c.args.moment more))
    ∙ ap (λ ps. first_until o c.args.self.now c.args.trail.now c.args.moment (placed c.args.is_retry ps)) (sym list)
    ∙ c.loop-pair.invariant.first

pub returns-then-count-gt0-clause-ok : goal.returns-then-count-gt0-clause-ok
returns-then-count-gt0-clause-ok g c =
    let o = orders g.K.Ord.cmp g.P.Ord.cmp in
    let p = c.in-Some.pair.now in
    let queue = c.next.new.self in
    let list : c.loop-pair.pair-iterator ≡ p ∷ queue = c.in-Some.ensures.steps in
    let le : p.0 ≤ c.args.moment = c.if-pair-moment.false in
    let is : c.in_ok-trying.trying ≡ trying_key o c.args.self.now c.args.trail.now (record { is_retry = c.args.is_retry; due = p.0 }, p.1) = c.in_ok-trying.ensures.ok in
    let some : 0 < length c.in_ok-trying.trying.left = rw (← c.count.ensures) c.if-count-gt0.true in
    let left : 0 < length (trying_key o c.args.self.now c.args.trail.now (record { is_retry = c.args.is_retry; due = p.0 }, p.1)).left =
    subst (λ (t : Trying g.row.K.Denot g.row.P.Denot). 0 < length t.left) is some in
    ap Some is
    ∙ sym (until-here o c.args.self.now c.args.trail.now c.args.moment c.args.is_retry p queue (due p.0 c.args.moment le) left)
    ∙ ap (λ ps. first_until o c.args.self.now c.args.trail.now c.args.moment (placed c.args.is_retry ps)) (sym list)
    ∙ c.loop-pair.invariant.first

pub loop-pair-preserved : goal.loop-pair-preserved
loop-pair-preserved g c =
    let o = orders g.K.Ord.cmp g.P.Ord.cmp in
    let p = c.in-Some.pair.now in
    let queue = c.next.new.self in
    let list : c.loop-pair.pair-iterator ≡ p ∷ queue = c.in-Some.ensures.steps in
    let le : p.0 ≤ c.args.moment = c.if-pair-moment.false in
    let is : c.in_ok-trying.trying ≡ trying_key o c.args.self.now c.args.trail.now (record { is_retry = c.args.is_retry; due = p.0 }, p.1) = c.in_ok-trying.ensures.ok in
    let none : length c.in_ok-trying.trying.left ≡ 0 = omega (arith, c.count.ensures, c.if-count-gt0.false) in
    let left : length (trying_key o c.args.self.now c.args.trail.now (record { is_retry = c.args.is_retry; due = p.0 }, p.1)).left ≡ 0 =
    sym (ap (λ (t : Trying g.row.K.Denot g.row.P.Denot). length t.left) is) ∙ none in
    record {
      ordered = sorted_tail (pair_order nat_cmp g.K.Ord.cmp) p queue (rw list at c.loop-pair.invariant.ordered);
      first =
          sym (until-past o c.args.self.now c.args.trail.now c.args.moment c.args.is_retry p queue (due p.0 c.args.moment le) left)
          ∙ ap (λ ps. first_until o c.args.self.now c.args.trail.now c.args.moment (placed c.args.is_retry ps)) (sym list)
          ∙ c.loop-pair.invariant.first;
      at_hand = c.trying.ensures.at_hand;
    }

pub loop-pair-init : goal.loop-pair-init
loop-pair-init g c =
    let o = orders g.K.Ord.cmp g.P.Ord.cmp in
    let queue : c.into_iter-pair-iterator.result ≡ c.args.queue = c.into_iter-pair-iterator.ensures.into_iter_gives in
    record {
      ordered = rw queue c.requires.ordered;
      first = ap (λ ps. first_until o c.args.self.now c.args.trail.now c.args.moment (placed c.args.is_retry ps)) queue;
      at_hand = c.requires.at_hand;
    }

pub loop-pair-smaller : goal.loop-pair-smaller
loop-pair-smaller g c =
    let more : length c.loop-pair.pair-iterator ≡ suc (length c.next.new.self) = ap length c.in-Some.ensures.steps in
    omega (arith, more)

pub trying-requires-clause-at_hand : goal.trying-requires-clause-at_hand
trying-requires-clause-at_hand g c = c.loop-pair.invariant.at_hand

pub returns-clause-at_hand : goal.returns-clause-at_hand
returns-clause-at_hand g c = c.loop-pair.invariant.at_hand

pub returns-clause-ok : goal.returns-clause-ok
returns-clause-ok g c =
    ap (λ ps. first_until (orders g.K.Ord.cmp g.P.Ord.cmp) c.args.self.now c.args.trail.now c.args.moment (placed c.args.is_retry ps)) (sym c.in-None.ensures.steps.0)
    ∙ c.loop-pair.invariant.first

pub returns-in_err-trying-clause-ok : goal.returns-in_err-trying-clause-ok
returns-in_err-trying-clause-ok g c = refused c.from_residual.result _ _ c.from_residual.ensures.1

pub returns-in_err-trying-clause-only : goal.returns-in_err-trying-clause-only
returns-in_err-trying-clause-only g c = refused-as c.from_residual.result _ _ c.from_residual.ensures.1 (λ fault same. same ∙ c.in_err-trying.ensures.only)

pub returns-in_err-trying-clause-at_hand : goal.returns-in_err-trying-clause-at_hand
returns-in_err-trying-clause-at_hand g c = c.trying.ensures.at_hand
