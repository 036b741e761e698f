use Rattle.std.proofs.Common.{◌≡◌, ◌∙◌, ap, sym, subst, suc, ◌+◌, ◌<◌, ◌≤◌, ◌^◌, true, false, length, drop, rules, arith}
use Rattle.resolver_fetch_requests.specs.Ids.{following, is_held, next_free, next_id}
use Rattle.resolver_fetch_requests.proofs.NextIds.{free-here, free-last, free-past}
use Rattle.resolver_fetch_requests.proofs.NewIds.{next-new}
use Rattle.resolver_fetch_requests.proofs.requests.Requests.next_id.Goals as goal

pub returns-then-not-contains-clause-value : goal.returns-then-not-contains-clause-value
returns-then-not-contains-clause-value g c =
    let len : c.len-tried-end.result ≡ length c.args.self.now = c.len-tried-end.ensures.value ∙ ap length c.self.view_is in
    let below : c.loop-tried._tried < c.len-tried-end.result = search rules in
    let free : is_held c.args.self.now (following c.loop-tried.id) ≡ false = search rules in
    sym (free-here c.args.self.now c.args.self.now c.loop-tried._tried c.loop-tried.id (omega (arith, len, below)) free) ∙ c.loop-tried.invariant

pub returns-then-not-contains-clause-free : goal.returns-then-not-contains-clause-free
returns-then-not-contains-clause-free g c = search rules

pub returns-clause-free : goal.returns-clause-free
returns-clause-free g c =
    let len : c.len-tried-end.result ≡ length c.args.self.now = c.len-tried-end.ensures.value ∙ ap length c.self.view_is in
    let few : length c.args.self.now < 2 ^ 64 = omega (arith, len, c.len-tried-end.ensures.few) in
    let over : length c.args.self.now ≤ c.loop-tried._tried = search (rules, len) in
    let is = sym (free-last c.args.self.now c.args.self.now c.loop-tried._tried c.loop-tried.id over) ∙ c.loop-tried.invariant in
    ap (is_held c.args.self.now) is ∙ next-new c.args.self.now c.args.last few

pub loop-tried-preserved : goal.loop-tried-preserved
loop-tried-preserved g c =
    let len : c.len-tried-end.result ≡ length c.args.self.now = c.len-tried-end.ensures.value ∙ ap length c.self.view_is in
    let below : c.loop-tried._tried < c.len-tried-end.result = search rules in
    let held : is_held c.args.self.now (following c.loop-tried.id) ≡ true = search rules in
    let one : suc c.loop-tried._tried ≡ c.loop-tried._tried + 1 = omega arith in
    subst (λ i. next_free c.args.self.now (drop i c.args.self.now) (following c.loop-tried.id) ≡ next_id c.args.self.now c.args.last) one
    (sym (free-past c.args.self.now c.args.self.now c.loop-tried._tried c.loop-tried.id (omega (arith, len, below)) held) ∙ c.loop-tried.invariant)
