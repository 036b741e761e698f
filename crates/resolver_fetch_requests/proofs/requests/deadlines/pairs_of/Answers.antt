use Rattle.std.proofs.Common.{◌≡◌, ◌∙◌, ◌∷◌, [], ap, rules, arith}
use Rattle.std.proofs.lemmas.Grind.{common_steps}
use Rattle.std.proofs.lemmas.Map.Keys.{sorted_tail}
use Rattle.std.specs.List.{cons_option}
use Rattle.std.specs.Map.{keys_of}
use Rattle.std.specs.Ordering.{nat_cmp}
use Rattle.std.specs.VecDeque.Iter.{deque_iter_rest}
use Rattle.resolver_fetch_requests.specs.Deadlines.{times_of}
use Rattle.resolver_fetch_requests.proofs.Soonest.{nil}
use Rattle.resolver_fetch_requests.proofs.Timed.{all-put}
use Rattle.resolver_fetch_requests.proofs.requests.deadlines.pairs_of.Goals as goal
use Rattle.resolver_sequence.specs.Sequence.{entries_of, entry_in}

pub loop-slot-init : goal.loop-slot-init
loop-slot-init g c =
    let slots : deque_iter_rest c.into_iter-slot-iterator.result ≡ c.slots-slot-items.result.now.items = search rules in
    let rest = ap entries_of slots ∙ c.slots-slot-items.ensures.entries in
    rw rest (c.slots-slot-items.ensures.ordered, λ q. search rules)

pub loop-slot-preserved-in_ok-insert : goal.loop-slot-preserved-in_ok-insert
loop-slot-preserved-in_ok-insert g c =
    let rest = entries_of (deque_iter_rest c.next.new.self) in
    let left : entries_of (deque_iter_rest c.loop-slot.slot-iterator) ≡ (c.in-Held.number, c.in-Held.request) ∷ rest =
    ap entries_of c.in-Some.ensures.steps ∙ ap (λ slot. cons_option (entry_in slot) rest) c.in-Held.is in
    let so_far = rw left at c.loop-slot.invariant in (
      sorted_tail nat_cmp c.in-Held.number (keys_of rest) so_far.0,
      rw c.in_ok-insert.ensures.keys (all-put (times_of c.args.requests.now) c.loop-slot.pairs.keys (c.in-Held.number, c.in-Held.request) rest so_far.0 so_far.1),
    )

pub loop-slot-preserved : goal.loop-slot-preserved
loop-slot-preserved g c =
    let rest = entries_of (deque_iter_rest c.next.new.self) in
    let left : entries_of (deque_iter_rest c.loop-slot.slot-iterator) ≡ rest =
    ap entries_of c.in-Some.ensures.steps ∙ ap (λ slot. cons_option (entry_in slot) rest) c.in_default.is in
    rw left at c.loop-slot.invariant

pub returns-clause-pairs : goal.returns-clause-pairs
returns-clause-pairs g c = λ id.
    let none : deque_iter_rest c.loop-slot.slot-iterator ≡ [] = nil _ (λ some. omega (arith, some, c.in-None.ensures.steps.0)) in
    let so_far = rw none at c.loop-slot.invariant.1 id in
    grind (arith, common_steps, so_far)
