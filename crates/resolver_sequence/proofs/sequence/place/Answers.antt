use Rattle.std.proofs.Common.{◌≡◌, ◌∙◌, ◌<◌, ◌+◌, ◌-◌, ◌%◌, rules, arith, sym, subst}
use Rattle.std.proofs.lemmas.List.Sorted.{answers_always}
use Rattle.std.specs.List.Sorted.{IsSearchInRange}
use Rattle.resolver_sequence.specs.Sequence.{IsBetween, number_of}
use Rattle.resolver_sequence.proofs.Slots.{at-here, past, placed}
use Rattle.resolver_sequence.proofs.sequence.place.Goals as goal

pub returns-then-number : goal.returns-then-number
returns-then-number g c =
    let slots = c.args.slots.now in
    let within : (c.args.number + (18446744073709551616 - number_of c.in-Some.first.now)) % 18446744073709551616 < slots.len = search rules in
    at-here slots.items c.args.number _ c.in-Some-get.slot.now (omega (arith, within, slots.ok.0)) c.in-Some-get.ensures.lookup (search rules)

pub returns-then-number-2 : goal.returns-then-number-2
returns-then-number-2 g c =
    let slots = c.args.slots.now in
    let some : 0 < slots.len = search rules in
    let last = c.in-Some-back.last.now in
    let below : number_of last < c.args.number = search rules in
    subst (IsBetween slots.items c.args.number) (sym (c.len.ensures ∙ slots.ok.0))
    (past slots.items c.args.number (slots.len - 1) last c.requires (omega (arith, some, slots.ok.0)) c.in-Some-back.ensures.lookup below)

pub returns : goal.returns
returns g c =
    let slots = c.args.slots.now in
    placed slots.items c.args.number c.binary_search_by_key.result c.requires
    (subst (IsSearchInRange c.binary_search_by_key.result) slots.ok.0 c.binary_search_by_key.ensures.bound)
    (c.binary_search_by_key.ensures.position number_of (answers_always _ (λ a r. r ≡ number_of a.0.now) _ (λ f a r f' t. search rules)))
