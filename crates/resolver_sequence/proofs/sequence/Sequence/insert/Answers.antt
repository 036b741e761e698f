use Rattle.std.proofs.Common.{◌∙◌, ap, length, arith}
use Rattle.std.specs.BTreeMap.{insert_entry}
use Rattle.std.specs.Ordering.{nat_cmp}
use Rattle.resolver_sequence.specs.Sequence.{entries_of}
use Rattle.resolver_sequence.proofs.Slots.{at-within, between-within, entries-fewer, entries-filled, entries-put, entries-sorted, kept-filled, kept-put}
use Rattle.resolver_sequence.proofs.sequence.Sequence.insert.Goals as goal

pub fill-more-requires : goal.fill-more-requires
fill-more-requires g c = at-within c.self.inside.slots.items c.args.number c.in-Ok.at c.in-Ok.ensures

pub put-requires : goal.put-requires
put-requires g c = between-within c.self.inside.slots.items c.args.number c.in-Err.at c.in-Err.ensures

pub overflow_add-self : goal.overflow_add-self
overflow_add-self g c =
    let kept = kept-filled c.self.inside.slots.items c.self.inside.held c.args.number c.in-Ok.at c.args.value c.self.invariant c.in-Ok.ensures in
    let slots = c.fill-more.new.slots in
    omega (arith, kept.counted, entries-fewer slots.items, ap length c.fill-more.ensures.after, ap (λ l. length (entries_of l)) c.fill-more.ensures.after, c.fill-more.ensures.more, slots.ok.0, slots.small.0, slots.small.1)

pub invariant_of-self : goal.invariant_of-self
invariant_of-self g c =
    rw (c.fill-more.ensures.after, c.fill-more.ensures.more) (kept-filled c.self.inside.slots.items c.self.inside.held c.args.number c.in-Ok.at c.args.value c.self.invariant c.in-Ok.ensures)

pub returns-in-Ok-clause-ok : goal.returns-in-Ok-clause-ok
returns-in-Ok-clause-ok g c =
    rw c.fill-more.ensures.after (entries-filled c.self.inside.slots.items c.args.number c.in-Ok.at c.args.value c.self.invariant.rising c.in-Ok.ensures)
    ∙ ap (λ es. insert_entry nat_cmp es c.args.number c.args.value) c.self.view_is

pub returns-in-Ok-clause-ordered : goal.returns-in-Ok-clause-ordered
returns-in-Ok-clause-ordered g c =
    let kept = kept-filled c.self.inside.slots.items c.self.inside.held c.args.number c.in-Ok.at c.args.value c.self.invariant c.in-Ok.ensures in
    rw c.fill-more.ensures.after (entries-sorted _ kept.rising)

pub overflow_add-self-in-Err : goal.overflow_add-self-in-Err
overflow_add-self-in-Err g c =
    let kept = kept-put c.self.inside.slots.items c.self.inside.held c.args.number c.in-Err.at c.args.value c.self.invariant c.in-Err.ensures in
    let slots = c.put.new.slots in
    omega (arith, kept.counted, entries-fewer slots.items, ap length c.in_ok-put-in-Err.ensures.ok, ap (λ l. length (entries_of l)) c.in_ok-put-in-Err.ensures.ok, slots.ok.0, slots.small.0, slots.small.1)

pub invariant_of-self-in-Err : goal.invariant_of-self-in-Err
invariant_of-self-in-Err g c = rw c.in_ok-put-in-Err.ensures.ok (kept-put c.self.inside.slots.items c.self.inside.held c.args.number c.in-Err.at c.args.value c.self.invariant c.in-Err.ensures)

pub returns-in_err-put-in-Err-clause-ordered : goal.returns-in_err-put-in-Err-clause-ordered
returns-in_err-put-in-Err-clause-ordered g c = rw c.in_err-put-in-Err.ensures.err (entries-sorted c.self.inside.slots.items c.self.invariant.rising)

pub returns-in_ok-put-in-Err-clause-ok : goal.returns-in_ok-put-in-Err-clause-ok
returns-in_ok-put-in-Err-clause-ok g c =
    rw c.in_ok-put-in-Err.ensures.ok (entries-put c.self.inside.slots.items c.args.number c.in-Err.at c.args.value c.self.invariant.rising c.in-Err.ensures)
    ∙ ap (λ es. insert_entry nat_cmp es c.args.number c.args.value) c.self.view_is

pub returns-in_ok-put-in-Err-clause-ordered : goal.returns-in_ok-put-in-Err-clause-ordered
returns-in_ok-put-in-Err-clause-ordered g c =
    let kept = kept-put c.self.inside.slots.items c.self.inside.held c.args.number c.in-Err.at c.args.value c.self.invariant c.in-Err.ensures in
    rw c.in_ok-put-in-Err.ensures.ok (entries-sorted _ kept.rising)
