use Rattle.std.proofs.Common.{◌∙◌, ap, sym, None}
use Rattle.std.specs.BTreeMap.{is_at}
use Rattle.std.specs.Map.{lookup, remove_entry}
use Rattle.std.specs.Ordering.{nat_cmp}
use Rattle.resolver_sequence.specs.Sequence.{entries_of}
use Rattle.resolver_sequence.proofs.Slots.{at-within, entries-emptied, entries-sorted, found, kept-emptied, missed, numbers-same, remove-none, with-same}
use Rattle.resolver_sequence.proofs.sequence.Sequence.remove.Goals as goal

pub empty-requires : goal.empty-requires
empty-requires g c = at-within c.self.inside.slots.items c.args.number c.in-Ok.at c.in-Ok.ensures

pub trim-requires : goal.trim-requires
trim-requires g c = rw (c.empty.ensures.after, numbers-same c.self.inside.slots.items c.in-Ok.at None) c.self.invariant.rising

pub invariant_of-self : goal.invariant_of-self
invariant_of-self g c =
    rw (c.empty.ensures.after, with-same c.self.inside.slots.items c.in-Ok.at None c.in_err-value-in-Ok.ensures.had) c.self.invariant

pub returns-in_err-value-in-Ok-clause-value : goal.returns-in_err-value-in-Ok-clause-value
returns-in_err-value-in-Ok-clause-value g c =
    c.from_residual.ensures ∙ c.in_err-value-in-Ok.ensures.had
    ∙ sym (found c.self.inside.slots.items c.args.number c.in-Ok.at c.self.invariant.rising c.in-Ok.ensures) ∙ ap (lookup (is_at (nat_cmp c.args.number))) c.self.view_is

pub returns-in_err-value-in-Ok-clause-after : goal.returns-in_err-value-in-Ok-clause-after
returns-in_err-value-in-Ok-clause-after g c =
    rw (c.empty.ensures.after, ← c.self.view_is) (entries-emptied c.self.inside.slots.items c.args.number c.in-Ok.at c.self.invariant.rising c.in-Ok.ensures)

pub returns-in_err-value-in-Ok-clause-ordered : goal.returns-in_err-value-in-Ok-clause-ordered
returns-in_err-value-in-Ok-clause-ordered g c =
    rw (c.empty.ensures.after, with-same c.self.inside.slots.items c.in-Ok.at None c.in_err-value-in-Ok.ensures.had) (entries-sorted c.self.inside.slots.items c.self.invariant.rising)

pub invariant_of-self-in-Ok : goal.invariant_of-self-in-Ok
invariant_of-self-in-Ok g c =
    kept-emptied c.self.inside.slots.items c.squeeze.new.slots.items c.self.inside.held c.args.number c.in-Ok.at c.in_ok-value-in-Ok.value c.self.invariant c.in-Ok.ensures
    (sym c.in_ok-value-in-Ok.ensures.had) (c.squeeze.ensures.same ∙ c.trim.ensures.same ∙ ap entries_of c.empty.ensures.after) c.squeeze.ensures.rising c.squeeze.ensures.full

pub returns-in_ok-value-in-Ok-clause-value : goal.returns-in_ok-value-in-Ok-clause-value
returns-in_ok-value-in-Ok-clause-value g c =
    c.in_ok-value-in-Ok.ensures.had ∙ sym (found c.self.inside.slots.items c.args.number c.in-Ok.at c.self.invariant.rising c.in-Ok.ensures) ∙ ap (lookup (is_at (nat_cmp c.args.number))) c.self.view_is

pub returns-in_ok-value-in-Ok-clause-after : goal.returns-in_ok-value-in-Ok-clause-after
returns-in_ok-value-in-Ok-clause-after g c =
    c.squeeze.ensures.same ∙ c.trim.ensures.same ∙ ap entries_of c.empty.ensures.after
    ∙ entries-emptied c.self.inside.slots.items c.args.number c.in-Ok.at c.self.invariant.rising c.in-Ok.ensures ∙ ap (remove_entry (is_at (nat_cmp c.args.number))) c.self.view_is

pub returns-in_ok-value-in-Ok-clause-ordered : goal.returns-in_ok-value-in-Ok-clause-ordered
returns-in_ok-value-in-Ok-clause-ordered g c = entries-sorted c.squeeze.new.slots.items c.squeeze.ensures.rising

pub returns-in-Err-clause-value : goal.returns-in-Err-clause-value
returns-in-Err-clause-value g c = sym (missed c.self.inside.slots.items c.args.number c.in-Err.field-0 c.self.invariant.rising c.in-Err.ensures) ∙ ap (lookup (is_at (nat_cmp c.args.number))) c.self.view_is

pub returns-in-Err-clause-after : goal.returns-in-Err-clause-after
returns-in-Err-clause-after g c =
    rw (← c.self.view_is) (sym (remove-none c.args.number _ (missed c.self.inside.slots.items c.args.number c.in-Err.field-0 c.self.invariant.rising c.in-Err.ensures)))

pub returns-in-Err-clause-ordered : goal.returns-in-Err-clause-ordered
returns-in-Err-clause-ordered g c = rw (← c.self.view_is) (entries-sorted c.self.inside.slots.items c.self.invariant.rising)

pub returns-in_err-value-in-Ok-clause-none : goal.returns-in_err-value-in-Ok-clause-none
returns-in_err-value-in-Ok-clause-none g c =
    rw (c.from_residual.ensures, c.empty.ensures.after, with-same c.self.inside.slots.items c.in-Ok.at None c.in_err-value-in-Ok.ensures.had) c.self.view_is
