use Rattle.std.proofs.Common.{◌∙◌, ap, sym, arith}
use Rattle.std.specs.BTreeMap.{is_at}
use Rattle.std.specs.Map.{lookup}
use Rattle.std.specs.Ordering.{nat_cmp}
use Rattle.resolver_sequence.proofs.Slots.{at-within, found, missed, value-here}
use Rattle.resolver_sequence.proofs.sequence.Sequence.get.Goals as goal

pub index-requires : goal.index-requires
index-requires g c =
    let slots = c.self.inside.slots in
    omega (arith, at-within slots.items c.args.number c.in-Ok.at c.in-Ok.ensures, slots.ok.0)

pub returns-in-Ok : goal.returns-in-Ok
returns-in-Ok g c =
    let slots = c.self.inside.slots in
    let within = at-within slots.items c.args.number c.in-Ok.at c.in-Ok.ensures in
    c.value.ensures ∙ value-here slots.items c.in-Ok.at c.index.result.now within c.index.ensures
    ∙ sym (found slots.items c.args.number c.in-Ok.at c.self.invariant.rising c.in-Ok.ensures) ∙ ap (lookup (is_at (nat_cmp c.args.number))) c.self.view_is

pub returns-in-Err : goal.returns-in-Err
returns-in-Err g c =
    sym (missed c.self.inside.slots.items c.args.number c.in-Err.field-0 c.self.invariant.rising c.in-Err.ensures) ∙ ap (lookup (is_at (nat_cmp c.args.number))) c.self.view_is
