use Rattle.std.proofs.Common.{rules, ◌≡◌, ◌∙◌, Some}
use Rattle.std.specs.Map.{lookup}
use Rattle.std.specs.BTreeMap.{is_at}
use Rattle.std.proofs.lemmas.Map.Steps.{set_value_same}
use Rattle.resolver_delivery.proofs.entries.end.Goals as goal

pub returns-then-ne-clause-ended : goal.returns-then-ne-clause-ended
returns-then-ne-clause-ended g c =
    let there : lookup (is_at (g.K.Ord.cmp c.args.key.now)) c.args.keys.now.entries ≡ Some c.in-Some.entry.now = search rules in
    (c.get_mut.follows.holds c.in-Some.entry.now).0
    ∙ set_value_same _ c.args.keys.now.entries c.in-Some.entry.now there
