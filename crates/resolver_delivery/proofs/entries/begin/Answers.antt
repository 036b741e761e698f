use Rattle.std.proofs.Common.{rules, ◌≡◌, ◌∙◌, Some}
use Rattle.std.specs.Map.{lookup}
use Rattle.std.specs.BTreeMap.{is_at}
use Rattle.std.proofs.lemmas.Map.Steps.{set_value_same}
use Rattle.resolver_delivery.proofs.entries.begin.Goals as goal

pub returns-in_err-insert-clause-err_keys : goal.returns-in_err-insert-clause-err_keys
returns-in_err-insert-clause-err_keys g c =
    let there : lookup (is_at (g.K.Ord.cmp c.args.begun.delivery.key)) c.args.keys.now.entries ≡ Some c.in-Some.entry.now = search rules in
    let same : (c.get_mut.follows.lender c.in-Some.entry.now).entries ≡ c.args.keys.now.entries =
    (c.get_mut.follows.holds c.in-Some.entry.now).0
    ∙ set_value_same _ c.args.keys.now.entries c.in-Some.entry.now there in
    search (rules, same)
