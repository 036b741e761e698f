use Rattle.std.proofs.Common.{rules, ◌≡◌, ◌∙◌, ap, Some}
use Rattle.std.specs.Map.{lookup, set_value}
use Rattle.std.specs.BTreeMap.{is_at}
use Rattle.std.proofs.lemmas.Map.Steps.{set_value_same}
use Rattle.resolver_demand.proofs.ListedRows.{listed-of}
use Rattle.resolver_demand.proofs.subscribers.attach_to.Goals as goal

pub returns-in_err-attach_all-clause-err : goal.returns-in_err-attach_all-clause-err
returns-in_err-attach_all-clause-err g c =
    let there : lookup (is_at (g.K.Ord.cmp c.args.key.now)) c.args.demand.now.entries ≡ Some c.in-Some.subscribers.now = search rules in
    let same : (c.get_mut.follows.lender c.attach_all.new.self).entries ≡ c.args.demand.now.entries =
    (c.get_mut.follows.holds c.attach_all.new.self).0
    ∙ ap (λ w. set_value (is_at (g.K.Ord.cmp c.args.key.now)) c.args.demand.now.entries w) c.in_err-attach_all.ensures.err
    ∙ set_value_same _ c.args.demand.now.entries c.in-Some.subscribers.now there in
    search (rules, same)

pub attach_all-requires-clause-ordered : goal.attach_all-requires-clause-ordered
attach_all-requires-clause-ordered g c =
    (listed-of g.S.Ord.cmp (is_at (g.K.Ord.cmp c.args.key.now)) c.args.demand.now.entries c.in-Some.subscribers.now c.requires.listed (search rules)).ordered
