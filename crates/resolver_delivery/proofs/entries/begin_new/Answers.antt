use Rattle.std.proofs.Common.{rules, ◌≡◌, ◌∙◌, sym, ap, Some}
use Rattle.std.specs.Map.{lookup}
use Rattle.std.specs.BTreeMap.{get, is_at}
use Rattle.std.proofs.lemmas.Map.Steps.{set_value_same}
use Rattle.resolver_delivery.specs.Entries.{changed_at, numbered, with_response}
use Rattle.resolver_delivery.proofs.entries.begin_new.Goals as goal

pub returns-in_err-insert-clause-err_keys : goal.returns-in_err-insert-clause-err_keys
returns-in_err-insert-clause-err_keys g c =
    let there : lookup (is_at (g.K.Ord.cmp c.args.begun.delivery.key)) c.args.keys.now.entries ≡ Some c.in-Some.entry.now = search rules in
    let same : (c.get_mut.follows.lender c.in-Some.entry.now).entries ≡ c.args.keys.now.entries =
    (c.get_mut.follows.holds c.in-Some.entry.now).0
    ∙ set_value_same _ c.args.keys.now.entries c.in-Some.entry.now there in
    search (rules, same)

pub returns-clause-held : goal.returns-clause-held
returns-clause-held g c =
    let there : get g.K.Ord.cmp c.args.keys.now c.args.begun.delivery.key ≡ Some c.in-Some.entry.now = search rules in
    (c.get_mut.follows.holds (record { number = Some c.args.number; response = Some c.args.response; state = c.in-Some.entry.now.state })).0
    ∙ ap (λ o. changed_at (is_at (g.K.Ord.cmp c.args.begun.delivery.key)) o (λ e. numbered c.args.number (with_response (Some c.args.response) e)) c.args.keys.now.entries) (sym there)
