use Rattle.std.proofs.Common.{◌≡◌, ◌∙◌, ◌+◌, ap, rules, length, None}
use Rattle.std.proofs.lemmas.Cmp.{tied_itself}
use Rattle.std.specs.Map.{lookup, remove_entry}
use Rattle.std.specs.BTreeMap.{is_at}
use Rattle.std.specs.Ordering.{is_eq}
use Rattle.resolver_messages.specs.Places.{IsPlaced}
use Rattle.resolver_types.proofs.Undone.{removed-inserted}
use Rattle.resolver_messages.proofs.PlacesOfKeys.{placed-last}
use Rattle.resolver_messages.proofs.places.Places.insert.Goals as goal

pub returns-clause-placed : goal.returns-clause-placed
returns-clause-placed g c keys placed =
    let places = c.self.inside.by_key.entries in
    let absent : lookup (is_at (g.K.Ord.cmp c.args.key)) places ≡ None = search rules in
    let before : IsPlaced g.K.Ord.cmp places keys = rw c.self.view_is placed in
    let longer : length c.insert.new.self.entries ≡ length places + 1 = search rules in
    placed-last g.K.Ord.cmp g.met.K.Ord.total places c.insert.new.self.entries keys c.args.key _ before absent (search rules) c.in_ok-insert.ensures.updates.0 longer

pub returns-clause-back : goal.returns-clause-back
returns-clause-back g c =
    let places = c.self.inside.by_key.entries in
    let absent : lookup (is_at (g.K.Ord.cmp c.args.key)) places ≡ None = search rules in
    ap (λ entries. remove_entry (is_at (g.K.Ord.cmp c.args.key)) entries) c.in_ok-insert.ensures.entries
    ∙ removed-inserted g.K.Ord.cmp c.args.key places _ (ap is_eq (tied_itself g.met.K.Ord.total c.args.key)) absent
    ∙ c.self.view_is
