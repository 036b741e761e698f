use Rattle.std.proofs.Common.{◌≡◌, filter, rules, ap}
use Rattle.std.proofs.lemmas.Map.Made.{filter_same_pairs}
use Rattle.resolver_delivery.specs.Entries.{Numbered, retained}
use Rattle.resolver_delivery.proofs.entries.Entries.retain.Goals as goal

pub returns-clause-after : goal.returns-clause-after
returns-clause-after g c = λ test pure.
    let left : c.retain.new.self.entries ≡ filter (λ e. test e.0) c.self.inside.keys.entries =
    filter_same_pairs _ (λ e. test e.0) _ (λ k v b w f' t. (pure.by k b (rw (← t.shows.0) (search rules)), search rules, search rules)) _ _ c.retain.ensures.filtered in
    rw left (ap (λ (d : Numbered _ _ _ _ _). retained test d) c.self.view_is)
