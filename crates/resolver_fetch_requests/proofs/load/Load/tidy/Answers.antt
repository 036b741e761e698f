use Rattle.std.proofs.Common.{◌≡◌, ◌∙◌, ap, filter, List, ℕ, rules}
use Rattle.std.specs.NonZero.{non_zero_u32_get}
use Rattle.std.specs.Prelude.{nat_lt}
use Rattle.std.proofs.lemmas.Map.Made.{filter_same_pairs}
use Rattle.resolver_fetch_requests.specs.Loads.{loaded}
use Rattle.resolver_fetch_requests.proofs.Loaded.{loads-tidied}
use Rattle.resolver_fetch_requests.proofs.load.Load.tidy.Goals as goal

pub returns : goal.returns
returns g c =
    let counts = c.self.inside.counts.entries in
    let limit = non_zero_u32_get c.self.inside.limit in
    let left : c.retain.new.self.entries ≡ filter (λ e. nat_lt 0 e.1) counts =
    filter_same_pairs _ (λ e. nat_lt 0 e.1) _ (λ k v b w f' t. (search rules, search rules, search rules)) _ _ c.retain.ensures.filtered in
    rw (← c.self.view_is)
    (ap (λ (es : List (g.row.P.Denot × ℕ)). loaded g.P.Ord.cmp (record { limit = limit; counts = es })) left
    ∙ loads-tidied g.met.P.Ord.total limit counts c.retain.ensures.was_ordered)
