use Rattle.std.proofs.Common.{◌≡◌, ◌-◌, ◌∙◌, refl, ap, subst, Some, Option, List, ℕ}
use Rattle.std.specs.BTreeMap.{is_at}
use Rattle.std.specs.Map.{lookup, set_value}
use Rattle.std.specs.NonZero.{non_zero_u32_get}
use Rattle.std.specs.Prelude.{IsSome, unwrap_or}
use Rattle.resolver_fetch_requests.specs.Loads.{loaded}
use Rattle.resolver_fetch_requests.proofs.Loaded.{loads-fewer, set-updates}
use Rattle.resolver_fetch_requests.proofs.load.Load.remove.Goals as goal

pub returns-clause-fewer : goal.returns-clause-fewer
returns-clause-fewer g c =
    let counts = c.self.inside.counts.entries in
    let peer = c.args.peer.now in
    let left = c.saturating_sub.result in
    let held : Some c.in-Some.count.now ≡ lookup (is_at (g.P.Ord.cmp peer)) counts = c.in-Some.ensures.value in
    let found : IsSome (lookup (is_at (g.P.Ord.cmp peer)) counts) = subst (λ (o : Option ℕ). IsSome o) held refl in
    let limit = non_zero_u32_get c.self.inside.limit in
    rw (← c.self.view_is)
    (ap (λ (es : List (g.row.P.Denot × ℕ)). loaded g.P.Ord.cmp (record { limit = limit; counts = es })) (c.get_mut.follows.holds left).0
    ∙ loads-fewer g.met.P.Ord.total peer counts (set_value (is_at (g.P.Ord.cmp peer)) counts left) (Some left)
    (set-updates g.met.P.Ord.total peer left counts found) limit (c.saturating_sub.ensures ∙ ap (λ (o : Option ℕ). unwrap_or o 0 - 1) held))
