use Rattle.std.proofs.Common.{◌≡◌, ◌+◌, ◌∙◌, refl, ap, subst, cond, BTreeMap, None, Some, Option, List, ℕ}
use Rattle.std.specs.BTreeMap.{is_at}
use Rattle.std.specs.Map.{lookup, set_value}
use Rattle.std.specs.NonZero.{non_zero_u32_get}
use Rattle.std.specs.Prelude.{IsSome, unwrap_or}
use Rattle.resolver_fetch_requests.specs.Loads.{loaded}
use Rattle.resolver_fetch_requests.proofs.Loaded.{loads-more, set-updates}
use Rattle.resolver_fetch_requests.proofs.load.Load.add.Goals as goal

pub returns-in-Some-clause-ok : goal.returns-in-Some-clause-ok
returns-in-Some-clause-ok g c =
    let counts = c.self.inside.counts.entries in
    let peer = c.args.peer in
    let now = c.in-Some.count.now in
    let held : Some now ≡ lookup (is_at (g.P.Ord.cmp peer)) counts = c.in-Some.ensures.value in
    let found : IsSome (lookup (is_at (g.P.Ord.cmp peer)) counts) = subst (λ (o : Option ℕ). IsSome o) held refl in
    let limit = non_zero_u32_get c.self.inside.limit in
    rw (← c.self.view_is)
    (ap (λ (es : List (g.row.P.Denot × ℕ)). loaded g.P.Ord.cmp (record { limit = limit; counts = es })) (c.get_mut.follows.holds (now + 1)).0
    ∙ loads-more g.met.P.Ord.total peer counts (set_value (is_at (g.P.Ord.cmp peer)) counts (now + 1)) (Some (now + 1))
    (set-updates g.met.P.Ord.total peer (now + 1) counts found) limit (ap (λ (o : Option ℕ). unwrap_or o 0 + 1) held))

pub returns-clause-ok : goal.returns-clause-ok
returns-clause-ok g c =
    let counts = c.self.inside.counts.entries in
    let peer = c.args.peer in
    let none : None ≡ lookup (is_at (g.P.Ord.cmp peer)) counts = c.in_default.ensures.value in
    rw (← c.self.view_is)
    (loads-more g.met.P.Ord.total peer counts c.insert.new.self.entries (Some 1)
    (λ q. c.in_ok-insert.ensures.updates.0 q ∙ ap (λ (m : BTreeMap g.row.P.Denot ℕ). cond (is_at (g.P.Ord.cmp peer) q) (Some 1) (lookup (is_at (g.P.Ord.cmp q)) m.entries)) c.get_mut.follows.holds-at-none)
    (non_zero_u32_get c.self.inside.limit) (ap (λ (o : Option ℕ). unwrap_or o 0 + 1) none))
