use Rattle.std.proofs.Common.{◌≡◌, ◌∙◌, ap, refl, ◌<◌, [], ◌∷◌, ◌++◌, length, Some, rules}
use Rattle.std.specs.BTreeMap.{is_at}
use Rattle.std.specs.Map.{lookup}
use Rattle.std.specs.Option.{option_map_or}
use Rattle.std.specs.Ordering.{is_eq}
use Rattle.std.specs.Prelude.{IsSome}
use Rattle.resolver_fetch_scan.proofs.Tried.{found-equal, read-put, taken-back}
use Rattle.resolver_fetch_scan.proofs.trail.Trail.pop.Goals as goal

pub invariant_of-self-in-Some-get_mut : goal.invariant_of-self-in-Some-get_mut
invariant_of-self-in-Some-get_mut g c =
    let total = g.met.K.Ord.total in
    let last = c.in-Some.last in
    let old = c.self.inside.peers.entries in
    let v = c.pop-in-Some-get_mut.new.self in
    let new = (c.get_mut.follows.lender v).entries in
    let there : lookup (is_at (g.K.Ord.cmp last.key)) old ≡ Some c.in-Some-get_mut.peers.now = search rules in
    let split : c.self.inside.tries.items ≡ c.pop.new.self.items ++ last ∷ [] = search rules in
    let some : 0 < length c.in-Some-get_mut.peers.now.items → IsSome c.pop-in-Some-get_mut.result = λ long. search (rules, long) in
    let updates = ((c.get_mut.follows.holds v).3 (rw there refl)).0 in
    taken-back total c.self.inside.tries.items c.pop.new.self.items last split
    (λ k. option_map_or (λ ps. ps.items) (lookup (is_at (g.K.Ord.cmp k)) old) [])
    (λ k. option_map_or (λ ps. ps.items) (lookup (is_at (g.K.Ord.cmp k)) new) [])
    c.in-Some-get_mut.peers.now.items v.items c.pop-in-Some-get_mut.result c.self.invariant
    (λ k same. ap (λ o. option_map_or (λ ps. ps.items) o []) (found-equal total last.key k old same ∙ there))
    c.pop-in-Some-get_mut.ensures.items
    some
    (λ k. ap (λ o. option_map_or (λ ps. ps.items) o []) (updates k) ∙ read-put (λ ps. ps.items) [] (is_eq (g.K.Ord.cmp last.key k)) v (lookup (is_at (g.K.Ord.cmp k)) old))
