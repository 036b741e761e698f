use Rattle.std.proofs.Common.{◌≡◌, ◌<◌, ◌∙◌, ◌++◌, [], ◌∷◌, ℕ, List, sym, ap, length, slice_set}
use Rattle.std.specs.Prelude.{All}
use Rattle.std.proofs.lemmas.List.{length-set}
use Rattle.resolver_sampling.specs.LeftPlaces.{restored}
use Rattle.resolver_sampling.proofs.Restored.{all-front, all-last, restored-last}
use Rattle.resolver_fetch_scan.proofs.pool.restore.Goals as goal

pub set-requires : goal.set-requires
set-requires c =
    let items : c.loop-place.taken.items ≡ c.pop.new.self.items ++ (c.in-Some.place, c.in-Some.weight) ∷ [] = c.in-Some.ensures.items in
    all-last (λ one. one.0 < length c.loop-place.weights) c.pop.new.self.items (c.in-Some.place, c.in-Some.weight) (rw (← items) c.loop-place.invariant.within)

pub loop-place-preserved : goal.loop-place-preserved
loop-place-preserved c =
    let items : c.loop-place.taken.items ≡ c.pop.new.self.items ++ (c.in-Some.place, c.in-Some.weight) ∷ [] = c.in-Some.ensures.items in
    let before : All (λ one. one.0 < length c.loop-place.weights) c.pop.new.self.items =
    all-front (λ one. one.0 < length c.loop-place.weights) c.pop.new.self.items (c.in-Some.place, c.in-Some.weight) (rw (← items) c.loop-place.invariant.within) in
    let same : length (slice_set c.loop-place.weights c.in-Some.place c.in-Some.weight) ≡ length c.loop-place.weights = length-set c.loop-place.weights c.in-Some.place c.in-Some.weight in
    record {
      weights =
          ap (λ (ws : List ℕ). restored ws c.pop.new.self.items) c.set.ensures
          ∙ sym (restored-last c.loop-place.weights c.pop.new.self.items c.in-Some.place c.in-Some.weight)
          ∙ ap (restored c.loop-place.weights) (sym items)
          ∙ c.loop-place.invariant.weights;
      within = rw (c.set.ensures, same) before;
    }
