-- Keys in a strict order, with one put in, replaced or taken out.
use Rattle.std.proofs.Common.{◌≡◌, refl, ap, sym, ◌∙◌, false, List, [], ◌∷◌, arith}
use Rattle.std.proofs.lemmas.Grind.{common_steps}
use Rattle.std.proofs.lemmas.Cmp.{alike_right}
use Rattle.std.specs.Cmp.{IsTotalOrder}
use Rattle.std.specs.List.{AllByRecursion}
use Rattle.std.specs.List.Sorted.{IsStrictlySortedBy}
use Rattle.std.specs.Ordering.{is_eq}
use Rattle.std.specs.declared.cmp.Ordering.{Ordering}
use Rattle.std.specs.declared.cmp.Ordering.TheVariants.{Less, Equal, Greater}
use Rattle.std.specs.BTreeMap.{is_at}
use Rattle.std.specs.BTreeSet.{insert_key, replace_key}
use Rattle.std.specs.Set.{remove_key}

module _ {K : Type 0} {d : K → K → Ordering} (o : IsTotalOrder d) where
  -- what is above e is above what is below e
  pub above-less : (k e : K) (ks : List K) → d k e ≡ Less → AllByRecursion (λ y. d e y ≡ Less) ks → AllByRecursion (λ y. d k y ≡ Less) ks
  above-less k e [] below all = tt
  above-less k e (y ∷ ks) below all = (o.trans k e y below all.0, above-less k e ks below all.1)

  -- what is above e is above what is equal to e
  pub above-equal : (k e : K) (ks : List K) → d k e ≡ Equal → AllByRecursion (λ y. d e y ≡ Less) ks → AllByRecursion (λ y. d k y ≡ Less) ks
  above-equal k e [] same all = tt
  above-equal k e (y ∷ ks) same all = (o.congr k e y same ∙ all.0, above-equal k e ks same all.1)

  -- a key below all goes to the front
  pub insert_key-front : (k : K) (ks : List K) → AllByRecursion (λ y. d k y ≡ Less) ks → insert_key d ks k ≡ k ∷ ks
  insert_key-front k [] all = refl
  insert_key-front k (y ∷ ks) all = rw all.0 refl

  -- a key below all isn't there
  pub remove_key-none : (k : K) (ks : List K) → AllByRecursion (λ y. d k y ≡ Less) ks → remove_key (is_at (d k)) ks ≡ ks
  remove_key-none k [] all = refl
  remove_key-none k (y ∷ ks) all = let rest = remove_key-none k ks all.1 in rw (all.0, rest) refl

  -- a key that replaces an equal one is put in once that one is gone
  pub replace_key-put : (k : K) (ks : List K) → IsStrictlySortedBy d ks → replace_key d ks k ≡ insert_key d (remove_key (is_at (d k)) ks) k
  unfolding IsStrictlySortedBy
  replace_key-put k [] sorted = refl
  replace_key-put k (e ∷ ks) sorted =
      let rest = replace_key-put k ks sorted.1 in
      let step : (r : Ordering) → d k e ≡ r → replace_key d (e ∷ ks) k ≡ insert_key d (remove_key (is_at (d k)) (e ∷ ks)) k =
      λ r is. elim r as (λ r. d k e ≡ r → replace_key d (e ∷ ks) k ≡ insert_key d (remove_key (is_at (d k)) (e ∷ ks)) k) [
        | Less ↦ λ is. let gone = remove_key-none k ks (above-less k e ks is sorted.0) in rw (is, is, gone) refl
        | Equal ↦ λ is. rw (is, insert_key-front k ks (above-equal k e ks is sorted.0)) refl
        | Greater ↦ λ is. rw (is, is, rest) refl
      ] is in
      step (d k e) refl

  -- one key is put in and another is taken out, in either order
  pub remove_key-put : (j k : K) (ks : List K) → is_eq (d j k) ≡ false → IsStrictlySortedBy d ks
      → remove_key (is_at (d j)) (insert_key d ks k) ≡ insert_key d (remove_key (is_at (d j)) ks) k
  unfolding IsStrictlySortedBy
  remove_key-put j k [] other sorted = rw other refl
  remove_key-put j k (e ∷ ks) other sorted =
      let rest = remove_key-put j k ks other sorted.1 in
      let front : d k e ≡ Less → insert_key d ks k ≡ k ∷ ks = λ is. insert_key-front k ks (above-less k e ks is sorted.0) in
      let apart : d k e ≡ Equal → is_eq (d j e) ≡ false = λ is. ap is_eq (sym (alike_right o k e j is)) ∙ other in
      grind (arith, common_steps, rest, front, apart, other)
