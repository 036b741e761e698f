-- Whom the tries of a scan name for each key.
use Rattle.std.proofs.Common.{◌≡◌, refl, ap, ◌∙◌, sym, ◌<◌, Bool, true, false, List, [], ◌∷◌, ◌++◌, length, map, Option, None, Some, if◌then◌else◌, cond, arith}
use Rattle.std.proofs.lemmas.Cmp.{eq_by_cmp_equiv}
use Rattle.std.proofs.lemmas.Grind.{common_steps}
use Rattle.std.proofs.lemmas.List.{same_from_push}
use Rattle.std.specs.Cmp.{IsTotalOrder}
use Rattle.std.specs.Map.{lookup}
use Rattle.std.specs.Option.{option_map_or}
use Rattle.std.specs.Prelude.{IsSome, option_to_list}
use Rattle.std.specs.BTreeMap.{is_at}
use Rattle.std.specs.Ordering.{is_eq}
use Rattle.std.specs.declared.cmp.Ordering.{Ordering}
use Rattle.std.specs.declared.cmp.Ordering.TheVariants.{Less, Equal, Greater}
use Rattle.resolver_fetch_scan.specs.declared.trail.Try.{Try}
use Rattle.resolver_fetch_scan.specs.Orders.{Orders, is_one_of}
use Rattle.resolver_fetch_scan.specs.Scan.{was_tried}
use Rattle.resolver_fetch_scan.specs.Tried.{noted, peers_tried}

module _ {K P : Type 0} (o : Orders K P) (key : K) (peer : P) where
  -- a peer was tried for a key if it is one of those that were
  pub tried-one-of : (trail : List (Try K P)) → was_tried o trail key peer ≡ is_one_of o.peer (peers_tried o.key trail key) peer
  tried-one-of [] = refl
  tried-one-of (t ∷ trail) = let rest = tried-one-of trail in grind (arith, common_steps, rest)

module _ {K P : Type 0} (by_key : K → K → Ordering) (t : Try K P) (key : K) where
  -- one try more
  pub tried-more : (trail : List (Try K P)) → peers_tried by_key (trail ++ t ∷ []) key ≡ noted (is_eq (by_key key t.key)) t.peer (peers_tried by_key trail key)
  tried-more [] = at (is_eq (by_key key t.key)) where
    at : (b : Bool) → map (λ (u : Try K P). u.peer) (cond b (t ∷ []) []) ≡ noted b t.peer []
    at true = refl
    at false = refl
  tried-more (u ∷ trail) = let rest = tried-more trail in grind (arith, common_steps, rest)

pub equal-is : (r : Ordering) → is_eq r ≡ true → r ≡ Equal
equal-is Less is = absurd cc
equal-is Equal is = refl
equal-is Greater is = absurd cc

module _ {K : Type 0} {cmp : K → K → Ordering} (total : IsTotalOrder cmp) where
  -- two keys are equal in either order
  pub equal-back : (j k : K) → is_eq (cmp j k) ≡ is_eq (cmp k j)
  equal-back j k = (eq_by_cmp_equiv total).symm j k

  -- equal keys find the same
  pub found-equal : {X : Type 0} (j k : K) (es : List (K × X)) → is_eq (cmp j k) ≡ true → lookup (is_at (cmp k)) es ≡ lookup (is_at (cmp j)) es
  found-equal j k es same = sym (ap (λ (c : K → Ordering). lookup (is_at c) es) (λ i z. total.congr j k z (equal-is (cmp j k) same) i))

-- what is read of a value that is put where a test passes
pub read-put : {X Y : Type 0} (read : X → Y) (none : Y) (b : Bool) (x : X) (old : Option X) → option_map_or read (cond b (Some x) old) none ≡ (if b then read x else option_map_or read old none)
read-put read none true x old = refl
read-put read none false x old = refl

long : {P : Type 0} (ys : List P) (y : P) → 0 < length (ys ++ y ∷ [])
long [] y = omega arith
long (z ∷ ys) y = omega (arith, long ys y)

-- what is left of a list that ends with one item more, once an item was taken from its end
popped : {P : Type 0} (all theirs before : List P) (y : P) (r : Option P) → all ≡ before ++ y ∷ [] → all ≡ theirs ++ option_to_list r → (0 < length all → IsSome r) → theirs ≡ before
popped {P} all theirs before y None is split some = let none : IsSome {T = P} None = some (rw is (long before y)) in absurd cc
popped all theirs before y (Some x) is split some = (same_from_push theirs before x y (sym split ∙ is)).0

module _ {K P : Type 0} {cmp : K → K → Ordering} (total : IsTotalOrder cmp) (trail before : List (Try K P)) (last : Try K P) (split : trail ≡ before ++ last ∷ []) where
  -- the peers of a key are those that the tries before the last name, once the last is taken from its own
  pub taken-back : (names new : K → List P) (all theirs : List P) (r : Option P) → ((k : K) → names k ≡ peers_tried cmp trail k)
      → ((k : K) → is_eq (cmp last.key k) ≡ true → names k ≡ all) → all ≡ theirs ++ option_to_list r → (0 < length all → IsSome r)
      → ((k : K) → new k ≡ (if is_eq (cmp last.key k) then theirs else names k)) → (k : K) → new k ≡ peers_tried cmp before k
  taken-back names new all theirs r named same cut some after k = after k ∙ at (is_eq (cmp last.key k)) refl where
    grown : (b : Bool) → is_eq (cmp last.key k) ≡ b → names k ≡ noted b last.peer (peers_tried cmp before k)
    grown b is = named k ∙ ap (λ ts. peers_tried cmp ts k) split ∙ tried-more cmp last k before ∙ ap (λ c. noted c last.peer (peers_tried cmp before k)) (equal-back total k last.key ∙ is)

    at : (b : Bool) → is_eq (cmp last.key k) ≡ b → (if b then theirs else names k) ≡ peers_tried cmp before k
    at true is = popped all theirs (peers_tried cmp before k) last.peer r (sym (same k is) ∙ grown true is) cut some
    at false is = grown false is
