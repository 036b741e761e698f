-- Deliveries by their numbers: one more, or one less, and whose the others are.
use Rattle.std.proofs.Common.{◌≡◌, refl, ap, sym, ◌∙◌, subst, ℕ, ◌+◌, ◌<◌, Bool, true, false, List, [], ◌∷◌, Option, None, Some, cond, arith, rules}
use Rattle.std.proofs.lemmas.Grind.{common_steps}
use Rattle.std.specs.List.{AllByRecursion}
use Rattle.std.specs.Map.{keys_of, lookup, remove_entry}
use Rattle.std.specs.BTreeMap.{insert_entry, is_at}
use Rattle.std.specs.Ordering.{is_eq, match_ordering, nat_cmp}
use Rattle.std.specs.declared.cmp.Ordering.{Ordering}
use Rattle.std.specs.declared.cmp.Ordering.TheVariants.{Less, Equal, Greater}
use Rattle.resolver_model_peer.specs.PeerRows.{Row, Phase, Waits, Asked, Judged, Judging}
use Rattle.resolver_model_peer.specs.Peer.{Open}
use Rattle.resolver_peer_step.specs.Tied.{AreOwn, IsGiven, IsOwn}
use Rattle.resolver_peer_step.proofs.Requests.{at-number}

equal-number : (n k : ℕ) → nat_cmp n k ≡ Equal → n ≡ k
equal-number n k is = at-number n k (ap is_eq is)

below-later : (ks : List ℕ) (n : ℕ) → AllByRecursion (λ k. k < n) ks → AllByRecursion (λ k. k < n + 1) ks
below-later [] n below = tt
below-later (k ∷ ks) n below = let here = below.0 in (search (rules, arith, here), below-later ks n below.1)

module _ {X : Type 0} where
  -- another number is found as before
  pub lookup-grown : (ds : List (ℕ × X)) (n i : ℕ) (v : X) → is_at (nat_cmp i) n ≡ false → lookup (is_at (nat_cmp i)) (insert_entry nat_cmp ds n v) ≡ lookup (is_at (nat_cmp i)) ds
  lookup-grown [] n i v other = rw other refl
  lookup-grown (d ∷ ds) n i v other = at (nat_cmp n d.0) refl (lookup-grown ds n i v other)
    where
      at : (r : Ordering) → nat_cmp n d.0 ≡ r → lookup (is_at (nat_cmp i)) (insert_entry nat_cmp ds n v) ≡ lookup (is_at (nat_cmp i)) ds
          → lookup (is_at (nat_cmp i)) (match_ordering r ((n, v) ∷ d ∷ ds) ((d.0, v) ∷ ds) (d ∷ insert_entry nat_cmp ds n v)) ≡ lookup (is_at (nat_cmp i)) (d ∷ ds)
      at Less is rest = rw other refl
      at Equal is rest = let there : is_at (nat_cmp i) d.0 ≡ false = subst (λ k. is_at (nat_cmp i) k ≡ false) (equal-number n d.0 is) other in rw there refl
      at Greater is rest = ap (λ found. cond (is_at (nat_cmp i) d.0) (Some d.1) found) rest

  -- a new number is found
  pub lookup-new : (ds : List (ℕ × X)) (n : ℕ) (v : X) → lookup (is_at (nat_cmp n)) (insert_entry nat_cmp ds n v) ≡ Some v
  lookup-new [] n v = let here : is_at (nat_cmp n) n ≡ true = grind (arith, common_steps) in rw here refl
  lookup-new (d ∷ ds) n v = at (nat_cmp n d.0) refl (lookup-new ds n v)
    where
      at : (r : Ordering) → nat_cmp n d.0 ≡ r → lookup (is_at (nat_cmp n)) (insert_entry nat_cmp ds n v) ≡ Some v
          → lookup (is_at (nat_cmp n)) (match_ordering r ((n, v) ∷ d ∷ ds) ((d.0, v) ∷ ds) (d ∷ insert_entry nat_cmp ds n v)) ≡ Some v
      at Less is rest = let here : is_at (nat_cmp n) n ≡ true = grind (arith, common_steps) in rw here refl
      at Equal is rest = rw is refl
      at Greater is rest = rw is rest

  pub lookup-less : (ds : List (ℕ × X)) (n i : ℕ) → is_at (nat_cmp i) n ≡ false → lookup (is_at (nat_cmp i)) (remove_entry (is_at (nat_cmp n)) ds) ≡ lookup (is_at (nat_cmp i)) ds
  lookup-less [] n i other = refl
  lookup-less (d ∷ ds) n i other = at (is_at (nat_cmp n) d.0) refl (lookup-less ds n i other)
    where
      at : (b : Bool) → is_at (nat_cmp n) d.0 ≡ b → lookup (is_at (nat_cmp i)) (remove_entry (is_at (nat_cmp n)) ds) ≡ lookup (is_at (nat_cmp i)) ds
          → lookup (is_at (nat_cmp i)) (cond b ds (d ∷ remove_entry (is_at (nat_cmp n)) ds)) ≡ lookup (is_at (nat_cmp i)) (d ∷ ds)
      at true is rest = let there : is_at (nat_cmp i) d.0 ≡ false = subst (λ k. is_at (nat_cmp i) k ≡ false) (at-number n d.0 is) other in rw there refl
      at false is rest = ap (λ found. cond (is_at (nat_cmp i) d.0) (Some d.1) found) rest

  pub found-below : (ds : List (ℕ × X)) (n i : ℕ) (x : X) → AllByRecursion (λ k. k < n) (keys_of ds) → lookup (is_at (nat_cmp i)) ds ≡ Some x → i < n
  found-below [] n i x below found = absurd cc
  found-below (d ∷ ds) n i x below found = at (is_at (nat_cmp i) d.0) refl found (found-below ds n i x below.1)
    where
      at : (b : Bool) → is_at (nat_cmp i) d.0 ≡ b → cond b (Some d.1) (lookup (is_at (nat_cmp i)) ds) ≡ Some x → (lookup (is_at (nat_cmp i)) ds ≡ Some x → i < n) → i < n
      at true is found rest = subst (λ k. k < n) (sym (at-number i d.0 is)) below.0
      at false is found rest = rest found

  -- the numbers stay below the next one
  pub below-grown : (ds : List (ℕ × X)) (n : ℕ) (v : X) → AllByRecursion (λ k. k < n) (keys_of ds) → AllByRecursion (λ k. k < n + 1) (keys_of (insert_entry nat_cmp ds n v))
  below-grown [] n v below = (search (rules, arith), tt)
  below-grown (d ∷ ds) n v below = at (nat_cmp n d.0) (below-grown ds n v below.1)
    where
      at : (r : Ordering) → AllByRecursion (λ k. k < n + 1) (keys_of (insert_entry nat_cmp ds n v))
          → AllByRecursion (λ k. k < n + 1) (keys_of (match_ordering r ((n, v) ∷ d ∷ ds) ((d.0, v) ∷ ds) (d ∷ insert_entry nat_cmp ds n v)))
      at Less rest = (search (rules, arith), below-later (d.0 ∷ keys_of ds) n below)
      at Equal rest = below-later (d.0 ∷ keys_of ds) n below
      at Greater rest = ((below-later (d.0 ∷ keys_of ds) n below).0, rest)

  pub below-less : (ds : List (ℕ × X)) (test : ℕ → Bool) (n : ℕ) → AllByRecursion (λ k. k < n) (keys_of ds) → AllByRecursion (λ k. k < n) (keys_of (remove_entry test ds))
  below-less [] test n below = tt
  below-less (d ∷ ds) test n below = at (test d.0) (below-less ds test n below.1)
    where
      at : (b : Bool) → AllByRecursion (λ k. k < n) (keys_of (remove_entry test ds)) → AllByRecursion (λ k. k < n) (keys_of (cond b ds (d ∷ remove_entry test ds)))
      at true rest = below.1
      at false rest = (below.0, rest)

below-other : (i n : ℕ) → i < n → is_at (nat_cmp i) n ≡ false
below-other i n below = grind (arith, common_steps, below)

module _ {K S P : Type 0} where
  -- a delivery that is new takes nothing from the rows
  pub own-grown : (ds : List (ℕ × Open K S P)) (n : ℕ) (v : Open K S P) (rows : List (K × Row K S P)) → AllByRecursion (λ k. k < n) (keys_of ds) → AreOwn ds rows → AreOwn (insert_entry nat_cmp ds n v) rows
  own-grown ds n v [] below own = tt
  own-grown ds n v (r ∷ rows) below own = (at r.1.phase own.0, own-grown ds n v rows below own.1)
    where
      at : (phase : Phase K P) → IsOwn ds r.0 phase → IsOwn (insert_entry nat_cmp ds n v) r.0 phase
      at (Waits place) own = tt
      at (Asked id request) own = own
      at (Judged j) own = record {
        begun = own.begun;
        found = lookup-grown ds n j.number v (below-other j.number n (found-below ds n j.number own.begun below own.found)) ∙ own.found;
        named = own.named;
        response = own.response;
        source = own.source;
        accepted = own.accepted;
      }

  -- a delivery that is over takes nothing from the rows of other keys
  pub own-less : (by_key : K → K → Ordering) (ds : List (ℕ × Open K S P)) (n : ℕ) (h : Open K S P) (rows : List (K × Row K S P)) → lookup (is_at (nat_cmp n)) ds ≡ Some h
      → AllByRecursion (λ k. is_eq (by_key h.handed.key k) ≡ false) (keys_of rows) → ((k : K) → is_eq (by_key k k) ≡ true) → AreOwn ds rows → AreOwn (remove_entry (is_at (nat_cmp n)) ds) rows
  own-less by_key ds n h [] there apart itself own = tt
  own-less by_key ds n h (r ∷ rows) there apart itself own = (at r.1.phase own.0, own-less by_key ds n h rows there apart.1 itself own.1)
    where
      some : (x y : Open K S P) → Some x ≡ Some y → x ≡ y
      some x y same = cc

      clash : true ≡ false → ⊥
      clash same = cc

      -- its number is another, since its key is
      other : (j : Judging P) → IsGiven ds r.0 j → (b : Bool) → is_at (nat_cmp j.number) n ≡ b → is_at (nat_cmp j.number) n ≡ false
      other j g true is =
          let same : h ≡ g.begun = some h g.begun (sym there ∙ ap (λ i. lookup (is_at (nat_cmp i)) ds) (sym (at-number j.number n is)) ∙ g.found) in
          absurd (clash (sym (itself r.0) ∙ ap (λ k. is_eq (by_key k r.0)) (sym (ap (λ h. h.handed.key) same ∙ g.named)) ∙ apart.0))
      other j g false is = is

      at : (phase : Phase K P) → IsOwn ds r.0 phase → IsOwn (remove_entry (is_at (nat_cmp n)) ds) r.0 phase
      at (Waits place) own = tt
      at (Asked id request) own = own
      at (Judged j) own = record {
        begun = own.begun;
        found = lookup-less ds n j.number (other j own (is_at (nat_cmp j.number) n) refl) ∙ own.found;
        named = own.named;
        response = own.response;
        source = own.source;
        accepted = own.accepted;
      }
