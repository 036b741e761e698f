-- Requests in the order of their ids: which of them is found.
use Rattle.std.proofs.Common.{◌≡◌, refl, ap, sym, ◌∙◌, subst, ◌⊎◌, inl, inr, ℕ, Bool, true, false, List, [], ◌∷◌, Option, None, Some, cond, arith}
use Rattle.std.specs.Prelude.{nat_le}
use Rattle.std.proofs.lemmas.Grind.{common_steps}
use Rattle.std.proofs.lemmas.Map.Keys.{IsDistinct-head, IsDistinct-tail}
use Rattle.std.specs.Option.{option_and_then}
use Rattle.std.specs.List.{AllByRecursion, IsDistinct}
use Rattle.std.specs.Map.{keys_of, lookup}
use Rattle.std.specs.BTreeMap.{insert_entry, is_at}
use Rattle.std.specs.Ordering.{is_eq, match_ordering, nat_cmp}
use Rattle.std.specs.declared.cmp.Ordering.{Ordering}
use Rattle.std.specs.declared.cmp.Ordering.TheVariants.{Less, Equal, Greater}
use Rattle.resolver_fetch_requests.specs.declared.requests.request.Request.{Request}
use Rattle.resolver_fetch_requests.specs.Requests.{by_id, if_of, if_overdue, is_sooner, matching, overdue, sooner, soonest}
use Rattle.resolver_fetch_requests.specs.Requests as requests
use Rattle.resolver_fetch_scan.specs.FetcherLaws.{IsAmong}
use Rattle.resolver_peer_step.specs.Tied.{same_id}
use Rattle.resolver_peer_step.proofs.Queues.{all-by_id}

-- a number is at itself alone
pub at-number : (i k : ℕ) → is_at (nat_cmp i) k ≡ true → i ≡ k
at-number i k is = grind (arith, common_steps, is)

module _ {K P : Type 0} where
  among-entry : (x : ℕ × Request K P) (es : List (ℕ × Request K P)) (k : ℕ × Request K P) → AllByRecursion (λ y. same_id k.0 y ≡ false) (keys_of es)
      → IsAmong x (insert_entry nat_cmp es k.0 k.1) → (x ≡ k) ⊎ IsAmong x es
  among-entry x [] k apart (inl is) = inl is
  among-entry x [] k apart (inr i) = absurd i
  among-entry x (y ∷ es) k apart i = at (nat_cmp k.0 y.0) apart.0 (among-entry x es k apart.1) i
    where
      at : (r : Ordering) → is_eq r ≡ false → (IsAmong x (insert_entry nat_cmp es k.0 k.1) → (x ≡ k) ⊎ IsAmong x es)
          → IsAmong x (match_ordering r (k ∷ y ∷ es) ((y.0, k.1) ∷ es) (y ∷ insert_entry nat_cmp es k.0 k.1)) → (x ≡ k) ⊎ IsAmong x (y ∷ es)
      at Less other rest (inl is) = inl is
      at Less other rest (inr i) = inr i
      at Equal other rest i = absurd cc
      at Greater other rest (inl is) = inr (inl is)
      at Greater other rest (inr i) = later (rest i)
        where
          later : (x ≡ k) ⊎ IsAmong x es → (x ≡ k) ⊎ IsAmong x (y ∷ es)
          later (inl is) = inl is
          later (inr i) = inr (inr i)

  pub among-by_id : (es : List (ℕ × Request K P)) (x : ℕ × Request K P) → IsDistinct same_id (keys_of es) → IsAmong x (by_id es) → IsAmong x es
  among-by_id [] x distinct i = i
  among-by_id (e ∷ es) x distinct i =
      at (among-entry x (by_id es) e (all-by_id (λ y. same_id e.0 y ≡ false) es (IsDistinct-head same_id e.0 (keys_of es) distinct)) i) (among-by_id es x (IsDistinct-tail same_id e.0 (keys_of es) distinct))
    where
      at : (x ≡ e) ⊎ IsAmong x (by_id es) → (IsAmong x (by_id es) → IsAmong x es) → IsAmong x (e ∷ es)
      at (inl is) rest = inl is
      at (inr i) rest = inr (rest i)

  soonest-among : (es : List (ℕ × Request K P)) (r : ℕ × Request K P) → soonest es ≡ Some r → IsAmong r es
  soonest-among [] r is = absurd cc
  soonest-among (e ∷ es) r is = at (soonest es) refl is (soonest-among es)
    where
      pick : (b : Bool) (q : ℕ × Request K P) → cond b q e ≡ r → (r ≡ e) ⊎ (r ≡ q)
      pick true q is = inr (sym is)
      pick false q is = inl (sym is)

      also : (q : ℕ × Request K P) → (r ≡ e) ⊎ (r ≡ q) → IsAmong q es → IsAmong r (e ∷ es)
      also q (inl is) i = inl is
      also q (inr is) i = inr (subst (λ x. IsAmong x es) (sym is) i)

      some : {x y : ℕ × Request K P} → Some x ≡ Some y → x ≡ y
      some is = cc

      at : (o : Option (ℕ × Request K P)) → soonest es ≡ o → Some (sooner e o) ≡ Some r → ((r : ℕ × Request K P) → soonest es ≡ Some r → IsAmong r es) → IsAmong r (e ∷ es)
      at None found is rest = inl (sym (some is))
      at (Some q) found is rest = also q (pick (is_sooner q e) q (some is)) (rest q found)

  -- the one whose time is over
  pub overdue-among : (es : List (ℕ × Request K P)) (now : ℕ) (r : ℕ × Request K P) → overdue es now ≡ Some r → IsAmong r es
  overdue-among es now r is = at (soonest es) refl is
    where
      at : (o : Option (ℕ × Request K P)) → soonest es ≡ o → option_and_then (if_overdue now) o ≡ Some r → IsAmong r es
      at None found is = absurd cc
      at (Some q) found is = here (nat_le q.1.deadline now) is
        where
          here : (b : Bool) → cond b (Some q) None ≡ Some r → IsAmong r es
          here true is = let same : q ≡ r = cc in soonest-among es r (found ∙ ap Some same)
          here false is = absurd cc

  found-among : (es : List (ℕ × Request K P)) (id : ℕ) (r : Request K P) → lookup (is_at (nat_cmp id)) es ≡ Some r → IsAmong (id, r) es
  found-among [] id r is = absurd cc
  found-among (e ∷ es) id r is = at (is_at (nat_cmp id) e.0) refl is (found-among es id r)
    where
      some : (x y : Request K P) → Some x ≡ Some y → x ≡ y
      some x y is = cc

      at : (b : Bool) → is_at (nat_cmp id) e.0 ≡ b → cond b (Some e.1) (lookup (is_at (nat_cmp id)) es) ≡ Some r → (lookup (is_at (nat_cmp id)) es ≡ Some r → IsAmong (id, r) es) → IsAmong (id, r) (e ∷ es)
      at true here is rest = inl (ap (λ i. (i, r)) (at-number id e.0 here) ∙ ap (λ r. (e.0, r)) (sym (some e.1 r is)))
      at false here is rest = inr (rest is)

  -- the one that a message of a peer answers
  pub matching-among : (by_peer : P → P → Ordering) (es : List (ℕ × Request K P)) (id : ℕ) (peer : P) (r : Request K P) → matching by_peer es id peer ≡ Some r → IsAmong (id, r) es
  matching-among by_peer es id peer r is = at (lookup (is_at (nat_cmp id)) es) refl is
    where
      at : (o : Option (Request K P)) → lookup (is_at (nat_cmp id)) es ≡ o → option_and_then (if_of by_peer peer) o ≡ Some r → IsAmong (id, r) es
      at None found is = absurd cc
      at (Some q) found is = here (is_eq (by_peer peer q.peer)) is
        where
          here : (b : Bool) → cond b (Some q) None ≡ Some r → IsAmong (id, r) es
          here true is = let same : q ≡ r = cc in found-among es id r (found ∙ ap Some same)
          here false is = absurd cc
