-- A scan that ends in vain has tried each eligible peer of each due key.
use Rattle.std.proofs.Common.{◌≡◌, refl, ◌∙◌, sym, Bool, true, false, not, ◌&&◌, cond, List, [], ◌∷◌, length, None, Some, filter, arith}
use Rattle.std.proofs.lemmas.Bool.{lt-ltb}
use Rattle.std.specs.Prelude.{nat_lt, find}
use Rattle.resolver_fetch_scan.specs.Orders.{Orders}
use Rattle.resolver_fetch_scan.specs.Snapshot.{Snapshot, eligible}
use Rattle.resolver_fetch_scan.specs.Scan.{Scan, is_due, can_be_tried, next, left, was_tried}
use Rattle.resolver_fetch_scan.specs.FetcherLaws.{AllAre, HasTriedAll, TriesAll}
use Rattle.resolver_fetch_scan.proofs.InVain.{goes-on, takes-in-vain}

none-left : (b : Bool) → not b ≡ false → b ≡ true
none-left true e = refl
none-left false e = cc

module _ {X : Type 0} where
  empty-at : (test : X → Bool) (x : X) (xs : List X) (b : Bool) → test x ≡ b → cond b (x ∷ filter test xs) (filter test xs) ≡ []
      → (filter test xs ≡ [] → AllAre (λ y. test y ≡ false) xs) → (test x ≡ false) × AllAre (λ y. test y ≡ false) xs
  empty-at test x xs true is e rest = cc
  empty-at test x xs false is e rest = (is, rest e)

  -- what a filter that gives nothing tested
  empty-filter : (test : X → Bool) (xs : List X) → filter test xs ≡ [] → AllAre (λ x. test x ≡ false) xs
  empty-filter test [] e = tt
  empty-filter test (x ∷ xs) e = empty-at test x xs (test x) refl e (empty-filter test xs)

  none-at : (test : X → Bool) (x : X) (xs : List X) (b : Bool) → test x ≡ b → cond b (Some x) (find test xs) ≡ None
      → (find test xs ≡ None → AllAre (λ y. test y ≡ false) xs) → (test x ≡ false) × AllAre (λ y. test y ≡ false) xs
  none-at test x xs true is e rest = cc
  none-at test x xs false is e rest = (is, rest e)

  -- what a search that finds nothing tested
  none-found : (test : X → Bool) (xs : List X) → find test xs ≡ None → AllAre (λ x. test x ≡ false) xs
  none-found test [] e = tt
  none-found test (x ∷ xs) e = none-at test x xs (test x) refl e (none-found test xs)

  all-map : (P Q : X → Type 0) (xs : List X) → ((x : X) → P x → Q x) → AllAre P xs → AllAre Q xs
  all-map P Q [] f i = tt
  all-map P Q (x ∷ xs) f i = (f x i.0, all-map P Q xs f i.1)

  no-length : (xs : List X) → nat_lt 0 (length xs) ≡ false → xs ≡ []
  no-length [] e = refl
  no-length (x ∷ xs) e = let yes : nat_lt 0 (length (x ∷ xs)) ≡ true = lt-ltb 0 (length (x ∷ xs)) (omega arith) in let no : true ≡ false = sym yes ∙ e in cc

and-false : (b c : Bool) → (b && c) ≡ false → b ≡ true → c ≡ false
and-false true c e is = e
and-false false c e is = cc

module _ {K P : Type 0} (o : Orders K P) where
  -- no key is left to try
  none-next : (s : Snapshot K P) (scan : Scan K P) → next o s scan ≡ None → HasTriedAll o s scan
  none-next s scan none =
      all-map _ _ s.waiting (λ w no due.
      all-map _ _ (eligible o s w.1.targets) (λ p tried. none-left (was_tried o scan.trail w.0 p.0) tried)
      (empty-filter (λ p. not (was_tried o scan.trail w.0 p.0)) (eligible o s w.1.targets)
      (no-length (left o s scan.trail w) (and-false (is_due scan.moment w) (nat_lt 0 (length (left o s scan.trail w))) no due))))
      (none-found (can_be_tried o s scan) s.waiting none)

  pub tries_all : TriesAll o
  tries_all = record {
    at_once = λ s now. goes-on o s (λ t. HasTriedAll o s t.scan) (none-next s) (record { moment = now; trail = []; expects = None });
    later = λ s. takes-in-vain o s (λ t. HasTriedAll o s t.scan) (none-next s);
  }
