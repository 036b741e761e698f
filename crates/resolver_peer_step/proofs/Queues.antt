-- Waiting keys and requests around those of one key.
use Rattle.std.proofs.Common.{◌≡◌, refl, ap, sym, ◌∙◌, ℕ, Bool, true, false, List, [], ◌∷◌, ◌++◌, None, arith}
use Rattle.std.proofs.lemmas.Grind.{common_steps}
use Rattle.std.proofs.lemmas.Cmp.{eq_by_cmp_equiv, nat_cmp_total, on_total, then_total}
use Rattle.std.proofs.lemmas.Map.Keys.{IsDistinct-cons, IsDistinct-head, IsDistinct-tail}
use Rattle.std.specs.Cmp.{IsTotalOrder, bool_cmp_total}
use Rattle.std.specs.List.{AllByRecursion, IsDistinct}
use Rattle.std.specs.Map.{keys_of, lookup}
use Rattle.std.specs.BTreeMap.{insert_entry, is_at}
use Rattle.std.specs.BTreeSet.{insert_key}
use Rattle.std.specs.Ordering.{is_eq, match_ordering, nat_cmp}
use Rattle.std.specs.declared.cmp.Ordering.{Ordering}
use Rattle.std.specs.declared.cmp.Ordering.TheVariants.{Less, Equal, Greater}
use Rattle.resolver_priority_set.specs.Priorities.{has_item, pair_order, priorities_of, put, without}
use Rattle.resolver_priority_set.proofs.Priorities.{first_of-none, pair_order-total, then-equal, without-none}
use Rattle.resolver_fetch_requests.specs.declared.requests.request.Request.{Request}
use Rattle.resolver_fetch_requests.specs.Requests.{by_id, is_asked, is_for, without_request}
use Rattle.resolver_fetch_scan.specs.declared.place.Place.{Place}
use Rattle.resolver_fetch_scan.specs.Waiting.{place_order}
use Rattle.resolver_types.proofs.Undone.{removed-inserted}
use Rattle.resolver_model_peer.specs.Parties.{Parties}
use Rattle.resolver_peer_step.specs.Tied.{same_id, sorted}
use Rattle.resolver_peer_step.proofs.Sorting.{insert_entry-swap, insert_key-swap}

pub all-append : {X : Type 0} (Q : X → Type 0) (xs ys : List X) → AllByRecursion Q xs → AllByRecursion Q ys → AllByRecursion Q (xs ++ ys)
all-append Q [] ys all more = more
all-append Q (x ∷ xs) ys all more = (all.0, all-append Q xs ys all.1 more)

module _ {K S P : Type 0} (a : Parties K S P) (o : IsTotalOrder a.key) where
  abbrev pub by_place : Place × K → Place × K → Ordering
  by_place = pair_order place_order a.key

  place_total : IsTotalOrder place_order
  place_total = then_total (on_total (λ p. p.is_retry) bool_cmp_total) (on_total (λ p. p.due) nat_cmp_total)

  apart-places : (p q : Place × K) → is_eq (a.key p.1 q.1) ≡ false → is_eq (by_place q p) ≡ false
  apart-places p q apart =
      let both = then-equal (place_order q.0 p.0) (a.key q.1 p.1) in
      let back = (eq_by_cmp_equiv o).symm q.1 p.1 in
      grind (arith, common_steps, both, back, apart)

  -- one more in the midst
  sorted-middle : (xs ys : List (Place × K)) (p : Place × K) → AllByRecursion (λ x. is_eq (a.key p.1 x.1) ≡ false) xs
      → sorted a (xs ++ p ∷ ys) ≡ insert_key by_place (sorted a (xs ++ ys)) p
  sorted-middle [] ys p apart = refl
  sorted-middle (x ∷ xs) ys p apart =
      ap (λ zs. insert_key by_place zs x) (sorted-middle xs ys p apart.1)
      ∙ insert_key-swap (pair_order-total o place_total) p x (sorted a (xs ++ ys)) (apart-places x p ((eq_by_cmp_equiv o).symm x.1 p.1 ∙ apart.0))

  all-insert : (Q : K → Type 0) (ps : List (Place × K)) (p : Place × K) → Q p.1 → AllByRecursion (λ p. Q p.1) ps → AllByRecursion (λ p. Q p.1) (insert_key by_place ps p)
  all-insert Q [] p here all = (here, tt)
  all-insert Q (q ∷ ps) p here all = at (by_place p q) (all-insert Q ps p here all.1)
    where
      at : (r : Ordering) → AllByRecursion (λ p. Q p.1) (insert_key by_place ps p)
          → AllByRecursion (λ p. Q p.1) (match_ordering r (p ∷ q ∷ ps) (q ∷ ps) (q ∷ insert_key by_place ps p))
      at Less rest = (here, all)
      at Equal rest = all
      at Greater rest = (all.0, rest)

  all-sorted : (Q : K → Type 0) (ps : List (Place × K)) → AllByRecursion (λ p. Q p.1) ps → AllByRecursion (λ p. Q p.1) (sorted a ps)
  all-sorted Q [] all = tt
  all-sorted Q (p ∷ ps) all = all-insert Q (sorted a ps) p all.0 (all-sorted Q ps all.1)

  without-apart : (key : K) (ps : List (Place × K)) → AllByRecursion (λ p. is_eq (a.key key p.1) ≡ false) ps → without a.key key ps ≡ ps
  without-apart key [] apart = refl
  without-apart key (p ∷ ps) apart = rw (apart.0, without-apart key ps apart.1) refl

  without-put : (key : K) (place : Place) (ps : List (Place × K)) → without a.key key (insert_key by_place ps (place, key)) ≡ without a.key key ps
  without-put key place [] = rw ((eq_by_cmp_equiv o).refl key) refl
  without-put key place (p ∷ ps) = let rest = without-put key place ps in let here = (eq_by_cmp_equiv o).refl key in grind (arith, common_steps, rest, here)

  priorities-none : (key : K) (ps : List (Place × K)) → AllByRecursion (λ p. is_eq (a.key key p.1) ≡ false) ps → priorities_of a.key ps key ≡ []
  priorities-none key [] apart = refl
  priorities-none key (p ∷ ps) apart = rw (apart.0, priorities-none key ps apart.1) refl

  item-none : (key : K) (ps : List (Place × K)) → AllByRecursion (λ p. is_eq (a.key key p.1) ≡ false) ps → has_item a.key ps key ≡ false
  item-none key [] apart = refl
  item-none key (p ∷ ps) apart = rw (apart.0, item-none key ps apart.1) refl

  -- the keys that wait beside one
  module _ (key : K) (xs ys : List (Place × K)) (first : AllByRecursion (λ p. is_eq (a.key key p.1) ≡ false) xs) (last : AllByRecursion (λ p. is_eq (a.key key p.1) ≡ false) ys) where
    apart : AllByRecursion (λ p. is_eq (a.key key p.1) ≡ false) (sorted a (xs ++ ys))
    apart = all-sorted (λ k. is_eq (a.key key k) ≡ false) (xs ++ ys) (all-append (λ p. is_eq (a.key key p.1) ≡ false) xs ys first last)

    -- the key waits at this place from now on
    pub put-waits : (place : Place) → put place_order a.key (sorted a (xs ++ ys)) (place, key) ≡ sorted a (xs ++ (place, key) ∷ ys)
    put-waits place =
        let none = priorities-none key (sorted a (xs ++ ys)) apart in
        rw (first_of-none o key (sorted a (xs ++ ys)) none, without-none o key (sorted a (xs ++ ys)) none) refl
        ∙ sym (sorted-middle xs ys (place, key) first)

    -- the key waits no more
    pub without-waits : (place : Place) → without a.key key (sorted a (xs ++ (place, key) ∷ ys)) ≡ sorted a (xs ++ ys)
    without-waits place =
        ap (without a.key key) (sorted-middle xs ys (place, key) first)
        ∙ without-put key place (sorted a (xs ++ ys)) ∙ without-apart key (sorted a (xs ++ ys)) apart

    pub not-waiting : has_item a.key (sorted a (xs ++ ys)) key ≡ false
    not-waiting = item-none key (sorted a (xs ++ ys)) apart

module _ {X : Type 0} where
  all-left : (Q : ℕ → Type 0) (xs ys : List (ℕ × X)) → AllByRecursion Q (keys_of (xs ++ ys)) → AllByRecursion Q (keys_of xs)
  all-left Q [] ys all = tt
  all-left Q (x ∷ xs) ys all = (all.0, all-left Q xs ys all.1)

  all-middle : (Q : ℕ → Type 0) (xs ys : List (ℕ × X)) (k : ℕ × X) → Q k.0 → AllByRecursion Q (keys_of (xs ++ ys)) → AllByRecursion Q (keys_of (xs ++ k ∷ ys))
  all-middle Q [] ys k here all = (here, all)
  all-middle Q (x ∷ xs) ys k here all = (all.0, all-middle Q xs ys k here all.1)

  -- one more id in the midst
  pub distinct-more : (xs ys : List (ℕ × X)) (q : ℕ × X) → IsDistinct same_id (q.0 ∷ keys_of (xs ++ ys)) → IsDistinct same_id (keys_of (xs ++ q ∷ ys))
  distinct-more [] ys q distinct = distinct
  distinct-more (x ∷ xs) ys q distinct =
      let apart = IsDistinct-head same_id q.0 (keys_of (x ∷ xs ++ ys)) distinct in
      let rest = IsDistinct-tail same_id q.0 (keys_of (x ∷ xs ++ ys)) distinct in
      let tail = IsDistinct-tail same_id x.0 (keys_of (xs ++ ys)) rest in
      IsDistinct-cons same_id x.0 (keys_of (xs ++ q ∷ ys))
      (all-middle (λ y. same_id x.0 y ≡ false) xs ys q ((eq_by_cmp_equiv nat_cmp_total).symm x.0 q.0 ∙ apart.0) (IsDistinct-head same_id x.0 (keys_of (xs ++ ys)) rest))
      (distinct-more xs ys q (IsDistinct-cons same_id q.0 (keys_of (xs ++ ys)) apart.1 tail))

  -- one id less in the midst
  apart-middle : (xs ys : List (ℕ × X)) (q : ℕ × X) → IsDistinct same_id (keys_of (xs ++ q ∷ ys)) → AllByRecursion (λ y. same_id q.0 y ≡ false) (keys_of (xs ++ ys))
  apart-middle [] ys q distinct = IsDistinct-head same_id q.0 (keys_of ys) distinct
  apart-middle (x ∷ xs) ys q distinct = (
    (eq_by_cmp_equiv nat_cmp_total).symm q.0 x.0 ∙ middle (λ y. same_id x.0 y ≡ false) xs ys q (IsDistinct-head same_id x.0 (keys_of (xs ++ q ∷ ys)) distinct),
    apart-middle xs ys q (IsDistinct-tail same_id x.0 (keys_of (xs ++ q ∷ ys)) distinct),
  )
    where
      middle : (Q : ℕ → Type 0) (xs ys : List (ℕ × X)) (q : ℕ × X) → AllByRecursion Q (keys_of (xs ++ q ∷ ys)) → Q q.0
      middle Q [] ys q all = all.0
      middle Q (x ∷ xs) ys q all = middle Q xs ys q all.1

  all-less : (Q : ℕ → Type 0) (xs ys : List (ℕ × X)) (q : ℕ × X) → AllByRecursion Q (keys_of (xs ++ q ∷ ys)) → AllByRecursion Q (keys_of (xs ++ ys))
  all-less Q [] ys q all = all.1
  all-less Q (x ∷ xs) ys q all = (all.0, all-less Q xs ys q all.1)

  pub distinct-less : (xs ys : List (ℕ × X)) (q : ℕ × X) → IsDistinct same_id (keys_of (xs ++ q ∷ ys)) → IsDistinct same_id (keys_of (xs ++ ys))
  distinct-less [] ys q distinct = IsDistinct-tail same_id q.0 (keys_of ys) distinct
  distinct-less (x ∷ xs) ys q distinct =
      IsDistinct-cons same_id x.0 (keys_of (xs ++ ys)) (all-less (λ y. same_id x.0 y ≡ false) xs ys q (IsDistinct-head same_id x.0 (keys_of (xs ++ q ∷ ys)) distinct))
      (distinct-less xs ys q (IsDistinct-tail same_id x.0 (keys_of (xs ++ q ∷ ys)) distinct))

  all-entry : (Q : ℕ → Type 0) (es : List (ℕ × X)) (k : ℕ) (v : X) → Q k → AllByRecursion Q (keys_of es) → AllByRecursion Q (keys_of (insert_entry nat_cmp es k v))
  all-entry Q [] k v here all = (here, tt)
  all-entry Q (e ∷ es) k v here all = at (nat_cmp k e.0) (all-entry Q es k v here all.1)
    where
      at : (r : Ordering) → AllByRecursion Q (keys_of (insert_entry nat_cmp es k v)) → AllByRecursion Q (keys_of (match_ordering r ((k, v) ∷ e ∷ es) ((e.0, v) ∷ es) (e ∷ insert_entry nat_cmp es k v)))
      at Less rest = (here, all)
      at Equal rest = all
      at Greater rest = (all.0, rest)

  lookup-apart : (es : List (ℕ × X)) (k : ℕ) → AllByRecursion (λ y. same_id k y ≡ false) (keys_of es) → lookup (is_at (nat_cmp k)) es ≡ None
  lookup-apart [] k apart = refl
  lookup-apart (e ∷ es) k apart = rw (apart.0, lookup-apart es k apart.1) refl

module _ {K P : Type 0} where
  by_id-middle : (xs ys : List (ℕ × Request K P)) (q : ℕ × Request K P) → AllByRecursion (λ y. same_id q.0 y ≡ false) (keys_of xs)
      → by_id (xs ++ q ∷ ys) ≡ insert_entry nat_cmp (by_id (xs ++ ys)) q.0 q.1
  by_id-middle [] ys q apart = refl
  by_id-middle (x ∷ xs) ys q apart =
      ap (λ es. insert_entry nat_cmp es x.0 x.1) (by_id-middle xs ys q apart.1)
      ∙ insert_entry-swap q.0 x.0 q.1 x.1 (by_id (xs ++ ys)) apart.0

  pub all-by_id : (Q : ℕ → Type 0) (es : List (ℕ × Request K P)) → AllByRecursion Q (keys_of es) → AllByRecursion Q (keys_of (by_id es))
  all-by_id Q [] all = tt
  all-by_id Q (e ∷ es) all = all-entry Q (by_id es) e.0 e.1 all.0 (all-by_id Q es all.1)

  -- a request that is asked no more
  pub without-asked : (xs ys : List (ℕ × Request K P)) (q : ℕ × Request K P) → IsDistinct same_id (keys_of (xs ++ q ∷ ys)) → without_request q.0 (by_id (xs ++ q ∷ ys)) ≡ by_id (xs ++ ys)
  without-asked xs ys q distinct =
      let apart = apart-middle xs ys q distinct in
      ap (without_request q.0) (by_id-middle xs ys q (all-left (λ y. same_id q.0 y ≡ false) xs ys apart))
      ∙ removed-inserted nat_cmp q.0 (by_id (xs ++ ys)) q.1 ((eq_by_cmp_equiv nat_cmp_total).refl q.0)
      (lookup-apart (by_id (xs ++ ys)) q.0 (all-by_id (λ y. same_id q.0 y ≡ false) (xs ++ ys) apart))

  -- a request that is asked from now on
  pub insert-asked : (xs ys : List (ℕ × Request K P)) (q : ℕ × Request K P) → IsDistinct same_id (q.0 ∷ keys_of (xs ++ ys)) → insert_entry nat_cmp (by_id (xs ++ ys)) q.0 q.1 ≡ by_id (xs ++ q ∷ ys)
  insert-asked xs ys q distinct =
      sym (by_id-middle xs ys q (all-left (λ y. same_id q.0 y ≡ false) xs ys (IsDistinct-head same_id q.0 (keys_of (xs ++ ys)) distinct)))

  module _ (by_key : K → K → Ordering) (key : K) where
    for-insert : (es : List (ℕ × Request K P)) (q : ℕ × Request K P) → is_for by_key key q ≡ false → is_asked by_key es key ≡ false → is_asked by_key (insert_entry nat_cmp es q.0 q.1) key ≡ false
    for-insert [] q here rest = rw here refl
    for-insert (e ∷ es) q here rest = at (nat_cmp q.0 e.0) (is_for by_key key e) refl rest (for-insert es q here)
      where
        at : (r : Ordering) (b : Bool) → is_for by_key key e ≡ b → is_asked by_key (e ∷ es) key ≡ false → (is_asked by_key es key ≡ false → is_asked by_key (insert_entry nat_cmp es q.0 q.1) key ≡ false)
            → is_asked by_key (match_ordering r (q ∷ e ∷ es) ((e.0, q.1) ∷ es) (e ∷ insert_entry nat_cmp es q.0 q.1)) key ≡ false
        at r true is all rest = absurd (clash (rw is at all))
          where
            clash : true ≡ false → ⊥
            clash same = cc
        at Less false is all rest = rw here all
        at Equal false is all rest = rw here (rw is at all)
        at Greater false is all rest = rw is (rest (rw is at all))

    pub not-asked : (es : List (ℕ × Request K P)) → AllByRecursion (λ r. is_for by_key key r ≡ false) es → is_asked by_key (by_id es) key ≡ false
    not-asked [] all = refl
    not-asked (e ∷ es) all = for-insert (by_id es) e all.0 (not-asked es all.1)
