-- The peers that may be asked are found by their names.
use Rattle.std.proofs.Common.{◌≡◌, refl, ap, sym, ◌∙◌, Bool, true, false, ◌&&◌, ◌||◌, List, [], ◌∷◌, ◌++◌, filter, None, Some, cond, if◌then◌else◌}
use Rattle.std.proofs.lemmas.Cmp.{alike_right, eq_by_cmp_equiv}
use Rattle.std.proofs.lemmas.Map.Keys.{sorted_head, sorted_tail}
use Rattle.std.specs.BTreeMap.{is_at}
use Rattle.std.specs.Cmp.{IsTotalOrder}
use Rattle.std.specs.List.{AllByRecursion}
use Rattle.std.specs.List.Sorted.{IsStrictlySortedBy}
use Rattle.std.specs.Map.{keys_of, lookup, lookup_key}
use Rattle.std.specs.Ordering.{is_eq, ordering_reverse}
use Rattle.std.specs.declared.cmp.Ordering.{Ordering}
use Rattle.std.specs.declared.cmp.Ordering.TheVariants.{Less, Equal}
use Rattle.resolver_fetch_scan.specs.Orders.{is_one_of}
use Rattle.resolver_fetch_scan.specs.Known.{Known, askable_at, eligible, may_be_asked}
use Rattle.resolver_sampling.specs.declared.score.Averages.{Averages}
use Rattle.resolver_fetch_scan.proofs.Tried.{equal-is}

and-true : (b : Bool) → (b && true) ≡ b
and-true true = refl
and-true false = refl

and-false : (b : Bool) → (b && false) ≡ false
and-false true = refl
and-false false = refl

module _ {X : Type 0} (test other : X → Bool) where
  same-filter : ((x : X) → test x ≡ other x) → (xs : List X) → filter test xs ≡ filter other xs
  same-filter same [] = refl
  same-filter same (x ∷ xs) = rw (same x, same-filter same xs) refl

module _ {X : Type 0} (test : X → Bool) where
  passes-none : (xs : List X) → filter (λ x. test x && false) xs ≡ []
  passes-none [] = refl
  passes-none (x ∷ xs) = rw (and-false (test x)) (passes-none xs)

module _ {P : Type 0} {R : P → P → Ordering} (total : IsTotalOrder R) where
  -- what is behind a name is not that name
  not-behind : (n p q : P) → R n p ≡ Less → R p q ≡ Less → is_eq (R q n) ≡ false
  not-behind n p q first second = ap is_eq (total.antisymm q n ∙ ap ordering_reverse (total.trans n p q first second))

  -- none of the names behind an equal one is this one
  apart : (n p : P) → R p n ≡ Equal → (ns : List P) → AllByRecursion (λ m. R n m ≡ Less) ns → is_one_of R ns p ≡ false
  apart n p same [] all = refl
  apart n p same (m ∷ ns) all =
      let rest = apart n p same ns all.1 in
      let here : is_eq (R p m) ≡ false = ap is_eq (total.congr p n m same ∙ all.0) in
      rw here rest

  -- one of the names behind a name is behind it
  behind : (n p : P) (ns : List P) → AllByRecursion (λ m. R n m ≡ Less) ns → is_one_of R ns p ≡ true → R n p ≡ Less
  behind n p [] all is = absurd cc
  behind n p (m ∷ ns) all is = at (is_eq (R p m)) refl is (behind n p ns all.1) where
    at : (b : Bool) → is_eq (R p m) ≡ b → (b || is_one_of R ns p) ≡ true → (is_one_of R ns p ≡ true → R n p ≡ Less) → R n p ≡ Less
    at true same is rest = alike_right total p m n (equal-is (R p m) same) ∙ all.0
    at false other is rest = rest is

module _ {P X : Type 0} {R : P → P → Ordering} (total : IsTotalOrder R) (may : P → Bool) where
  none-behind : (n p : P) → R n p ≡ Less → (es : List (P × X)) → AllByRecursion (λ q. R p q ≡ Less) (keys_of es) → filter (λ e. may e.0 && is_eq (R e.0 n)) es ≡ []
  none-behind n p first [] all = refl
  none-behind n p first (e ∷ es) all =
      rw (not-behind total n p e.0 first all.0, and-false (may e.0)) (none-behind n p first es all.1)

  -- the entries of some names are those of the first, and then those of the rest
  split-first : (n : P) (ns : List P) → AllByRecursion (λ m. R n m ≡ Less) ns → (es : List (P × X)) → IsStrictlySortedBy R (keys_of es)
      → filter (λ e. may e.0 && is_one_of R (n ∷ ns) e.0) es ≡ filter (λ e. may e.0 && is_eq (R e.0 n)) es ++ filter (λ e. may e.0 && is_one_of R ns e.0) es
  split-first n ns all [] sorted = refl
  split-first n ns all (e ∷ es) sorted =
      at (may e.0) (is_eq (R e.0 n)) (is_one_of R ns e.0) refl refl refl (split-first n ns all es (sorted_tail R e.0 (keys_of es) sorted)) where
        at : (m a b : Bool) → may e.0 ≡ m → is_eq (R e.0 n) ≡ a → is_one_of R ns e.0 ≡ b
            → filter (λ e. may e.0 && is_one_of R (n ∷ ns) e.0) es ≡ filter (λ e. may e.0 && is_eq (R e.0 n)) es ++ filter (λ e. may e.0 && is_one_of R ns e.0) es
            → cond (m && (a || b)) (e ∷ filter (λ e. may e.0 && is_one_of R (n ∷ ns) e.0) es) (filter (λ e. may e.0 && is_one_of R (n ∷ ns) e.0) es)
            ≡ cond (m && a) (e ∷ filter (λ e. may e.0 && is_eq (R e.0 n)) es) (filter (λ e. may e.0 && is_eq (R e.0 n)) es)
            ++ cond (m && b) (e ∷ filter (λ e. may e.0 && is_one_of R ns e.0) es) (filter (λ e. may e.0 && is_one_of R ns e.0) es)
        at false a b m is_a is_b rest = rest
        at true true true m is_a is_b rest = let never = apart total n e.0 (equal-is (R e.0 n) is_a) ns all in let clash : true ≡ false = sym is_b ∙ never in absurd cc
        at true true false m is_a is_b rest = ap (λ (xs : List (P × X)). e ∷ xs) rest
        at true false false m is_a is_b rest = rest
        at true false true m is_a is_b rest =
            let empty = none-behind n e.0 (behind total n e.0 ns all is_b) es (sorted_head R e.0 (keys_of es) sorted) in
            rw (rest, empty) refl

  -- the entry of a name that is there
  pub found-at : (n k : P) (v : X) (es : List (P × X)) → IsStrictlySortedBy R (keys_of es) → lookup_key (is_at (R n)) es ≡ Some k → lookup (is_at (R n)) es ≡ Some v
      → filter (λ e. may e.0 && is_eq (R e.0 n)) es ≡ (if may k then (k, v) ∷ [] else [])
  found-at n k v [] sorted is value = absurd cc
  found-at n k v (e ∷ es) sorted is value =
      at (is_eq (R n e.0)) refl ((eq_by_cmp_equiv total).symm e.0 n) is value (found-at n k v es (sorted_tail R e.0 (keys_of es) sorted)) where
        none-equal : R n e.0 ≡ Equal → (fs : List (P × X)) → AllByRecursion (λ q. R e.0 q ≡ Less) (keys_of fs) → filter (λ f. may f.0 && is_eq (R f.0 n)) fs ≡ []
        none-equal same [] all = refl
        none-equal same (f ∷ fs) all =
            let here : is_eq (R f.0 n) ≡ false = ap is_eq (total.antisymm f.0 n ∙ ap ordering_reverse (total.congr n e.0 f.0 same ∙ all.0)) in
            rw (here, and-false (may f.0)) (none-equal same fs all.1)

        at : (b : Bool) → is_eq (R n e.0) ≡ b → is_eq (R e.0 n) ≡ is_eq (R n e.0) → cond b (Some e.0) (lookup_key (is_at (R n)) es) ≡ Some k → cond b (Some e.1) (lookup (is_at (R n)) es) ≡ Some v
            → (lookup_key (is_at (R n)) es ≡ Some k → lookup (is_at (R n)) es ≡ Some v → filter (λ e. may e.0 && is_eq (R e.0 n)) es ≡ (if may k then (k, v) ∷ [] else []))
            → filter (λ e. may e.0 && is_eq (R e.0 n)) (e ∷ es) ≡ (if may k then (k, v) ∷ [] else [])
        at true here back is value rest =
            let empty = none-equal (equal-is (R n e.0) here) es (sorted_head R e.0 (keys_of es) sorted) in
            let key : e.0 ≡ k = cc in
            let same : e.1 ≡ v = cc in
            rw (back ∙ here, and-true (may e.0), empty)
            (ap (λ p. if may p then (p, e.1) ∷ [] else []) key ∙ ap (λ x. if may k then (k, x) ∷ [] else []) same)
        at false here back is value rest =
            rw (back ∙ here, and-false (may e.0)) (rest is value)

  -- and of one that isn't
  pub none-at : (n : P) (es : List (P × X)) → lookup_key (is_at (R n)) es ≡ None → filter (λ e. may e.0 && is_eq (R e.0 n)) es ≡ []
  none-at n [] is = refl
  none-at n (e ∷ es) is = at (is_eq (R n e.0)) refl ((eq_by_cmp_equiv total).symm e.0 n) is (none-at n es) where
    at : (b : Bool) → is_eq (R n e.0) ≡ b → is_eq (R e.0 n) ≡ is_eq (R n e.0) → cond b (Some e.0) (lookup_key (is_at (R n)) es) ≡ None
        → (lookup_key (is_at (R n)) es ≡ None → filter (λ e. may e.0 && is_eq (R e.0 n)) es ≡ []) → filter (λ e. may e.0 && is_eq (R e.0 n)) (e ∷ es) ≡ []
    at true here back is rest = absurd cc
    at false here back is rest = rw (back ∙ here, and-false (may e.0)) (rest is)

module _ {P : Type 0} (R : P → P → Ordering) (known : Known P) where
  -- the peers of these names that may be asked
  abbrev pub among : List P → List (P × Averages)
  among [] = []
  among (n ∷ ns) = askable_at R known n ++ among ns

module _ {P : Type 0} {R : P → P → Ordering} (total : IsTotalOrder R) (known : Known P) (sorted : IsStrictlySortedBy R (keys_of known.set)) where
  among-names : (ns : List P) → IsStrictlySortedBy R ns → among R known ns ≡ filter (λ e. may_be_asked R known e.0 && is_one_of R ns e.0) known.set
  among-names [] names = sym (passes-none (λ e. may_be_asked R known e.0) known.set)
  among-names (n ∷ ns) names =
      ap (λ rest. askable_at R known n ++ rest) (among-names ns (sorted_tail R n ns names))
      ∙ sym (split-first total (may_be_asked R known) n ns (sorted_head R n ns names) known.set sorted)

  -- with the names of all targets these are all that may be asked
  pub among-targets : (targets names : List P) → IsStrictlySortedBy R names → ((p : P) → is_one_of R names p ≡ is_one_of R targets p) → among R known names ≡ eligible R known (Some targets)
  among-targets targets names ordered same =
      among-names names ordered
      ∙ same-filter (λ e. may_be_asked R known e.0 && is_one_of R names e.0) (λ e. may_be_asked R known e.0 && is_one_of R targets e.0)
      (λ e. ap (λ b. may_be_asked R known e.0 && b) (same e.0)) known.set
