-- Requests by their ids, and their ids by the keys that are asked for.
use Rattle.std.proofs.Common.{◌≡◌, ◌≢◌, refl, ap, ◌∙◌, sym, ℕ, ◌≤◌, Bool, true, false, List, [], ◌∷◌, length, filter, Option, None, Some, cond, is_some, find, ◌==◌, arith}
use Rattle.std.proofs.lemmas.Bool.{eqb-true, eqb-false}
use Rattle.std.proofs.lemmas.Grind.{common_steps}
use Rattle.std.proofs.lemmas.Bool.Decides.{nat_tests}
use Rattle.std.proofs.lemmas.Cmp.{tied_itself}
use Rattle.std.specs.Cmp.{IsTotalOrder, Equal-is}
use Rattle.std.specs.List.{list_any}
use Rattle.std.specs.List.Sorted.{IsStrictlySortedBy}
use Rattle.std.specs.Map.{keys_of, lookup}
use Rattle.std.proofs.lemmas.Map.Entries.{option_filter}
use Rattle.std.proofs.lemmas.Map.Keys.{sorted_head, sorted_tail}
use Rattle.std.proofs.lemmas.List.{length-map}
use Rattle.std.proofs.lemmas.Option.{same_Some}
use Rattle.std.specs.BTreeMap.{is_at}
use Rattle.std.specs.Ordering.{is_eq, nat_cmp}
use Rattle.std.specs.declared.cmp.Ordering.{Ordering}
use Rattle.std.specs.declared.cmp.Ordering.TheVariants.{Equal}
use Rattle.resolver_priority_set.specs.Priorities.{listed}
use Rattle.resolver_fetch_requests.specs.declared.requests.request.Request.{Request}
use Rattle.resolver_fetch_requests.specs.Ids.{is_held}
use Rattle.resolver_fetch_requests.specs.Requests.{AreNamed, ids_of, is_asked, is_for, is_for_if, request_for, request_of}
use Rattle.resolver_fetch_requests.proofs.Soonest.{at-head, behind, past-head}

module _ {K X : Type 0} {by_key : K → K → Ordering} (o : IsTotalOrder by_key) where
  -- equal keys name the same
  pub lookup-same : (k l : K) (names : List (K × X)) → by_key k l ≡ Equal → lookup (is_at (by_key k)) names ≡ lookup (is_at (by_key l)) names
  lookup-same k l [] same = refl
  lookup-same k l (n ∷ names) same =
      let rest = lookup-same k l names same in
      let here : is_eq (by_key k n.0) ≡ is_eq (by_key l n.0) = ap is_eq (o.congr k l n.0 same) in
      grind (arith, common_steps, rest, here)

pub none-is : {X : Type 0} (x : Option X) → is_some x ≡ false → x ≡ None
none-is None is = refl
none-is (Some x) is = cc

module _ {K P : Type 0} {by_key : K → K → Ordering} (o : IsTotalOrder by_key) where
  -- a request for another key is put, and its key names it
  pub named-put : (id : ℕ) (r : Request K P) (old new : List (ℕ × Request K P)) (names next : List (K × ℕ)) → AreNamed by_key old names
      → is_held old id ≡ false → lookup (is_at (by_key r.key)) names ≡ None
      → ((q : ℕ) → request_of new q ≡ cond (is_at (nat_cmp id) q) (Some r) (request_of old q))
      → ((k : K) → lookup (is_at (by_key k)) next ≡ cond (is_at (by_key r.key) k) (Some id) (lookup (is_at (by_key k)) names))
      → AreNamed by_key new next
  named-put id r old new names next are free none updates renames = record {
    named = λ q s there.
        let after = updates q in
        let name = renames s.key in
        let before = are.named q s in
        let itself = ap is_eq (tied_itself o r.key) in
        let tied = Equal-is (by_key r.key s.key) in
        let same = lookup-same o r.key s.key names in
        grind (arith, common_steps, nat_tests, after, name, before, itself, tied, same, none, there);
    held = λ k q names_it.
        let after = updates q in
        let name = renames k in
        let before = are.held k q in
        let back = o.antisymm r.key k in
        let tied = Equal-is (by_key r.key k) in
        grind (arith, common_steps, nat_tests, after, name, before, back, tied, free, none, names_it);
  }

  -- a request is taken out, and its key names nothing
  pub named-without : (id : ℕ) (r : Request K P) (old new : List (ℕ × Request K P)) (names next : List (K × ℕ)) → AreNamed by_key old names
      → request_of old id ≡ Some r
      → ((q : ℕ) → request_of new q ≡ cond (is_at (nat_cmp id) q) None (request_of old q))
      → ((k : K) → lookup (is_at (by_key k)) next ≡ cond (is_at (by_key r.key) k) None (lookup (is_at (by_key k)) names))
      → AreNamed by_key new next
  named-without id r old new names next are there_before updates renames = record {
    named = λ q s there.
        let after = updates q in
        let name = renames s.key in
        let before = are.named q s in
        let first = are.named id r in
        let tied = Equal-is (by_key r.key s.key) in
        let same = lookup-same o r.key s.key names in
        grind (arith, common_steps, nat_tests, after, name, before, first, tied, same, there_before, there);
    held = λ k q names_it.
        let after = updates q in
        let name = renames k in
        let before = are.held k q in
        let back = o.antisymm r.key k in
        grind (arith, common_steps, nat_tests, after, name, before, back, there_before, names_it);
  }

  -- where no request is taken out, and no key names another
  pub named-same : (old new : List (ℕ × Request K P)) (names next : List (K × ℕ)) → AreNamed by_key old names
      → ((q : ℕ) → request_of new q ≡ request_of old q)
      → ((k : K) → lookup (is_at (by_key k)) next ≡ lookup (is_at (by_key k)) names)
      → AreNamed by_key new next
  named-same old new names next are updates renames = record {
    named = λ q s there. renames s.key ∙ are.named q s (sym (updates q) ∙ there);
    held = λ k q names_it. ap (is_for_if by_key k q) (updates q) ∙ are.held k q (sym (renames k) ∙ names_it);
  }

  kept-name : (new : List (ℕ × Request K P)) (name : Option ℕ) (q : ℕ) → option_filter (is_held new) name ≡ Some q → (name ≡ Some q) × (is_held new q ≡ true)
  kept-name new None q is = absurd cc
  kept-name new (Some p) q is = at (is_held new p) refl is where
    at : (b : Bool) → is_held new p ≡ b → cond b (Some p) None ≡ Some q → (Some p ≡ Some q) × (is_held new q ≡ true)
    at true held is = (is, let same : p ≡ q = same_Some p q is in sym (ap (is_held new) same) ∙ held)
    at false held is = absurd cc

  kept-for : (k : K) (q : ℕ) (old now : Option (Request K P)) → ((r : Request K P) → now ≡ Some r → old ≡ Some r) → is_some now ≡ true
      → is_for_if by_key k q old ≡ true → is_for_if by_key k q now ≡ true
  kept-for k q old None found held before = absurd cc
  kept-for k q old (Some r) found held before = sym (ap (is_for_if by_key k q) (found r refl)) ∙ before

  -- some requests are kept, as they were, and so are the keys that name them
  pub named-retained : (old new : List (ℕ × Request K P)) (names next : List (K × ℕ)) → AreNamed by_key old names
      → ((q : ℕ) (r : Request K P) → request_of new q ≡ Some r → request_of old q ≡ Some r)
      → ((k : K) → lookup (is_at (by_key k)) next ≡ option_filter (is_held new) (lookup (is_at (by_key k)) names))
      → AreNamed by_key new next
  named-retained old new names next are found renames = record {
    named = λ q s there.
        let name = renames s.key in
        let before = are.named q s (found q s there) in
        name ∙ ap (option_filter (is_held new)) before ∙ ap (λ x. cond (is_some x) (Some q) None) there;
    held = λ k q names_it.
        let kept = kept-name new (lookup (is_at (by_key k)) names) q (sym (renames k) ∙ names_it) in
        kept-for k q (request_of old q) (request_of new q) (found q) kept.1 (are.held k q kept.0);
  }

-- a key that names nothing, and is put and taken out, names nothing
pub name-gone : {K : Type 0} {by_key : K → K → Ordering} → IsTotalOrder by_key → (key : K) (names put next : List (K × ℕ)) (id : ℕ) → lookup (is_at (by_key key)) names ≡ None
    → ((k : K) → lookup (is_at (by_key k)) put ≡ cond (is_at (by_key key) k) (Some id) (lookup (is_at (by_key k)) names))
    → ((k : K) → lookup (is_at (by_key k)) next ≡ cond (is_at (by_key key) k) None (lookup (is_at (by_key k)) put))
    → (k : K) → lookup (is_at (by_key k)) next ≡ lookup (is_at (by_key k)) names
name-gone {by_key = by_key} o key names put next id none puts takes k =
    let before = puts k in
    let after = takes k in
    let tied = Equal-is (by_key key k) in
    let same = lookup-same o key k names in
    grind (arith, common_steps, before, after, tied, same, none)

module _ {K P : Type 0} where
  lifted : (e : ℕ × Request K P) (es : List (ℕ × Request K P)) → IsStrictlySortedBy nat_cmp (keys_of (e ∷ es))
      → (q : ℕ) (s : Request K P) → request_of es q ≡ Some s → request_of (e ∷ es) q ≡ Some s
  lifted e es sorted q s there =
      past-head e es q (λ x. absurd (omega (arith, x, behind e.0 es (sorted_head nat_cmp e.0 (keys_of es) sorted) q s there))) ∙ there

false-unless : (b : Bool) → (b ≡ true → ⊥) → b ≡ false
false-unless true never = absurd (never refl)
false-unless false never = refl

module _ {K P : Type 0} (by_key : K → K → Ordering) (key : K) where
  -- no request is for a key, or one alone is
  none-for : (asked : List (ℕ × Request K P)) → IsStrictlySortedBy nat_cmp (keys_of asked)
      → ((q : ℕ) (s : Request K P) → request_of asked q ≡ Some s → is_eq (by_key key s.key) ≡ false) → filter (is_for by_key key) asked ≡ []
  none-for [] sorted none = refl
  none-for (e ∷ es) sorted none =
      let rest = none-for es (sorted_tail nat_cmp e.0 (keys_of es) sorted) (λ q s there. none q s (lifted e es sorted q s there)) in
      let here : is_for by_key key e ≡ false = none e.0 e.1 (at-head e es) in
      rw here rest

  one-for : (id : ℕ) (r : Request K P) (asked : List (ℕ × Request K P)) → IsStrictlySortedBy nat_cmp (keys_of asked)
      → request_of asked id ≡ Some r → is_eq (by_key key r.key) ≡ true
      → ((q : ℕ) (s : Request K P) → request_of asked q ≡ Some s → is_eq (by_key key s.key) ≡ true → q ≡ id)
      → filter (is_for by_key key) asked ≡ (id, r) ∷ []
  one-for id r [] sorted there for_key once = absurd cc
  one-for id r (e ∷ es) sorted there for_key once =
      split (e.0 == id) refl
      (λ later. one-for id r es (sorted_tail nat_cmp e.0 (keys_of es) sorted) later for_key (λ q s at. once q s (lifted e es sorted q s at))) where
        split : (b : Bool) → (e.0 == id) ≡ b → (request_of es id ≡ Some r → filter (is_for by_key key) es ≡ (id, r) ∷ []) → filter (is_for by_key key) (e ∷ es) ≡ (id, r) ∷ []
        split true same behind_it =
            let is : e.0 ≡ id = eqb-true e.0 id same in
            let request : e.1 ≡ r = same_Some e.1 r (sym (at-head e es) ∙ ap (request_of (e ∷ es)) is ∙ there) in
            let here : is_for by_key key e ≡ true = ap (λ (x : Request K P). is_eq (by_key key x.key)) request ∙ for_key in
            let rest = none-for es (sorted_tail nat_cmp e.0 (keys_of es) sorted) (λ q s later. false-unless (is_eq (by_key key s.key)) (λ for_too.
            let twice : q ≡ id = once q s (lifted e es sorted q s later) for_too in
            let apart = behind e.0 es (sorted_head nat_cmp e.0 (keys_of es) sorted) q s later in
            omega (arith, twice, apart, is))) in
            rw (here, rest) (ap (λ n. (n, e.1) ∷ []) is ∙ ap (λ (x : Request K P). (id, x) ∷ []) request)
        split false same behind_it =
            let apart : e.0 ≢ id = eqb-false e.0 id same in
            let here : is_for by_key key e ≡ false = false-unless (is_for by_key key e) (λ for_too. apart (once e.0 e.1 (at-head e es) for_too)) in
            rw here (behind_it (sym (past-head e es id apart) ∙ there))

-- the first of a list that passes
first-passes : {X : Type 0} (test : X → Bool) (xs : List X) (found : Option X) → filter test xs ≡ listed found → find test xs ≡ found
first-passes test [] None is = refl
first-passes test [] (Some y) is = cc
first-passes test (x ∷ xs) None is = let rest = first-passes test xs None in grind (arith, common_steps, rest, is)
first-passes test (x ∷ xs) (Some y) is = let rest = first-passes test xs (Some y) in grind (arith, common_steps, rest, is)

any-passes : {X : Type 0} (test : X → Bool) (xs : List X) (found : Option X) → filter test xs ≡ listed found → list_any test xs ≡ is_some found
any-passes test [] None is = refl
any-passes test [] (Some y) is = cc
any-passes test (x ∷ xs) None is = let rest = any-passes test xs None in grind (arith, common_steps, rest, is)
any-passes test (x ∷ xs) (Some y) is = let rest = any-passes test xs (Some y) in grind (arith, common_steps, rest, is)

module _ {K P : Type 0} {by_key : K → K → Ordering} (o : IsTotalOrder by_key) (asked : List (ℕ × Request K P)) (names : List (K × ℕ)) (are : AreNamed by_key asked names)
    (sorted : IsStrictlySortedBy nat_cmp (keys_of asked)) where
  -- what a key names is the request for it, and the only one
  pub filter-none : (key : K) → lookup (is_at (by_key key)) names ≡ None → filter (is_for by_key key) asked ≡ []
  filter-none key none = none-for by_key key asked sorted (λ q s there. false-unless (is_eq (by_key key s.key)) (λ for_key.
      let clash : None ≡ Some q = sym none ∙ lookup-same o key s.key names ((Equal-is (by_key key s.key)).0 for_key) ∙ are.named q s there in
      cc))

  pub filter-one : (key : K) (id : ℕ) (r : Request K P) → lookup (is_at (by_key key)) names ≡ Some id → request_of asked id ≡ Some r → filter (is_for by_key key) asked ≡ (id, r) ∷ []
  filter-one key id r name there =
      let for_key : is_eq (by_key key r.key) ≡ true = sym (ap (is_for_if by_key key id) there) ∙ are.held key id name in
      one-for by_key key id r asked sorted there for_key (λ q s at for_too.
      same_Some q id (sym (are.named q s at) ∙ sym (lookup-same o key s.key names ((Equal-is (by_key key s.key)).0 for_too)) ∙ name))

  -- what a key names is held
  pub held-for : (key : K) (id : ℕ) → lookup (is_at (by_key key)) names ≡ Some id → request_of asked id ≡ None → ⊥
  held-for key id name gone =
      let clash : false ≡ true = sym (ap (is_for_if by_key key id) gone) ∙ are.held key id name in
      cc

  -- a key is asked for where it names a request
  pub asked-named : (key : K) → is_asked by_key asked key ≡ is_some (lookup (is_at (by_key key)) names)
  asked-named key = at (lookup (is_at (by_key key)) names) refl where
    at : (found : Option ℕ) → lookup (is_at (by_key key)) names ≡ found → is_asked by_key asked key ≡ is_some found
    at None name = any-passes (is_for by_key key) asked None (filter-none key name)
    at (Some id) name = with_request (request_of asked id) refl where
      with_request : (found : Option (Request K P)) → request_of asked id ≡ found → is_asked by_key asked key ≡ true
      with_request None there = absurd (held-for key id name there)
      with_request (Some r) there = any-passes (is_for by_key key) asked (Some (id, r)) (filter-one key id r name there)

  pub for-none : (key : K) → lookup (is_at (by_key key)) names ≡ None → request_for by_key asked key ≡ None
  for-none key name = first-passes (is_for by_key key) asked None (filter-none key name)

  pub for-one : (key : K) (id : ℕ) (r : Request K P) → lookup (is_at (by_key key)) names ≡ Some id → request_of asked id ≡ Some r → request_for by_key asked key ≡ Some (id, r)
  for-one key id r name there = first-passes (is_for by_key key) asked (Some (id, r)) (filter-one key id r name there)

  -- a key is asked for once at most
  pub asked-once : (key : K) → length (ids_of by_key asked key) ≤ 1
  asked-once key = at (lookup (is_at (by_key key)) names) refl where
    at : (found : Option ℕ) → lookup (is_at (by_key key)) names ≡ found → length (ids_of by_key asked key) ≤ 1
    at None name = rw (filter-none key name) (omega arith)
    at (Some id) name = with_request (request_of asked id) refl where
      with_request : (found : Option (Request K P)) → request_of asked id ≡ found → length (ids_of by_key asked key) ≤ 1
      with_request None there = absurd (held-for key id name there)
      with_request (Some r) there = rw (filter-one key id r name there) (omega arith)

module _ {K P : Type 0} where
  -- of fewer requests fewer are for a key
  pub ids-counted : (by_key : K → K → Ordering) (key : K) (few many : List (ℕ × Request K P)) → length (filter (is_for by_key key) few) ≤ length (filter (is_for by_key key) many) → length (ids_of by_key few key) ≤ length (ids_of by_key many key)
  ids-counted by_key key few many fewer = omega (arith, fewer, length-map (filter (is_for by_key key) few) (λ (r : ℕ × Request K P). r.0), length-map (filter (is_for by_key key) many) (λ (r : ℕ × Request K P). r.0))

  pub none-left : (old new : List (ℕ × Request K P)) → old ≡ [] → length (filter (λ r. true) new) ≤ length (filter (λ r. true) old) → new ≡ []
  none-left old [] none fewer = refl
  none-left old (r ∷ rs) none fewer = absurd (omega (arith, rw none at fewer))
