-- Merging and pruning a batch are right on every demand.
use Rattle.std.proofs.Common.{◌≡◌, ◌∙◌, sym, ap, refl, Bool, true, false, ℕ, List, [], ◌∷◌, ◌++◌, Option, None, Some, cond, arith}
use Rattle.std.specs.Prelude.{◌||◌, length, map, filter, nat_lt}
use Rattle.std.specs.List.{list_any}
use Rattle.std.specs.Cmp.{IsTotalOrder}
use Rattle.std.specs.Ordering.{is_eq, ordering_reverse}
use Rattle.std.specs.declared.cmp.Ordering.{Ordering}
use Rattle.std.specs.declared.cmp.Ordering.TheVariants.{Less, Equal, Greater}
use Rattle.resolver_types.specs.Names.{Names, same_key, same_subscriber}
use Rattle.resolver_types.specs.Subscribers.{joined_subscribers}
use Rattle.resolver_types.specs.Demand.{Pair, acts, added_all, mark_of, is_pair, pairs_of}
use Rattle.resolver_types.specs.Demand.{kept as kept_pairs}
use Rattle.resolver_messages.specs.Waiting.{Item, Backlog, Told, Fetches, Retains, IsApart, IsRight, act_of, asked_by, batch_told, handled, has_subscribers, kept, merged_item, pruned, queued, queued_all, waiting}
use Rattle.resolver_messages.proofs.Marks.{both-true, or_else, or_else-none, or_else-assoc, mark_of-added_all, mark_of-append, mark_of-joined, mark_of-pairs-like, mark_of-pairs-other}

module _ {K S M Q : Type 0} (n : Names K S) (keeps : Q → K → S → Bool) where
  -- some messages and then others
  pub acts-told : (xs ys : List (Told K S M Q)) (d : List (Pair K S)) → acts n (map (act_of keeps) (xs ++ ys)) d ≡ acts n (map (act_of keeps) ys) (acts n (map (act_of keeps) xs) d)
  acts-told [] ys d = refl
  acts-told (Fetches items ∷ xs) ys d = acts-told xs ys (added_all n d (asked_by items))
  acts-told (Retains test ∷ xs) ys d = acts-told xs ys (kept_pairs (keeps test) d)

  -- a batch that has no item does nothing
  acts-batch : (batch : List (Item K S M)) (d : List (Pair K S)) → acts n (map (act_of keeps) (batch_told {Q = Q} batch)) d ≡ added_all n d (asked_by batch)
  acts-batch [] d = refl
  acts-batch (item ∷ batch) d = refl

abbrev tests_told : {K S M Q : Type 0} → List Q → List (Told K S M Q)
tests_told tests = map Retains tests

acts-last : {K S Q : Type 0} (M : Type 0) (n : Names K S) (keeps : Q → K → S → Bool) (tests : List Q) (test : Q) (d : List (Pair K S))
    → acts n (map (act_of keeps) (tests_told {M = M} (tests ++ test ∷ []))) d ≡ kept_pairs (keeps test) (acts n (map (act_of keeps) (tests_told {M = M} tests)) d)
acts-last M n keeps [] test d = refl
acts-last M n keeps (first ∷ tests) test d = acts-last M n keeps tests test (kept_pairs (keeps first) d)

module _ {K S : Type 0} (keep : K → S → Bool) where
  kept-pairs : (a : K) (ss : List (S × ℕ)) → pairs_of a (filter (λ (s : S × ℕ). keep a s.0) ss) ≡ kept_pairs keep (pairs_of a ss)
  kept-pairs a [] = refl
  kept-pairs a (s ∷ ss) = cases (kept-pairs a ss) (keep a s.0) where
    cases : pairs_of a (filter (λ (s : S × ℕ). keep a s.0) ss) ≡ kept_pairs keep (pairs_of a ss) → (b : Bool)
        → pairs_of a (cond b (s ∷ filter (λ (s : S × ℕ). keep a s.0) ss) (filter (λ (s : S × ℕ). keep a s.0) ss))
        ≡ cond b (record { key = a; subscriber = s.0; mark = s.1 } ∷ kept_pairs keep (pairs_of a ss)) (kept_pairs keep (pairs_of a ss))
    cases after true = rw after refl
    cases after false = after

  kept-append : (d e : List (Pair K S)) → kept_pairs keep (d ++ e) ≡ kept_pairs keep d ++ kept_pairs keep e
  kept-append [] e = refl
  kept-append (p ∷ d) e = cases (kept-append d e) (keep p.key p.subscriber) where
    cases : kept_pairs keep (d ++ e) ≡ kept_pairs keep d ++ kept_pairs keep e → (b : Bool)
        → cond b (p ∷ kept_pairs keep (d ++ e)) (kept_pairs keep (d ++ e)) ≡ cond b (p ∷ kept_pairs keep d) (kept_pairs keep d) ++ kept_pairs keep e
    cases after true = rw after refl
    cases after false = after

  -- a fetch that is left without subscribers asks for nothing
  asked-left : {M : Type 0} (item : Item K S M) (rest : List (Item K S M)) → asked_by (cond (has_subscribers item) (item ∷ rest) rest) ≡ pairs_of item.key item.subscribers ++ asked_by rest
  asked-left item rest = cases item.subscribers refl where
    cases : (ss : List (S × ℕ)) → item.subscribers ≡ ss → asked_by (cond (nat_lt 0 (length item.subscribers)) (item ∷ rest) rest) ≡ pairs_of item.key item.subscribers ++ asked_by rest
    cases [] is = rw is refl
    cases (s ∷ ss) is = let some : nat_lt 0 (length (s ∷ ss)) ≡ true = grind arith in rw (is, some) refl

  -- a pruned batch asks for the pairs that are kept
  asked-kept : {M : Type 0} (batch : List (Item K S M)) → asked_by (kept keep batch) ≡ kept_pairs keep (asked_by batch)
  asked-kept [] = refl
  asked-kept (item ∷ batch) =
      asked-left (pruned keep item) (kept keep batch)
      ∙ ap (λ ps. ps ++ asked_by (kept keep batch)) (kept-pairs item.key item.subscribers)
      ∙ ap (λ ps. kept_pairs keep (pairs_of item.key item.subscribers) ++ ps) (asked-kept batch)
      ∙ sym (kept-append (pairs_of item.key item.subscribers) (asked_by batch))

  both : (t : Bool) (a b : Option ℕ) → or_else (cond t a None) (cond t b None) ≡ cond t (or_else a b) None
  both true a b = refl
  both false a b = refl

  module _ (n : Names K S) (alike : (k l : K) (s t : S) → same_key n k l ≡ true → same_subscriber n s t ≡ true → keep k s ≡ keep l t) where
    none_kept : (t : Bool) → ◌≡◌ {A = Option ℕ} None (cond t None None)
    none_kept true = refl
    none_kept false = refl

    one_kept : (t h b : Bool) (m : ℕ) (d e : Option ℕ) → (h ≡ true → b ≡ t) → e ≡ cond t d None → cond b (cond h (Some m) e) e ≡ cond t (cond h (Some m) d) None
    one_kept true true true m d e same after = refl
    one_kept true true false m d e same after = absurd (let wrong = same refl in cc)
    one_kept true false true m d e same after = after
    one_kept true false false m d e same after = after
    one_kept false true true m d e same after = absurd (let wrong = same refl in cc)
    one_kept false true false m d e same after = after
    one_kept false false true m d e same after = after
    one_kept false false false m d e same after = after

    pub mark_of-kept : (d : List (Pair K S)) (k : K) (s : S) → mark_of n (kept_pairs keep d) k s ≡ cond (keep k s) (mark_of n d k s) None
    mark_of-kept [] k s = none_kept (keep k s)
    mark_of-kept (p ∷ d) k s =
        of-cond (keep p.key p.subscriber)
        ∙ one_kept (keep k s) (is_pair n k s p) (keep p.key p.subscriber) p.mark (mark_of n d k s) (mark_of n (kept_pairs keep d) k s)
        (λ h. let found = both-true (same_key n k p.key) (same_subscriber n s p.subscriber) h in sym (alike k p.key s p.subscriber found.0 found.1))
        (mark_of-kept d k s) where
          of-cond : (b : Bool) → mark_of n (cond b (p ∷ kept_pairs keep d) (kept_pairs keep d)) k s ≡ cond b (cond (is_pair n k s p) (Some p.mark) (mark_of n (kept_pairs keep d) k s)) (mark_of n (kept_pairs keep d) k s)
          of-cond true = refl
          of-cond false = refl

module _ {K S M : Type 0} (n : Names K S) (merged : M → M → M)
    (flips : (a b : K) → same_key n a b ≡ same_key n b a)
    (follows : (a b c : K) → same_key n a b ≡ true → same_key n a c ≡ same_key n b c)
    (follows_too : (a b c : S) → same_subscriber n a b ≡ true → same_subscriber n a c ≡ same_subscriber n b c) where
  -- where no fetch has the key, there is no mark
  unmarked : (batch : List (Item K S M)) (a k : K) (s : S) → same_key n k a ≡ true → list_any (λ (other : Item K S M). same_key n a other.key) batch ≡ false → mark_of n (asked_by batch) k s ≡ None
  unmarked [] a k s e h = refl
  unmarked (item ∷ batch) a k s e h = cases (unmarked batch a k s e) (same_key n a item.key) refl h where
    cases : (list_any (λ (other : Item K S M). same_key n a other.key) batch ≡ false → mark_of n (asked_by batch) k s ≡ None)
        → (b : Bool) → same_key n a item.key ≡ b → (b || list_any (λ (other : Item K S M). same_key n a other.key) batch) ≡ false → mark_of n (asked_by (item ∷ batch)) k s ≡ None
    cases after true is g = absurd (let wrong = g in cc)
    cases after false is g =
        mark_of-append n (pairs_of item.key item.subscribers) (asked_by batch) k s
        ∙ ap (λ (m : Option ℕ). or_else m (mark_of n (asked_by batch) k s)) (mark_of-pairs-other n follows follows_too item.key item.subscribers k s (follows k a item.key e ∙ is))
        ∙ after g

  -- the marks of a merged fetch and then a rest in which its key isn't
  here : (t : Bool) (A B R : Option ℕ) → (t ≡ false → A ≡ None) → (t ≡ false → B ≡ None) → (t ≡ true → R ≡ None) → or_else (or_else A B) R ≡ or_else (or_else A R) B
  here true A B R f g h = rw (h refl) (or_else-none (or_else A B) ∙ ap (λ (m : Option ℕ). or_else m B) (sym (or_else-none A)))
  here false A B R f g h = rw (f refl, g refl) (sym (or_else-none R))

  -- a fetch that joins the batch asks for what it asks for behind the batch
  mark_of-queued : (batch : List (Item K S M)) (later : Item K S M) (k : K) (s : S) → IsApart n batch
      → mark_of n (asked_by (queued n merged batch later)) k s ≡ or_else (mark_of n (asked_by batch) k s) (mark_of n (pairs_of later.key later.subscribers) k s)
  mark_of-queued [] later k s apart = mark_of-append n (pairs_of later.key later.subscribers) [] k s ∙ or_else-none (mark_of n (pairs_of later.key later.subscribers) k s)
  mark_of-queued (item ∷ batch) later k s apart = cases (mark_of-queued batch later k s apart.1) (same_key n later.key item.key) refl where
    A : Option ℕ
    A = mark_of n (pairs_of item.key item.subscribers) k s

    R : Option ℕ
    R = mark_of n (asked_by batch) k s

    B : Option ℕ
    B = mark_of n (pairs_of later.key later.subscribers) k s

    cases : mark_of n (asked_by (queued n merged batch later)) k s ≡ or_else R B → (b : Bool) → same_key n later.key item.key ≡ b
        → mark_of n (asked_by (cond b (merged_item n.subscriber merged item later ∷ batch) (item ∷ queued n merged batch later))) k s
        ≡ or_else (mark_of n (asked_by (item ∷ batch)) k s) B
    cases after true is =
        let same : same_key n k item.key ≡ same_key n k later.key = flips k item.key ∙ sym (follows later.key item.key k is) ∙ flips later.key k in
        let B' = mark_of n (pairs_of item.key later.subscribers) k s in
        mark_of-append n (pairs_of item.key (joined_subscribers n.subscriber item.subscribers later.subscribers)) (asked_by batch) k s
        ∙ ap (λ (m : Option ℕ). or_else m R) (mark_of-joined n follows follows_too item.key item.subscribers later.subscribers k s)
        ∙ here (same_key n k item.key) A B' R
        (λ h. mark_of-pairs-other n follows follows_too item.key item.subscribers k s h)
        (λ h. mark_of-pairs-other n follows follows_too item.key later.subscribers k s h)
        (λ h. unmarked batch item.key k s h apart.0)
        ∙ ap (or_else (or_else A R)) (mark_of-pairs-like n follows follows_too item.key later.key later.subscribers k s same)
        ∙ ap (λ (m : Option ℕ). or_else m B) (sym (mark_of-append n (pairs_of item.key item.subscribers) (asked_by batch) k s))
    cases after false is =
        mark_of-append n (pairs_of item.key item.subscribers) (asked_by (queued n merged batch later)) k s
        ∙ ap (or_else A) after
        ∙ sym (or_else-assoc A R B)
        ∙ ap (λ (m : Option ℕ). or_else m B) (sym (mark_of-append n (pairs_of item.key item.subscribers) (asked_by batch) k s))

  -- a key that neither the batch nor the fetch has
  absent-queued : (batch : List (Item K S M)) (later : Item K S M) (a : K) → list_any (λ (other : Item K S M). same_key n a other.key) batch ≡ false → same_key n a later.key ≡ false
      → list_any (λ (other : Item K S M). same_key n a other.key) (queued n merged batch later) ≡ false
  absent-queued [] later a h g = rw (g) refl
  absent-queued (item ∷ batch) later a h g = cases (λ f. absent-queued batch later a f g) (same_key n a item.key) refl h (same_key n later.key item.key) where
    cases : (list_any (λ (other : Item K S M). same_key n a other.key) batch ≡ false → list_any (λ (other : Item K S M). same_key n a other.key) (queued n merged batch later) ≡ false) → (b : Bool) → same_key n a item.key ≡ b → (b || list_any (λ (other : Item K S M). same_key n a other.key) batch) ≡ false → (t : Bool)
        → list_any (λ (other : Item K S M). same_key n a other.key) (cond t (merged_item n.subscriber merged item later ∷ batch) (item ∷ queued n merged batch later)) ≡ false
    cases after true is f t = absurd (let wrong = f in cc)
    cases after false is f true = rw is f
    cases after false is f false = rw is (after f)

  pub apart-queued : (batch : List (Item K S M)) (later : Item K S M) → IsApart n batch → IsApart n (queued n merged batch later)
  apart-queued [] later apart = (refl, apart)
  apart-queued (item ∷ batch) later apart = cases (apart-queued batch later apart.1) (same_key n later.key item.key) refl where
    cases : IsApart n (queued n merged batch later) → (b : Bool) → same_key n later.key item.key ≡ b → IsApart n (cond b (merged_item n.subscriber merged item later ∷ batch) (item ∷ queued n merged batch later))
    cases after true is = apart
    cases after false is = (absent-queued batch later item.key apart.0 (flips item.key later.key ∙ is), after)

  pub apart-queued_all : (batch items : List (Item K S M)) → IsApart n batch → IsApart n (queued_all n merged batch items)
  apart-queued_all batch [] apart = apart
  apart-queued_all batch (later ∷ items) apart = apart-queued_all (queued n merged batch later) items (apart-queued batch later apart)

  pub mark_of-queued_all : (batch items : List (Item K S M)) (k : K) (s : S) → IsApart n batch
      → mark_of n (asked_by (queued_all n merged batch items)) k s ≡ or_else (mark_of n (asked_by batch) k s) (mark_of n (asked_by items) k s)
  mark_of-queued_all batch [] k s apart = sym (or_else-none (mark_of n (asked_by batch) k s))
  mark_of-queued_all batch (later ∷ items) k s apart =
      mark_of-queued_all (queued n merged batch later) items k s (apart-queued batch later apart)
      ∙ ap (λ (m : Option ℕ). or_else m (mark_of n (asked_by items) k s)) (mark_of-queued batch later k s apart)
      ∙ or_else-assoc (mark_of n (asked_by batch) k s) (mark_of n (pairs_of later.key later.subscribers) k s) (mark_of n (asked_by items) k s)
      ∙ ap (or_else (mark_of n (asked_by batch) k s)) (sym (mark_of-append n (pairs_of later.key later.subscribers) (asked_by items) k s))

  module _ {Q : Type 0} (keeps : Q → K → S → Bool) where
    -- a fetch that joins what waits
    pub right-fetch : (backlog : Backlog K S M Q) (items : List (Item K S M)) → IsApart n backlog.batch
        → IsRight n keeps (waiting backlog ++ Fetches items ∷ []) (waiting (handled n merged keeps backlog (Fetches items)))
    right-fetch backlog items apart d k s =
        let tests : List (Told K S M Q) = map Retains backlog.retains in
        let before = acts n (map (act_of keeps) tests) d in
        let left : acts n (map (act_of keeps) (waiting (handled n merged keeps backlog (Fetches items)))) d ≡ added_all n before (asked_by (queued_all n merged backlog.batch items)) =
        acts-told n keeps tests (batch_told (queued_all n merged backlog.batch items)) d ∙ acts-batch n keeps (queued_all n merged backlog.batch items) before in
        let was : acts n (map (act_of keeps) (waiting backlog ++ Fetches items ∷ [])) d ≡ added_all n (added_all n before (asked_by backlog.batch)) (asked_by items) =
        acts-told n keeps (waiting backlog) (Fetches items ∷ []) d
        ∙ ap (λ e. added_all n e (asked_by items)) (acts-told n keeps tests (batch_told backlog.batch) d ∙ acts-batch n keeps backlog.batch before) in
        ap (λ e. mark_of n e k s) left
        ∙ mark_of-added_all n follows follows_too before (asked_by (queued_all n merged backlog.batch items)) k s
        ∙ ap (or_else (mark_of n before k s)) (mark_of-queued_all backlog.batch items k s apart)
        ∙ sym (or_else-assoc (mark_of n before k s) (mark_of n (asked_by backlog.batch) k s) (mark_of n (asked_by items) k s))
        ∙ ap (λ (m : Option ℕ). or_else m (mark_of n (asked_by items) k s)) (sym (mark_of-added_all n follows follows_too before (asked_by backlog.batch) k s))
        ∙ sym (mark_of-added_all n follows follows_too (added_all n before (asked_by backlog.batch)) (asked_by items) k s)
        ∙ ap (λ e. mark_of n e k s) (sym was)

    module _ (alike : (test : Q) (k l : K) (s t : S) → same_key n k l ≡ true → same_subscriber n s t ≡ true → keeps test k s ≡ keeps test l t) where
      -- a retain that prunes the batch at once
      pub right-retain : (backlog : Backlog K S M Q) (test : Q)
          → IsRight n keeps (waiting backlog ++ Retains test ∷ []) (waiting (handled n merged keeps backlog (Retains test)))
      right-retain backlog test d k s =
          let tests : List (Told K S M Q) = map Retains backlog.retains in
          let before = acts n (map (act_of keeps) tests) d in
          let batch = kept (keeps test) backlog.batch in
          let left : acts n (map (act_of keeps) (waiting (handled n merged keeps backlog (Retains test)))) d ≡ added_all n (kept_pairs (keeps test) before) (asked_by batch) =
          acts-told n keeps (map Retains (backlog.retains ++ test ∷ [])) (batch_told batch) d
          ∙ acts-batch n keeps batch (acts n (map (act_of keeps) (map Retains (backlog.retains ++ test ∷ []))) d)
          ∙ ap (λ e. added_all n e (asked_by batch)) (acts-last M n keeps backlog.retains test d) in
          let was : acts n (map (act_of keeps) (waiting backlog ++ Retains test ∷ [])) d ≡ kept_pairs (keeps test) (added_all n before (asked_by backlog.batch)) =
          acts-told n keeps (waiting backlog) (Retains test ∷ []) d
          ∙ ap (kept_pairs (keeps test)) (acts-told n keeps tests (batch_told backlog.batch) d ∙ acts-batch n keeps backlog.batch before) in
          let t = keeps test k s in
          ap (λ e. mark_of n e k s) left
          ∙ mark_of-added_all n follows follows_too (kept_pairs (keeps test) before) (asked_by batch) k s
          ∙ ap (λ e. or_else (mark_of n (kept_pairs (keeps test) before) k s) (mark_of n e k s)) (asked-kept (keeps test) backlog.batch)
          ∙ ap (λ (m : Option ℕ). or_else m (mark_of n (kept_pairs (keeps test) (asked_by backlog.batch)) k s)) (mark_of-kept (keeps test) n (alike test) before k s)
          ∙ ap (or_else (cond t (mark_of n before k s) None)) (mark_of-kept (keeps test) n (alike test) (asked_by backlog.batch) k s)
          ∙ both (keeps test) t (mark_of n before k s) (mark_of n (asked_by backlog.batch) k s)
          ∙ ap (λ (m : Option ℕ). cond t m None) (sym (mark_of-added_all n follows follows_too before (asked_by backlog.batch) k s))
          ∙ sym (mark_of-kept (keeps test) n (alike test) (added_all n before (asked_by backlog.batch)) k s)
          ∙ ap (λ e. mark_of n e k s) (sym was)

      pub right-handled : (backlog : Backlog K S M Q) (message : Told K S M Q) → IsApart n backlog.batch
          → IsRight n keeps (waiting backlog ++ message ∷ []) (waiting (handled n merged keeps backlog message))
      right-handled backlog (Fetches items) apart = right-fetch backlog items apart
      right-handled backlog (Retains test) apart = right-retain backlog test

-- the laws of an order, as equal names have them
pub flips-by : {A : Type 0} (cmp : A → A → Ordering) → IsTotalOrder cmp → (a b : A) → is_eq (cmp a b) ≡ is_eq (cmp b a)
flips-by cmp total a b = ap is_eq (total.antisymm a b) ∙ turned (cmp b a) where
  turned : (o : Ordering) → is_eq (ordering_reverse o) ≡ is_eq o
  turned Less = refl
  turned Equal = refl
  turned Greater = refl

pub follows-by : {A : Type 0} (cmp : A → A → Ordering) → IsTotalOrder cmp → (a b c : A) → is_eq (cmp a b) ≡ true → is_eq (cmp a c) ≡ is_eq (cmp b c)
follows-by cmp total a b c h = ap is_eq (total.congr a b c (tied (cmp a b) h)) where
  tied : (o : Ordering) → is_eq o ≡ true → o ≡ Equal
  tied Less h = absurd (let wrong = h in cc)
  tied Equal h = refl
  tied Greater h = absurd (let wrong = h in cc)
