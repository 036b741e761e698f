-- The keys by their attempts, through every change of the entries.
use Rattle.std.proofs.Common.{◌≡◌, refl, ap, sym, ◌∙◌, subst, ℕ, ◌+◌, ◌≤◌, Bool, true, false, cond, List, [], ◌∷◌, Option, None, Some, is_some, find, ◌==◌, arith, option_map}
use Rattle.std.proofs.lemmas.Bool.Decides.{nat_tests}
use Rattle.std.proofs.lemmas.Map.{keys-set_value}
use Rattle.std.proofs.lemmas.Map.Keys.{sorted_head, sorted_tail, IsDistinct-from_sorted, IsDistinct-head, IsDistinct-tail}
use Rattle.std.specs.Cmp.{IsEquivalence, IsTotalOrder}
use Rattle.std.specs.List.{AllByRecursion, IsDistinct}
use Rattle.std.specs.List.Sorted.{IsStrictlySortedBy}
use Rattle.std.specs.Map.{keys_of, lookup, set_value, remove_entry}
use Rattle.std.specs.BTreeMap.{insert_entry, is_at}
use Rattle.std.specs.Ordering.{is_eq, match_ordering, nat_cmp, ordering_reverse}
use Rattle.std.specs.declared.cmp.Ordering.{Ordering}
use Rattle.std.specs.declared.cmp.Ordering.TheVariants.{Less, Equal, Greater}
use Rattle.resolver_base.specs.declared.fault.Fault.{Fault}
use Rattle.resolver_types.specs.declared.delivery.Delivery.{Delivery}
use Rattle.resolver_types.specs.declared.outcome.Outcome.{Outcome}
use Rattle.std.specs.Prelude.{Result, Ok, Err}
use Rattle.std.specs.Result.{OnOk, OnErr}
use Rattle.resolver_delivery.specs.Again.{flagged, handed_again}
use Rattle.resolver_delivery.specs.Entries.{Numbered, accepted, begun_again, changed_at, completed, completed_from, delivered, ended, fresh as fresh_entry, is_live, numbered, redelivered, response_of, with_response, with_state}
use Rattle.resolver_delivery.specs.declared.entry.Open.{Open}
use Rattle.resolver_delivery.specs.declared.completion.Completion.{Completion}
use Rattle.resolver_delivery.specs.declared.completion.Aborted.{Aborted}
use Rattle.resolver_model_opaque.specs.declared.phase.Stage.{Stage}
use Rattle.resolver_model_opaque.specs.declared.phase.Stage.TheVariants as stages
use Rattle.resolver_model_opaque.specs.OpaquePhases.{Phase, Waiting, Asked, Judged, is_asked_by}
use Rattle.resolver_model_opaque.specs.OpaqueByPhase.{phase_of, phase_in, asked_key, listed_phase}
use Rattle.resolver_model_opaque.specs.declared.phase.Phase.TheVariants as phases
use Rattle.resolver_delivery.specs.declared.entry.Response.{Response}
use Rattle.resolver_model_opaque.specs.OpaqueStages.{Kept, resting, stands_under, if_under, key_under, if_same, kept_at, IsLed}

at-next : (next a : ℕ) → is_at (nat_cmp next) a ≡ true → next ≤ a
at-next next a is = grind (arith, nat_tests)

past-next : (next a : ℕ) → next + 1 ≤ a → is_at (nat_cmp next) a ≡ false
past-next next a past = grind (arith, nat_tests)

eq-at : (next a : ℕ) → (a == next) ≡ is_at (nat_cmp next) a
eq-at next a = grind (arith, nat_tests)

some-only : {A : Type 0} (x y : A) → Some x ≡ Some y → x ≡ y
some-only x y is = cc

true-at : {K : Type 0} (b : Bool) (k l : K) → Some k ≡ cond b (Some l) None → b ≡ true
true-at true k l is = refl
true-at false k l is = cc

-- a key that is asked for by an attempt stands under it
under-asked : {K V : Type 0} (attempt : ℕ) (k : K) (stage : Stage) (number : Option ℕ) (response : Option (Response V (Unit {0}))) → is_asked_by attempt (phase_in stage number response) ≡ true
    → if_under attempt k stage ≡ Some k
under-asked attempt k (stages.Asked a) None response is = rw is refl
under-asked attempt k (stages.Asked a) (Some number) None is = rw is refl
under-asked attempt k (stages.Asked a) (Some number) (Some r) is = cc
under-asked attempt k (stages.Waiting due) None response is = cc
under-asked attempt k (stages.Waiting due) (Some number) None is = cc
under-asked attempt k (stages.Waiting due) (Some number) (Some r) is = cc

abbrev same_in : {K : Type 0} → (K → K → Ordering) → K → K → Bool
same_in cmp k l = is_eq (cmp k l)

pub sorted-none : {K : Type 0} (cmp : K → K → Ordering) → IsStrictlySortedBy cmp []
unfolding IsStrictlySortedBy
sorted-none cmp = tt

module _ {K : Type 0} (cmp : K → K → Ordering) where
  sorted-cons : (k : K) (ks : List K) → AllByRecursion (λ y. cmp k y ≡ Less) ks → IsStrictlySortedBy cmp ks → IsStrictlySortedBy cmp (k ∷ ks)
  unfolding IsStrictlySortedBy
  sorted-cons k ks all sorted = (all, sorted)

module _ {K : Type 0} {cmp : K → K → Ordering} (o : IsTotalOrder cmp) where
  above : (k l : K) (ks : List K) → cmp k l ≡ Less → AllByRecursion (λ y. cmp l y ≡ Less) ks → AllByRecursion (λ y. cmp k y ≡ Less) ks
  above k l [] less all = tt
  above k l (y ∷ ks) less all = (o.trans k l y less all.0, above k l ks less all.1)

module _ {K : Type 0} (cmp : K → K → Ordering) (laws : IsEquivalence (λ k l. is_eq (cmp k l))) where
  -- what leads to one key leads to no other
  leads-other : (k q x : K) (o : Option K) → same_in cmp k q ≡ false → if_same cmp k o ≡ Some x → if_same cmp q o ≡ None
  leads-other k q x None k_q is = refl
  leads-other k q x (Some y) k_q is = at (same_in cmp k y) refl is
    where
      at : (b : Bool) → same_in cmp k y ≡ b → cond b (Some y) None ≡ Some x → if_same cmp q (Some y) ≡ None
      at true k_y is = rw (laws.symm q y, ← laws.congr k y q k_y, k_q) refl
      at false k_y is = cc

module _ {K : Type 0} (cmp : K → K → Ordering) where
  only-same : (k : K) (p : Option K) → if_same cmp k p ≡ Some k → p ≡ Some k
  only-same k None is = cc
  only-same k (Some y) is = at (same_in cmp k y) is
    where
      at : (b : Bool) → cond b (Some y) None ≡ Some k → Some y ≡ Some k
      at true is = is
      at false is = cc

module _ {K V : Type 0} {cmp : K → K → Ordering} (o : IsTotalOrder cmp) (laws : IsEquivalence (λ k l. is_eq (cmp k l))) where
  -- the entry of a key after another one was put in
  pub kept-inserted : (k q : K) (es : List (K × Kept V)) (e : Kept V) → kept_at cmp es k ≡ None
      → kept_at cmp (insert_entry cmp es k e) q ≡ cond (same_in cmp k q) (Some (k, e)) (kept_at cmp es q)
  kept-inserted k q [] e none = rw (laws.symm q k) refl
  kept-inserted k q (f ∷ es) e none = at (cmp k f.0) refl none (kept-inserted k q es e)
    where
      at : (r : Ordering) → cmp k f.0 ≡ r → cond (is_eq r) (Some f) (kept_at cmp es k) ≡ None
          → (kept_at cmp es k ≡ None → kept_at cmp (insert_entry cmp es k e) q ≡ cond (same_in cmp k q) (Some (k, e)) (kept_at cmp es q))
          → kept_at cmp (match_ordering r ((k, e) ∷ f ∷ es) ((f.0, e) ∷ es) (f ∷ insert_entry cmp es k e)) q
          ≡ cond (same_in cmp k q) (Some (k, e)) (cond (same_in cmp q f.0) (Some f) (kept_at cmp es q))
      at Less is none rest = rw (laws.symm q k) refl
      at Equal is none rest = cc
      at Greater is none rest = rw (rest none) (swap (same_in cmp k q) refl (same_in cmp q f.0) refl)
        where
          swap : (a : Bool) → same_in cmp k q ≡ a → (b : Bool) → same_in cmp q f.0 ≡ b
              → cond b (Some f) (cond a (Some (k, e)) (kept_at cmp es q)) ≡ cond a (Some (k, e)) (cond b (Some f) (kept_at cmp es q))
          swap true k_q true q_f = let tied : is_eq (cmp k f.0) ≡ true = laws.congr k q f.0 k_q ∙ q_f in cc
          swap true k_q false q_f = refl
          swap false k_q b q_f = refl

  -- what is found at equal keys
  pub kept-same : (k q : K) (es : List (K × Kept V)) → same_in cmp k q ≡ true → kept_at cmp es q ≡ kept_at cmp es k
  kept-same k q [] is = refl
  kept-same k q (e ∷ es) is = rw (laws.congr k q e.0 is, kept-same k q es is) refl

  kept-apart : (k q : K) (es : List (K × Kept V)) → same_in cmp k q ≡ true → AllByRecursion (λ l. same_in cmp k l ≡ false) (keys_of es) → kept_at cmp es q ≡ None
  kept-apart k q [] is apart = refl
  kept-apart k q (e ∷ es) is apart = rw (sym (laws.congr k q e.0 is), apart.0) (kept-apart k q es is apart.1)

  -- the entry of a key after another one was let go
  pub kept-removed : (k q : K) (es : List (K × Kept V)) → IsStrictlySortedBy cmp (keys_of es)
      → kept_at cmp (remove_entry (is_at (cmp k)) es) q ≡ cond (same_in cmp k q) None (kept_at cmp es q)
  kept-removed k q [] sorted = at (same_in cmp k q)
    where
      at : (b : Bool) → ◌≡◌ {A = Option (K × Kept V)} None (cond b None None)
      at true = refl
      at false = refl
  kept-removed k q (e ∷ es) sorted = at (same_in cmp k e.0) refl (same_in cmp k q) refl (same_in cmp q e.0) refl (kept-removed k q es (sorted_tail cmp e.0 (keys_of es) sorted))
    where
      apart : AllByRecursion (λ l. same_in cmp e.0 l ≡ false) (keys_of es)
      apart = IsDistinct-head (same_in cmp) e.0 (keys_of es) (IsDistinct-from_sorted cmp (keys_of (e ∷ es)) sorted)

      at : (a : Bool) → same_in cmp k e.0 ≡ a → (b : Bool) → same_in cmp k q ≡ b → (d : Bool) → same_in cmp q e.0 ≡ d
          → kept_at cmp (remove_entry (is_at (cmp k)) es) q ≡ cond b None (kept_at cmp es q)
          → kept_at cmp (cond a es (e ∷ remove_entry (is_at (cmp k)) es)) q ≡ cond b None (cond d (Some e) (kept_at cmp es q))
      at true k_e true k_q d q_e rest = kept-apart e.0 q es (laws.symm e.0 q ∙ (sym (laws.congr k q e.0 k_q) ∙ k_e)) apart
      at true k_e false k_q true q_e rest = let tied : same_in cmp k q ≡ true = laws.congr k e.0 q k_e ∙ (laws.symm e.0 q ∙ q_e) in cc
      at true k_e false k_q false q_e rest = refl
      at false k_e true k_q true q_e rest = let tied : same_in cmp k e.0 ≡ true = laws.congr k q e.0 k_q ∙ q_e in cc
      at false k_e true k_q false q_e rest = rw q_e rest
      at false k_e false k_q true q_e rest = rw q_e refl
      at false k_e false k_q false q_e rest = rw q_e rest

  -- the entry of a key after another one was changed
  pub kept-set : (k q : K) (es : List (K × Kept V)) (e : Kept V)
      → kept_at cmp (set_value (is_at (cmp k)) es e) q ≡ cond (same_in cmp k q) (option_map (λ f. (f.0, e)) (kept_at cmp es k)) (kept_at cmp es q)
  kept-set k q [] e = at (same_in cmp k q)
    where
      at : (b : Bool) → ◌≡◌ {A = Option (K × Kept V)} None (cond b None None)
      at true = refl
      at false = refl
  kept-set k q (f ∷ es) e = at (same_in cmp k f.0) refl (same_in cmp k q) refl (same_in cmp q f.0) refl (kept-set k q es e)
    where
      at : (a : Bool) → same_in cmp k f.0 ≡ a → (b : Bool) → same_in cmp k q ≡ b → (d : Bool) → same_in cmp q f.0 ≡ d
          → kept_at cmp (set_value (is_at (cmp k)) es e) q ≡ cond b (option_map (λ f. (f.0, e)) (kept_at cmp es k)) (kept_at cmp es q)
          → kept_at cmp (cond a ((f.0, e) ∷ es) (f ∷ set_value (is_at (cmp k)) es e)) q
          ≡ cond b (option_map (λ f. (f.0, e)) (cond a (Some f) (kept_at cmp es k))) (cond d (Some f) (kept_at cmp es q))
      at true k_f true k_q true q_f rest = rw q_f refl
      at true k_f true k_q false q_f rest = let tied : same_in cmp q f.0 ≡ true = sym (laws.congr k q f.0 k_q) ∙ k_f in cc
      at true k_f false k_q true q_f rest = let tied : same_in cmp k q ≡ true = laws.congr k f.0 q k_f ∙ (laws.symm f.0 q ∙ q_f) in cc
      at true k_f false k_q false q_f rest = rw q_f refl
      at false k_f true k_q true q_f rest = let tied : same_in cmp k f.0 ≡ true = laws.congr k q f.0 k_q ∙ q_f in cc
      at false k_f true k_q false q_f rest = rw q_f rest
      at false k_f false k_q true q_f rest = rw q_f refl
      at false k_f false k_q false q_f rest = rw q_f rest

  -- what is found of a key, with the key and without it
  pub lookup-kept : (q : K) (es : List (K × Kept V)) → lookup (is_at (cmp q)) es ≡ option_map (λ e. e.1) (kept_at cmp es q)
  lookup-kept q [] = refl
  lookup-kept q (e ∷ es) = at (same_in cmp q e.0) (lookup-kept q es)
    where
      at : (b : Bool) → lookup (is_at (cmp q)) es ≡ option_map (λ e. e.1) (kept_at cmp es q)
          → cond b (Some e.1) (lookup (is_at (cmp q)) es) ≡ option_map (λ e. e.1) (cond b (Some e) (kept_at cmp es q))
      at true rest = refl
      at false rest = rest

  pub keys-kept : (q : K) (es : List (K × Kept V)) → find (λ k. is_eq (cmp q k)) (keys_of es) ≡ option_map (λ e. e.0) (kept_at cmp es q)
  keys-kept q [] = refl
  keys-kept q (e ∷ es) = at (same_in cmp q e.0) (keys-kept q es)
    where
      at : (b : Bool) → find (λ k. is_eq (cmp q k)) (keys_of es) ≡ option_map (λ e. e.0) (kept_at cmp es q)
          → cond b (Some e.0) (find (λ k. is_eq (cmp q k)) (keys_of es)) ≡ option_map (λ e. e.0) (cond b (Some e) (kept_at cmp es q))
      at true rest = refl
      at false rest = rest

  -- The keys stay in order.
  All-inserted : (P : K → Type 0) (k : K) (es : List (K × Kept V)) (e : Kept V) → AllByRecursion P (keys_of es) → P k → AllByRecursion P (keys_of (insert_entry cmp es k e))
  All-inserted P k [] e ps p = (p, tt)
  All-inserted P k (f ∷ es) e ps p = at (cmp k f.0) (All-inserted P k es e ps.1 p)
    where
      at : (r : Ordering) → AllByRecursion P (keys_of (insert_entry cmp es k e)) → AllByRecursion P (keys_of (match_ordering r ((k, e) ∷ f ∷ es) ((f.0, e) ∷ es) (f ∷ insert_entry cmp es k e)))
      at Less rest = (p, ps)
      at Equal rest = ps
      at Greater rest = (ps.0, rest)

  All-removed : (P : K → Type 0) (test : K → Bool) (es : List (K × Kept V)) → AllByRecursion P (keys_of es) → AllByRecursion P (keys_of (remove_entry test es))
  All-removed P test [] ps = tt
  All-removed P test (e ∷ es) ps = at (test e.0) (All-removed P test es ps.1)
    where
      at : (b : Bool) → AllByRecursion P (keys_of (remove_entry test es)) → AllByRecursion P (keys_of (cond b es (e ∷ remove_entry test es)))
      at true rest = ps.1
      at false rest = (ps.0, rest)

  pub sorted-inserted : (k : K) (es : List (K × Kept V)) (e : Kept V) → IsStrictlySortedBy cmp (keys_of es) → IsStrictlySortedBy cmp (keys_of (insert_entry cmp es k e))
  sorted-inserted k [] e sorted = sorted-cons cmp k [] tt sorted
  sorted-inserted k (f ∷ es) e sorted = at (cmp k f.0) refl (sorted-inserted k es e (sorted_tail cmp f.0 (keys_of es) sorted))
    where
      at : (r : Ordering) → cmp k f.0 ≡ r → IsStrictlySortedBy cmp (keys_of (insert_entry cmp es k e)) → IsStrictlySortedBy cmp (keys_of (match_ordering r ((k, e) ∷ f ∷ es) ((f.0, e) ∷ es) (f ∷ insert_entry cmp es k e)))
      at Less is rest = sorted-cons cmp k (keys_of (f ∷ es)) (is, above o k f.0 (keys_of es) is (sorted_head cmp f.0 (keys_of es) sorted)) sorted
      at Equal is rest = sorted
      at Greater is rest = sorted-cons cmp f.0 (keys_of (insert_entry cmp es k e)) (All-inserted (λ y. cmp f.0 y ≡ Less) k es e (sorted_head cmp f.0 (keys_of es) sorted) (o.antisymm f.0 k ∙ ap ordering_reverse is)) rest

  pub sorted-removed : (test : K → Bool) (es : List (K × Kept V)) → IsStrictlySortedBy cmp (keys_of es) → IsStrictlySortedBy cmp (keys_of (remove_entry test es))
  sorted-removed test [] sorted = sorted
  sorted-removed test (e ∷ es) sorted = at (test e.0) (sorted-removed test es (sorted_tail cmp e.0 (keys_of es) sorted))
    where
      at : (b : Bool) → IsStrictlySortedBy cmp (keys_of (remove_entry test es)) → IsStrictlySortedBy cmp (keys_of (cond b es (e ∷ remove_entry test es)))
      at true rest = sorted_tail cmp e.0 (keys_of es) sorted
      at false rest = sorted-cons cmp e.0 (keys_of (remove_entry test es)) (All-removed (λ y. cmp e.0 y ≡ Less) test es (sorted_head cmp e.0 (keys_of es) sorted)) rest

  -- the entry of a key after another one was changed, if it is there
  pub kept-changed : (k q : K) (es : List (K × Kept V)) (change : Kept V → Kept V)
      → kept_at cmp (changed_at (is_at (cmp k)) (lookup (is_at (cmp k)) es) change es) q
      ≡ cond (same_in cmp k q) (option_map (λ f. (f.0, change f.1)) (kept_at cmp es k)) (kept_at cmp es q)
  kept-changed k q es change = at (kept_at cmp es k) refl
    where
      absent : (b : Bool) → same_in cmp k q ≡ b → kept_at cmp es k ≡ None → kept_at cmp es q ≡ cond b None (kept_at cmp es q)
      absent true k_q none = kept-same k q es k_q ∙ none
      absent false k_q none = refl

      at : (p : Option (K × Kept V)) → kept_at cmp es k ≡ p
          → kept_at cmp (changed_at (is_at (cmp k)) (lookup (is_at (cmp k)) es) change es) q
          ≡ cond (same_in cmp k q) (option_map (λ f. (f.0, change f.1)) p) (kept_at cmp es q)
      at None is =
          ap (λ o. kept_at cmp (changed_at (is_at (cmp k)) o change es) q) (lookup-kept k es ∙ ap (option_map (λ e. e.1)) is)
          ∙ absent (same_in cmp k q) refl is
      at (Some f) is =
          ap (λ o. kept_at cmp (changed_at (is_at (cmp k)) o change es) q) (lookup-kept k es ∙ ap (option_map (λ e. e.1)) is)
          ∙ kept-set k q es (change f.1)
          ∙ ap (λ p. cond (same_in cmp k q) (option_map (λ g. (g.0, change f.1)) p) (kept_at cmp es q)) is

  -- one key's entry has changed, and the index with it
  pub led-changed : (k : K) (after : Option (K × Kept V)) (next coming : ℕ) (asked left : List (ℕ × K)) (es fs : List (K × Kept V)) → IsLed cmp next asked es
      → IsStrictlySortedBy cmp (keys_of fs)
      → ((q : K) → kept_at cmp fs q ≡ cond (same_in cmp k q) after (kept_at cmp es q))
      → ((q : K) (a : ℕ) → if_same cmp q (lookup (is_at (nat_cmp a)) left) ≡ cond (same_in cmp k q) (key_under a after) (if_same cmp q (lookup (is_at (nat_cmp a)) asked)))
      → ((a : ℕ) → coming ≤ a → lookup (is_at (nat_cmp a)) left ≡ None)
      → IsLed cmp coming left fs
  led-changed k after next coming asked left es fs l sorted kept leads fresh = record {
    ordered = sorted;
    led = λ q a. leads q a ∙ (at q a (same_in cmp k q) (l.led q a) ∙ ap (key_under a) (sym (kept q)));
    fresh = fresh;
  }
    where
      at : (q : K) (a : ℕ) (b : Bool) → if_same cmp q (lookup (is_at (nat_cmp a)) asked) ≡ key_under a (kept_at cmp es q)
          → cond b (key_under a after) (if_same cmp q (lookup (is_at (nat_cmp a)) asked)) ≡ key_under a (cond b after (kept_at cmp es q))
      at q a true led = refl
      at q a false led = led

  -- each attempt leads where it led before
  pub led-alike : (next : ℕ) (asked left : List (ℕ × K)) (es : List (K × Kept V)) → IsLed cmp next asked es
      → ((a : ℕ) → lookup (is_at (nat_cmp a)) left ≡ lookup (is_at (nat_cmp a)) asked) → IsLed cmp next left es
  led-alike next asked left es l alike = record {
    ordered = l.ordered;
    led = λ q a. ap (if_same cmp q) (alike a) ∙ l.led q a;
    fresh = λ a coming. alike a ∙ l.fresh a coming;
  }

  -- a change that leaves each key at its stage
  pub led-touched : (next : ℕ) (asked : List (ℕ × K)) (k : K) (change : Kept V → Kept V) (es : List (K × Kept V)) → ((e : Kept V) → (change e).state ≡ e.state)
      → IsLed cmp next asked es → IsLed cmp next asked (changed_at (is_at (cmp k)) (lookup (is_at (cmp k)) es) change es)
  led-touched next asked k change es stays l =
      led-changed k (option_map (λ f. (f.0, change f.1)) (kept_at cmp es k)) next next asked asked es (changed_at (is_at (cmp k)) (lookup (is_at (cmp k)) es) change es) l
      (subst (IsStrictlySortedBy cmp) (sym (keys-changed-at (lookup (is_at (cmp k)) es))) l.ordered) (λ q. kept-changed k q es change) (λ q a. here q a (same_in cmp k q) refl) l.fresh
    where
      keys-changed-at : (o : Option (Kept V)) → keys_of (changed_at (is_at (cmp k)) o change es) ≡ keys_of es
      keys-changed-at None = refl
      keys-changed-at (Some e) = keys-set_value (is_at (cmp k)) es (change e)

      under : (a : ℕ) (p : Option (K × Kept V)) → key_under a p ≡ key_under a (option_map (λ f. (f.0, change f.1)) p)
      under a None = refl
      under a (Some f) = ap (if_under a f.0) (sym (stays f.1))

      here : (q : K) (a : ℕ) (b : Bool) → same_in cmp k q ≡ b
          → if_same cmp q (lookup (is_at (nat_cmp a)) asked) ≡ cond b (key_under a (option_map (λ f. (f.0, change f.1)) (kept_at cmp es k))) (if_same cmp q (lookup (is_at (nat_cmp a)) asked))
      here q a true k_q = l.led q a ∙ (ap (key_under a) (kept-same k q es k_q) ∙ under a (kept_at cmp es k))
      here q a false k_q = refl

  -- a key is there exactly where an attempt has it
  under-stands : (a : ℕ) (p : Option (K × Kept V)) → stands_under a (option_map (λ e. e.state) (option_map (λ e. e.1) p)) ≡ is_some (key_under a p)
  under-stands a None = refl
  under-stands a (Some e) = at e.1.state
    where
      found : (b : Bool) → b ≡ is_some (cond b (Some e.0) None)
      found true = refl
      found false = refl

      at : (stage : Stage) → stands_under a (Some stage) ≡ is_some (if_under a e.0 stage)
      at (stages.Asked b) = found (a == b)
      at (stages.Waiting due) = refl

  module _ (k : K) (next : ℕ) (asked left : List (ℕ × K)) (es : List (K × Kept V)) (l : IsLed cmp next asked es) where
    abbrev Leaves : Type 0
    Leaves = (a : ℕ) → lookup (is_at (nat_cmp a)) left ≡ cond (stands_under a (option_map (λ e. e.state) (lookup (is_at (cmp k)) es))) None (lookup (is_at (nat_cmp a)) asked)

    left-under : Leaves → (a : ℕ) → lookup (is_at (nat_cmp a)) left ≡ cond (is_some (key_under a (kept_at cmp es k))) None (lookup (is_at (nat_cmp a)) asked)
    left-under leaves a =
        leaves a ∙ ap (λ b. cond b None (lookup (is_at (nat_cmp a)) asked)) (ap (λ o. stands_under a (option_map (λ e. e.state) o)) (lookup-kept k es) ∙ under-stands a (kept_at cmp es k))

    -- the attempt of a key leads nowhere
    leads-left : Leaves → (q : K) (a : ℕ) → if_same cmp q (lookup (is_at (nat_cmp a)) left) ≡ cond (same_in cmp k q) None (if_same cmp q (lookup (is_at (nat_cmp a)) asked))
    leads-left leaves q a = ap (if_same cmp q) (left-under leaves a) ∙ at (key_under a (kept_at cmp es k)) refl (same_in cmp k q) refl
      where
        at : (u : Option K) → key_under a (kept_at cmp es k) ≡ u → (b : Bool) → same_in cmp k q ≡ b
            → if_same cmp q (cond (is_some u) None (lookup (is_at (nat_cmp a)) asked)) ≡ cond b None (if_same cmp q (lookup (is_at (nat_cmp a)) asked))
        at None is true k_q = l.led q a ∙ (ap (key_under a) (kept-same k q es k_q) ∙ is)
        at None is false k_q = refl
        at (Some x) is true k_q = refl
        at (Some x) is false k_q = sym (leads-other cmp laws k q x (lookup (is_at (nat_cmp a)) asked) k_q (l.led k a ∙ is))

    fresh-left : Leaves → (a : ℕ) → next ≤ a → lookup (is_at (nat_cmp a)) left ≡ None
    fresh-left leaves a coming = leaves a ∙ at (stands_under a (option_map (λ e. e.state) (lookup (is_at (cmp k)) es))) (l.fresh a coming)
      where
        at : (b : Bool) → lookup (is_at (nat_cmp a)) asked ≡ None → cond b None (lookup (is_at (nat_cmp a)) asked) ≡ None
        at true none = refl
        at false none = none

    -- a key waits
    pub led-waits : Leaves → (due : ℕ) → IsLed cmp next left (changed_at (is_at (cmp k)) (lookup (is_at (cmp k)) es) (resting due) es)
    led-waits leaves due =
        led-changed k (option_map (λ f. (f.0, resting due f.1)) (kept_at cmp es k)) next next asked left es _ l
        (subst (IsStrictlySortedBy cmp) (sym (keys-at (lookup (is_at (cmp k)) es))) l.ordered) (λ q. kept-changed k q es (resting due))
        (λ q a. leads-left leaves q a ∙ ap (λ u. cond (same_in cmp k q) u (if_same cmp q (lookup (is_at (nat_cmp a)) asked))) (none a (kept_at cmp es k))) (fresh-left leaves)
      where
        keys-at : (o : Option (Kept V)) → keys_of (changed_at (is_at (cmp k)) o (resting due) es) ≡ keys_of es
        keys-at None = refl
        keys-at (Some e) = keys-set_value (is_at (cmp k)) es (resting due e)

        none : (a : ℕ) (p : Option (K × Kept V)) → None ≡ key_under a (option_map (λ f. (f.0, resting due f.1)) p)
        none a None = refl
        none a (Some f) = refl

    -- a key is let go
    pub led-removed : Leaves → IsLed cmp next left (remove_entry (is_at (cmp k)) es)
    led-removed leaves =
        led-changed k None next next asked left es (remove_entry (is_at (cmp k)) es) l (sorted-removed (is_at (cmp k)) es l.ordered) (λ q. kept-removed k q es l.ordered) (leads-left leaves) (fresh-left leaves)

    -- the attempt that is next leads to a key, and the key's attempt before it nowhere
    abbrev LeadsOn : Type 0
    LeadsOn = (a : ℕ) → lookup (is_at (nat_cmp a)) left ≡ cond (is_some (key_under a (kept_at cmp es k))) None (cond (is_at (nat_cmp next) a) (Some k) (lookup (is_at (nat_cmp a)) asked))

    leads-on : LeadsOn → (q : K) (a : ℕ) → if_same cmp q (lookup (is_at (nat_cmp a)) left) ≡ cond (same_in cmp k q) (cond (a == next) (Some k) None) (if_same cmp q (lookup (is_at (nat_cmp a)) asked))
    leads-on leads q a = ap (if_same cmp q) (leads a) ∙ at (key_under a (kept_at cmp es k)) refl (same_in cmp k q) refl (is_at (nat_cmp next) a) refl
      where
        -- the next attempt led nowhere
        nowhere : is_at (nat_cmp next) a ≡ true → lookup (is_at (nat_cmp a)) asked ≡ None
        nowhere is = l.fresh a (at-next next a is)

        stands-no-more : (x : K) → key_under a (kept_at cmp es k) ≡ Some x → (d : Bool) → is_at (nat_cmp next) a ≡ d → d ≡ false
        stands-no-more x is false d_is = refl
        stands-no-more x is true d_is = let clash : None ≡ Some x = sym (ap (if_same cmp k) (nowhere d_is)) ∙ (l.led k a ∙ is) in cc

        at : (u : Option K) → key_under a (kept_at cmp es k) ≡ u → (b : Bool) → same_in cmp k q ≡ b → (d : Bool) → is_at (nat_cmp next) a ≡ d
            → if_same cmp q (cond (is_some u) None (cond d (Some k) (lookup (is_at (nat_cmp a)) asked))) ≡ cond b (cond (a == next) (Some k) None) (if_same cmp q (lookup (is_at (nat_cmp a)) asked))
        at (Some x) is true k_q d d_is = rw (eq-at next a, d_is, stands-no-more x is d d_is) refl
        at (Some x) is false k_q d d_is = sym (leads-other cmp laws k q x (lookup (is_at (nat_cmp a)) asked) k_q (l.led k a ∙ is))
        at None is true k_q true d_is = rw (eq-at next a, d_is, laws.symm q k, k_q) refl
        at None is true k_q false d_is = rw (eq-at next a, d_is) (l.led q a ∙ (ap (key_under a) (kept-same k q es k_q) ∙ is))
        at None is false k_q true d_is = rw (laws.symm q k, k_q, nowhere d_is) refl
        at None is false k_q false d_is = refl

    fresh-on : LeadsOn → (a : ℕ) → next + 1 ≤ a → lookup (is_at (nat_cmp a)) left ≡ None
    fresh-on leads a coming = leads a ∙ at (is_some (key_under a (kept_at cmp es k))) (is_at (nat_cmp next) a) (past-next next a coming) (l.fresh a (omega (arith, coming)))
      where
        at : (b d : Bool) → d ≡ false → lookup (is_at (nat_cmp a)) asked ≡ None → cond b None (cond d (Some k) (lookup (is_at (nat_cmp a)) asked)) ≡ None
        at true d is none = refl
        at false d is none = rw (is, none) refl

    -- a key that wasn't there is asked for
    pub led-asked : kept_at cmp es k ≡ None → ((a : ℕ) → lookup (is_at (nat_cmp a)) left ≡ cond (is_at (nat_cmp next) a) (Some k) (lookup (is_at (nat_cmp a)) asked))
        → IsLed cmp (next + 1) left (insert_entry cmp es k (fresh_entry (stages.Asked next)))
    led-asked none leads =
        let on : LeadsOn = λ a. leads a ∙ ap (λ p. cond (is_some (key_under a p)) None (cond (is_at (nat_cmp next) a) (Some k) (lookup (is_at (nat_cmp a)) asked))) (sym none) in
        led-changed k (Some (k, fresh_entry (stages.Asked next))) next (next + 1) asked left es (insert_entry cmp es k (fresh_entry (stages.Asked next))) l
        (sorted-inserted k es (fresh_entry (stages.Asked next)) l.ordered) (λ q. kept-inserted k q es (fresh_entry (stages.Asked next)) none) (leads-on on) (fresh-on on)

    -- a key that is there is asked for again
    pub led-again : (mid : List (ℕ × K)) → find (λ l. is_eq (cmp k l)) (keys_of es) ≡ Some k
        → ((a : ℕ) → lookup (is_at (nat_cmp a)) mid ≡ cond (is_at (nat_cmp next) a) (Some k) (lookup (is_at (nat_cmp a)) asked))
        → ((a : ℕ) → lookup (is_at (nat_cmp a)) left ≡ cond (stands_under a (option_map (λ e. e.state) (lookup (is_at (cmp k)) es))) None (lookup (is_at (nat_cmp a)) mid))
        → IsLed cmp (next + 1) left (changed_at (is_at (cmp k)) (lookup (is_at (cmp k)) es) (with_state (stages.Asked next)) es)
    led-again mid own leads leaves =
        led-changed k (option_map (λ f. (f.0, with_state (stages.Asked next) f.1)) (kept_at cmp es k)) next (next + 1) asked left es _ l
        (subst (IsStrictlySortedBy cmp) (sym (keys-at (lookup (is_at (cmp k)) es))) l.ordered) (λ q. kept-changed k q es (with_state (stages.Asked next)))
        (λ q a. leads-on on q a ∙ ap (λ u. cond (same_in cmp k q) u (if_same cmp q (lookup (is_at (nat_cmp a)) asked))) (stands a (kept_at cmp es k) (sym (keys-kept k es) ∙ own))) (fresh-on on)
      where
        on : LeadsOn
        on a =
            leaves a
            ∙ ap (λ b. cond b None (lookup (is_at (nat_cmp a)) mid)) (ap (λ o. stands_under a (option_map (λ e. e.state) o)) (lookup-kept k es) ∙ under-stands a (kept_at cmp es k))
            ∙ ap (cond (is_some (key_under a (kept_at cmp es k))) None) (leads a)

        keys-at : (o : Option (Kept V)) → keys_of (changed_at (is_at (cmp k)) o (with_state (stages.Asked next)) es) ≡ keys_of es
        keys-at None = refl
        keys-at (Some e) = keys-set_value (is_at (cmp k)) es (with_state (stages.Asked next) e)

        stands : (a : ℕ) (p : Option (K × Kept V)) → option_map (λ e. e.0) p ≡ Some k → cond (a == next) (Some k) None ≡ key_under a (option_map (λ f. (f.0, with_state (stages.Asked next) f.1)) p)
        stands a None is = cc
        stands a (Some f) is = ap (λ o. cond (a == next) o None) (sym is)

  -- an attempt that was put in and taken out again
  pub led-undone : (k : K) (next : ℕ) (asked mid left : List (ℕ × K)) (es : List (K × Kept V)) → IsLed cmp next asked es
      → ((a : ℕ) → lookup (is_at (nat_cmp a)) mid ≡ cond (is_at (nat_cmp next) a) (Some k) (lookup (is_at (nat_cmp a)) asked))
      → ((a : ℕ) → lookup (is_at (nat_cmp a)) left ≡ cond (is_at (nat_cmp next) a) None (lookup (is_at (nat_cmp a)) mid))
      → IsLed cmp next left es
  led-undone k next asked mid left es l put gone = led-alike next asked left es l (λ a. gone a ∙ (ap (cond (is_at (nat_cmp next) a) None) (put a) ∙ at a (is_at (nat_cmp next) a) refl))
    where
      at : (a : ℕ) (d : Bool) → is_at (nat_cmp next) a ≡ d → cond d None (cond d (Some k) (lookup (is_at (nat_cmp a)) asked)) ≡ lookup (is_at (nat_cmp a)) asked
      at a true is = sym (l.fresh a (at-next next a is))
      at a false is = refl

  -- Each entry is found by its key.
  abbrev pub AreFound : List (K × Kept V) → List (K × Kept V) → Type 0
  AreFound es [] = Unit {0}
  AreFound es (f ∷ fs) = (kept_at cmp es f.0 ≡ Some f) × AreFound es fs

  pub each_kept : (es : List (K × Kept V)) → IsDistinct (same_in cmp) (keys_of es) → AreFound es es
  each_kept [] distinct = tt
  each_kept (e ∷ es) distinct =
      (rw (laws.refl e.0) refl, later es (each_kept es (IsDistinct-tail (same_in cmp) e.0 (keys_of es) distinct)) (IsDistinct-head (same_in cmp) e.0 (keys_of es) distinct))
    where
      later : (fs : List (K × Kept V)) → AreFound es fs → AllByRecursion (λ y. same_in cmp e.0 y ≡ false) (keys_of fs) → AreFound (e ∷ es) fs
      later [] found apart = tt
      later (f ∷ fs) found apart = (rw (laws.symm f.0 e.0, apart.0) found.0, later fs found.1 apart.1)

  abbrev asked_here : (attempt : ℕ) → K × Kept V → Bool
  asked_here attempt e = is_asked_by attempt (phase_of e.1)

  -- Each key that is asked for by an attempt is the one that the attempt leads to.
  abbrev LeadsTo : (attempt : ℕ) → Option K → List (K × Kept V) → Type 0
  LeadsTo attempt found [] = Unit {0}
  LeadsTo attempt found (e ∷ es) = (asked_here attempt e ≡ true → found ≡ Some e.0) × LeadsTo attempt found es

  module _ (attempt next : ℕ) (asked : List (ℕ × K)) (es : List (K × Kept V)) (l : IsLed cmp next asked es) where
    all-found : AreFound es es
    all-found = each_kept es (IsDistinct-from_sorted cmp (keys_of es) l.ordered)

    all-led : LeadsTo attempt (lookup (is_at (nat_cmp attempt)) asked) es
    all-led = each es all-found
      where
        each : (fs : List (K × Kept V)) → AreFound es fs → LeadsTo attempt (lookup (is_at (nat_cmp attempt)) asked) fs
        each [] found = tt
        each (f ∷ fs) found =
            (λ is. only-same cmp f.0 (lookup (is_at (nat_cmp attempt)) asked) (l.led f.0 attempt ∙ (ap (key_under attempt) found.0 ∙ under-asked attempt f.0 f.1.state f.1.number f.1.response is)), each fs found.1)

    -- an attempt that leads nowhere asks for no key
    pub nothing-asked : None ≡ lookup (is_at (nat_cmp attempt)) asked → None ≡ asked_key attempt es
    nothing-asked none = each es (subst (λ p. LeadsTo attempt p es) (sym none) all-led)
      where
        each : (fs : List (K × Kept V)) → LeadsTo attempt None fs → None ≡ asked_key attempt fs
        each [] led = refl
        each (f ∷ fs) led = at (asked_here attempt f) refl (each fs led.1)
          where
            at : (b : Bool) → asked_here attempt f ≡ b → None ≡ asked_key attempt fs → None ≡ option_map (λ e. e.0) (cond b (Some f) (find (asked_here attempt) fs))
            at true is rest = let clash : None ≡ Some f.0 = led.0 is in cc
            at false is rest = rest

    module _ (k : K) (leads : Some k ≡ lookup (is_at (nat_cmp attempt)) asked) where
      led-here : LeadsTo attempt (Some k) es
      led-here = subst (λ p. LeadsTo attempt p es) (sym leads) all-led

      stands : Some k ≡ key_under attempt (kept_at cmp es k)
      stands = ap (λ b. cond b (Some k) None) (sym (laws.refl k)) ∙ (ap (if_same cmp k) leads ∙ l.led k attempt)

      -- the key is there, and stands under the attempt
      pub key-there : (f : K × Kept V) × (kept_at cmp es k ≡ Some f) × (lookup (is_at (cmp k)) es ≡ Some f.1) × (Some k ≡ if_under attempt f.0 f.1.state)
      key-there = at (kept_at cmp es k) refl
        where
          at : (p : Option (K × Kept V)) → kept_at cmp es k ≡ p → (f : K × Kept V) × (kept_at cmp es k ≡ Some f) × (lookup (is_at (cmp k)) es ≡ Some f.1) × (Some k ≡ if_under attempt f.0 f.1.state)
          at None kept = let clash : Some k ≡ None = stands ∙ ap (key_under attempt) kept in cc
          at (Some f) kept = (f, kept, lookup-kept k es ∙ ap (option_map (λ e. e.1)) kept, stands ∙ ap (key_under attempt) kept)

      -- the attempt leads to the key that it asks for
      pub key-asked : (f : K × Kept V) → kept_at cmp es k ≡ Some f → asked_here attempt f ≡ true → Some k ≡ asked_key attempt es
      key-asked f kept asks = each es led-here kept
        where
          each : (fs : List (K × Kept V)) → LeadsTo attempt (Some k) fs → kept_at cmp fs k ≡ Some f → Some k ≡ asked_key attempt fs
          each [] led kept = cc
          each (e ∷ fs) led kept = at (asked_here attempt e) refl (same_in cmp k e.0) kept (each fs led.1)
            where
              at : (b : Bool) → asked_here attempt e ≡ b → (d : Bool) → cond d (Some e) (kept_at cmp fs k) ≡ Some f → (kept_at cmp fs k ≡ Some f → Some k ≡ asked_key attempt fs) → Some k ≡ option_map (λ e. e.0) (cond b (Some e) (find (asked_here attempt) fs))
              at true is d kept rest = led.0 is
              at false is true kept rest = let same : e ≡ f = cc in let clash : false ≡ true = sym is ∙ (ap (asked_here attempt) same ∙ asks) in cc
              at false is false kept rest = rest kept

      -- a key that the attempt leads to, and that it doesn't ask for
      pub key-unasked : (f : K × Kept V) → kept_at cmp es k ≡ Some f → asked_here attempt f ≡ false → None ≡ asked_key attempt es
      key-unasked f kept asks = each es all-found led-here
        where
          each : (fs : List (K × Kept V)) → AreFound es fs → LeadsTo attempt (Some k) fs → None ≡ asked_key attempt fs
          each [] found led = refl
          each (e ∷ fs) found led = at (asked_here attempt e) refl (each fs found.1 led.1)
            where
              at : (b : Bool) → asked_here attempt e ≡ b → None ≡ asked_key attempt fs → None ≡ option_map (λ e. e.0) (cond b (Some e) (find (asked_here attempt) fs))
              at true is rest =
                  let here : k ≡ e.0 = some-only k e.0 (led.0 is) in
                  let same : f ≡ e = some-only f e (sym kept ∙ (ap (kept_at cmp es) here ∙ found.0)) in
                  let clash : false ≡ true = sym asks ∙ (ap (asked_here attempt) same ∙ is) in cc
              at false is rest = rest

-- a key that is shown as asked for is asked for by the attempt under which it stands
pub listed-asked : {K V : Type 0} (attempt asked : ℕ) (k l : K) (stage : Stage) (number : Option ℕ) (response : Option (Response V (Unit {0}))) → phases.Asked asked ≡ listed_phase (phase_in stage number response)
    → Some k ≡ if_under attempt l stage → is_asked_by attempt (phase_in stage number response) ≡ true
listed-asked attempt asked k l (stages.Waiting due) number response shown under = cc
listed-asked attempt asked k l (stages.Asked a) None response shown under = true-at (attempt == a) k l under
listed-asked attempt asked k l (stages.Asked a) (Some number) None shown under = true-at (attempt == a) k l under
listed-asked attempt asked k l (stages.Asked a) (Some number) (Some r) shown under = cc

pub waiting-unasked : {V : Type 0} (attempt due : ℕ) (phase : Phase V) → phases.Waiting due ≡ listed_phase phase → is_asked_by attempt phase ≡ false
waiting-unasked attempt due (Waiting d) shown = refl
waiting-unasked attempt due (Asked a) shown = cc
waiting-unasked attempt due (Judged j) shown = refl

pub judged-unasked : {V : Type 0} (attempt number : ℕ) (phase : Phase V) → phases.Judged number ≡ listed_phase phase → is_asked_by attempt phase ≡ false
judged-unasked attempt number (Waiting d) shown = refl
judged-unasked attempt number (Asked a) shown = cc
judged-unasked attempt number (Judged j) shown = refl

-- where no key is
pub led-none : {K V : Type 0} (cmp : K → K → Ordering) (next : ℕ) → IsLed {K = K} {V = V} cmp next [] []
led-none cmp next = record { ordered = sorted-none cmp; led = λ q a. refl; fresh = λ a coming. refl }

-- a key that isn't found is not kept
pub absent-kept : {K V : Type 0} (cmp : K → K → Ordering) (k : K) (es : List (K × Kept V)) → is_some (lookup (is_at (cmp k)) es) ≡ false → kept_at cmp es k ≡ None
absent-kept cmp k [] none = refl
absent-kept cmp k (e ∷ es) none = at (is_eq (cmp k e.0)) none (absent-kept cmp k es)
  where
    at : (b : Bool) → is_some (cond b (Some e.1) (lookup (is_at (cmp k)) es)) ≡ false → (is_some (lookup (is_at (cmp k)) es) ≡ false → kept_at cmp es k ≡ None) → cond b (Some e) (kept_at cmp es k) ≡ None
    at true none rest = cc
    at false none rest = rest none

-- What a delivery and its end change, and what is noted of a response, leaves each key at its stage.
module _ {K V S : Type 0} {cmp : K → K → Ordering} (o : IsTotalOrder cmp) (laws : IsEquivalence (λ k l. is_eq (cmp k l))) (next : ℕ) (asked : List (ℕ × K)) (d : Numbered K S V (Unit {0}) Stage) (l : IsLed cmp next asked d.keys) where
  pub led-delivered : (delivery : Delivery K S) (value : V) (e : Numbered K S V (Unit {0}) Stage) (result : Result ℕ Fault) → OnOk result (e ≡ delivered cmp delivery tt value d) → OnErr result (e ≡ d) → IsLed cmp next asked e.keys
  led-delivered delivery value e (Ok number) ok err =
      rw ok (led-touched o laws next asked delivery.key (λ e. numbered d.next (with_response (Some (record { name = d.next; value = value; context = tt; accepted = false })) e)) d.keys (λ e. refl) l)
  led-delivered delivery value e (Err fault) ok err = rw err l

  pub led-redelivered : (delivery : Delivery K S) → IsLed cmp next asked (redelivered cmp delivery d).keys
  led-redelivered delivery = at (response_of cmp d delivery.key)
    where
      at : (p : Option (Response V (Unit {0}))) → IsLed cmp next asked (begun_again cmp delivery p d).keys
      at None = l
      at (Some r) = led-touched o laws next asked delivery.key (λ e. numbered d.next e) d.keys (λ e. refl) l

  pub led-flagged : (accepts : Bool) (key : K) → IsLed cmp next asked (flagged cmp accepts key d).keys
  led-flagged true key = led-touched o laws next asked key (λ e. with_response (option_map accepted e.response) e) d.keys (λ e. refl) l
  led-flagged false key = l

  pub led-completed : (number : ℕ) (verdict : Option Outcome) (e : Numbered K S V (Unit {0}) Stage) (result : Result (Completion K S (Unit {0})) Aborted) → (result, e) ≡ completed cmp d number verdict → IsLed cmp next asked e.keys
  led-completed number verdict e result is = subst (λ e. IsLed cmp next asked e.keys) (sym (ap (λ p. p.1) is)) (at (lookup (is_at (nat_cmp number)) d.going))
    where
      live : (b : Bool) (p : Open K S (Unit {0})) → IsLed cmp next asked (cond b (changed_at (is_at (cmp p.delivery.key)) (lookup (is_at (cmp p.delivery.key)) d.keys) ended d.keys) d.keys)
      live true p = led-touched o laws next asked p.delivery.key ended d.keys (λ e. refl) l
      live false p = l

      open_at : (b : Bool) (p : Open K S (Unit {0})) → IsLed cmp next asked (cond b (record d { keys = changed_at (is_at (cmp p.delivery.key)) (lookup (is_at (cmp p.delivery.key)) d.keys) ended d.keys }) d).keys
      open_at true p = live true p
      open_at false p = l

      at : (p : Option (Open K S (Unit {0}))) → IsLed cmp next asked (completed_from cmp d number verdict p).1.keys
      at None = l
      at (Some p) = open_at (is_live cmp d number p) p

-- Handing out again leaves each key at its stage, and so does what was noted before it was refused.
pub led-handed : {K V S T : Type 0} {cmp : K → K → Ordering} (o : IsTotalOrder cmp) (laws : IsEquivalence (λ k l. is_eq (cmp k l))) (next : ℕ) (asked : List (ℕ × K)) (d : Numbered K S V (Unit {0}) Stage) → IsLed cmp next asked d.keys
    → (delivery : Delivery K S) (accepts : Bool) (e : Numbered K S V (Unit {0}) Stage) (result : Result T Fault) → OnOk result (e ≡ handed_again cmp delivery accepts d) → OnErr result (e ≡ flagged cmp accepts delivery.key d)
    → IsLed cmp next asked e.keys
led-handed {cmp} o laws next asked d l delivery accepts e (Ok handed) ok err = rw ok (led-redelivered o laws next asked (flagged cmp accepts delivery.key d) (led-flagged o laws next asked d l accepts delivery.key) delivery)
led-handed {cmp} o laws next asked d l delivery accepts e (Err fault) ok err = rw err (led-flagged o laws next asked d l accepts delivery.key)
