-- A demand kept as a table and one kept as pairs are one demand, after every run.
use Rattle.std.proofs.Common.{◌≡◌, refl, ap, sym, ◌∙◌, subst, ℕ, ◌<◌, Bool, true, false, not, ◌&&◌, cond, List, [], ◌∷◌, ◌++◌, length, map, filter, Option, None, Some, is_some, arith}
use Rattle.std.specs.Prelude.{nat_lt, ⊤}
use Rattle.std.specs.Option.{option_or}
use Rattle.std.specs.List.{IsDistinct, AllByRecursion}
use Rattle.std.specs.Map.{lookup, set_value, keys_of}
use Rattle.std.specs.BTreeMap.{insert_entry, is_at}
use Rattle.std.specs.Ordering.{match_ordering, nat_cmp}
use Rattle.std.specs.declared.cmp.Ordering.{Ordering}
use Rattle.std.specs.declared.cmp.Ordering.TheVariants.{Less, Equal, Greater}
use Rattle.std.specs.Cmp.{IsEquivalence, IsTotalOrder}
use Rattle.std.proofs.lemmas.Bool.{lt-ltb}
use Rattle.std.proofs.lemmas.Map.Keys.{IsDistinct-head, IsDistinct-tail}
use Rattle.std.proofs.lemmas.Map.Made.{IsDistinct-keys_filter}
use Rattle.resolver_types.specs.Names.{Names, same_key, same_subscriber}
use Rattle.resolver_types.specs.Subscribers.{attached, attached_all, is_among, without}
use Rattle.resolver_types.specs.Demand.{Pair, mark_of, has_pair, added, added_all, pairs_of, all_pairs_of, IsSameDemand}
use Rattle.resolver_types.specs.declared.outcome.Outcome.{Outcome}
use Rattle.resolver_types.specs.declared.outcome.Outcome.TheVariants.{Invalid, Resolved, Unresolved, Ignored}
use Rattle.resolver_types.specs.declared.outcome.Resolution.TheVariants.{Complete, Partial}
use Rattle.resolver_types.specs.Table as tables
use Rattle.resolver_model.specs.Account.{table}
use Rattle.resolver_types.specs.Table.{asked, asked_one, asked_beside, pruned, has_subscribers, is_asked, left_with, without_these}
use Rattle.resolver_model.specs.Account.{Account, Handed, Watched, Change, Adds, Keeps, Judges, Empties, Leaves, pairs, conflicts, nothing_asked, judged, demand_after_verdict, demand_after, watch, opens, left_open, completed_after, account_of}
use Rattle.resolver_model.specs.Lawful.{Each, AnswersAlike, IsLawful}
use Rattle.resolver_model.proofs.Deliveries.{Each-imply, Each-remove_entry, Each-found}
use Rattle.resolver_model.proofs.Rows.{Distinct-inserted, Distinct-removed, Distinct-set}
use Rattle.resolver_model.proofs.Marks as marks
use Rattle.resolver_model.proofs.Marks.{Rising, Rising-attached, among-same, option_or-none}
use Rattle.resolver_model.proofs.Pairs as marked
use Rattle.resolver_model.proofs.Tallies.{none_distinct}
use Rattle.resolver_model.proofs.Pairs.{mark-append, mark-added_all, mark-pairs_of, has_pair-mark, mark-has_pair}

Each-inserted : {K X : Type 0} (cmp : K → K → Ordering) (P : X → Type 0) (es : List (K × X)) (k : K) (x : X) → Each (λ e. P e.1) es → P x → Each (λ e. P e.1) (insert_entry cmp es k x)
Each-inserted cmp P [] k x ps p = (p, tt)
Each-inserted cmp P (e ∷ es) k x ps p = at (cmp k e.0) (Each-inserted cmp P es k x ps.1 p)
  where
    at : (o : Ordering) → Each (λ e. P e.1) (insert_entry cmp es k x) → Each (λ e. P e.1) (match_ordering o ((k, x) ∷ e ∷ es) ((e.0, x) ∷ es) (e ∷ insert_entry cmp es k x))
    at Less rest = (p, ps)
    at Equal rest = (p, ps.1)
    at Greater rest = (ps.0, rest)

Each-set : {K X : Type 0} (test : K → Bool) (P : X → Type 0) (es : List (K × X)) (x : X) → Each (λ e. P e.1) es → P x → Each (λ e. P e.1) (set_value test es x)
Each-set test P [] x ps p = tt
Each-set test P (e ∷ es) x ps p = at (test e.0) (Each-set test P es x ps.1 p)
  where
    at : (b : Bool) → Each (λ e. P e.1) (set_value test es x) → Each (λ e. P e.1) (cond b ((e.0, x) ∷ es) (e ∷ set_value test es x))
    at true rest = (p, ps.1)
    at false rest = (ps.0, rest)

Each-filter : {X : Type 0} (P : X → Type 0) (test : X → Bool) (xs : List X) → Each P xs → Each (λ x. P x × (test x ≡ true)) (filter test xs)
Each-filter P test [] ps = tt
Each-filter P test (x ∷ xs) ps = at (test x) refl (Each-filter P test xs ps.1)
  where
    at : (b : Bool) → test x ≡ b → Each (λ x. P x × (test x ≡ true)) (filter test xs) → Each (λ x. P x × (test x ≡ true)) (cond b (x ∷ filter test xs) (filter test xs))
    at true passes rest = ((ps.0, passes), rest)
    at false fails rest = rest

-- what is not below no key is not found
lookup-apart : {K X : Type 0} (eq : K → K → Bool) → IsEquivalence eq → (k l : K) (es : List (K × X)) → eq k l ≡ true → AllByRecursion (λ y. eq l y ≡ false) (keys_of es) → lookup (eq k) es ≡ None
lookup-apart eq laws k l [] same apart = refl
lookup-apart eq laws k l (e ∷ es) same apart = rw (laws.congr k l e.0 same, apart.0) (lookup-apart eq laws k l es same apart.1)

some_first : {X : Type 0} (x : X) (xs : List X) → nat_lt 0 (length (x ∷ xs)) ≡ true
some_first x xs = lt-ltb 0 (length (x ∷ xs)) (omega arith)

module _ {S : Type 0} (cmp : S → S → Ordering) (order : IsTotalOrder cmp) where
  -- in order, and not empty
  record Good (ss : List (S × ℕ)) : Type 0 where
    rising : Rising cmp order ss
    some : nat_lt 0 (length ss) ≡ true

  some-attached : (ts : List (S × ℕ)) (s : S × ℕ) → nat_lt 0 (length (attached cmp ts s)) ≡ true
  some-attached [] s = some_first s []
  some-attached (t ∷ ts) s = at (cmp s.0 t.0)
    where
      at : (o : Ordering) → nat_lt 0 (length (match_ordering o (s ∷ t ∷ ts) (t ∷ ts) (t ∷ attached cmp ts s))) ≡ true
      at Less = some_first s (t ∷ ts)
      at Equal = some_first t ts
      at Greater = some_first t (attached cmp ts s)

  good-attached : (ts : List (S × ℕ)) (s : S × ℕ) → Rising cmp order ts → Good (attached cmp ts s)
  good-attached ts s rising = record { rising = Rising-attached cmp order ts s rising; some = some-attached ts s }

  good-attached_all : (ts ss : List (S × ℕ)) → Good ts → Good (attached_all cmp ts ss)
  good-attached_all ts [] good = good
  good-attached_all ts (s ∷ ss) good = good-attached_all (attached cmp ts s) ss (good-attached ts s good.rising)

  good-first : (ss : List (S × ℕ)) → 0 < length ss → Good (attached_all cmp [] ss)
  good-first [] some = absurd (omega arith)
  good-first (s ∷ ss) some = good-attached_all (attached cmp [] s) ss (good-attached [] s tt)

  rising-filter : (keep : S × ℕ → Bool) (ss : List (S × ℕ)) → Rising cmp order ss → Rising cmp order (filter keep ss)
  rising-filter keep [] rising = tt
  rising-filter keep (s ∷ ss) rising = at (keep s) (rising-filter keep ss rising.1)
    where
      above : Each (λ u. cmp s.0 u.0 ≡ Less) (filter keep ss)
      above = Each-imply (λ u. (cmp s.0 u.0 ≡ Less) × (keep u ≡ true)) (λ u. cmp s.0 u.0 ≡ Less) (λ u both. both.0) (filter keep ss) (Each-filter (λ u. cmp s.0 u.0 ≡ Less) keep ss rising.0)

      at : (b : Bool) → Rising cmp order (filter keep ss) → Rising cmp order (cond b (s ∷ filter keep ss) (filter keep ss))
      at true rest = (above, rest)
      at false rest = rest

module _ {K S : Type 0} (n : Names K S) (keys : IsEquivalence (same_key n)) (order : IsTotalOrder n.subscriber) (subscribers : IsEquivalence (same_subscriber n)) where
  -- a table as the code keeps it: no key twice, and for each its subscribers in order
  record Sound (t : List (K × List (S × ℕ))) : Type 0 where
    distinct : IsDistinct (same_key n) (keys_of t)
    good : Each (λ e. Good n.subscriber order e.1) t

  -- a table and pairs with the same marks
  pub record Tells (t : List (K × List (S × ℕ))) (d : List (Pair K S)) : Type 0 where
    sound : Sound t
    marks : (k : K) (s : S) → tables.mark_of n t k s ≡ mark_of n d k s

  good-row : (t : List (K × List (S × ℕ))) (k : K) (ss : List (S × ℕ)) → Sound t → lookup (same_key n k) t ≡ Some ss → Good n.subscriber order ss
  good-row t k ss sound found = Each-found (Good n.subscriber order) (same_key n k) t ss sound.good found

  -- Fetches
  sound-asked_one : (t : List (K × List (S × ℕ))) (item : K × List (S × ℕ)) → 0 < length item.1 → Sound t → (o : Option (List (S × ℕ))) → lookup (same_key n item.0) t ≡ o → Sound (asked_beside n t item o)
  sound-asked_one t item some sound None is = record {
    distinct = Distinct-inserted n keys item.0 t (attached_all n.subscriber [] item.1) is sound.distinct;
    good = Each-inserted n.key (Good n.subscriber order) t item.0 (attached_all n.subscriber [] item.1) sound.good (good-first n.subscriber order item.1 some);
  }
  sound-asked_one t item some sound (Some ss) is = record {
    distinct = Distinct-set n keys (same_key n item.0) t (attached_all n.subscriber ss item.1) sound.distinct;
    good = Each-set (same_key n item.0) (Good n.subscriber order) t (attached_all n.subscriber ss item.1) sound.good (good-attached_all n.subscriber order ss item.1 (good-row t item.0 ss sound is));
  }

  tells-asked_one : (t : List (K × List (S × ℕ))) (d : List (Pair K S)) (item : K × List (S × ℕ)) → 0 < length item.1 → Tells t d
      → Tells (asked_one n t item) (added_all n d (pairs_of item.0 item.1))
  tells-asked_one t d item some tells = record {
    sound = sound-asked_one t item some tells.sound (lookup (same_key n item.0) t) refl;
    marks = λ k s.
        marks.mark-asked_one n keys order t item (Each-imply (λ e. Good n.subscriber order e.1) (λ e. Rising n.subscriber order e.1) (λ e good. good.rising) t tells.sound.good) k s
        ∙ (at (same_key n item.0 k) (tables.mark_of n t k s) (lookup (same_subscriber n s) item.1)
        ∙ (ap (λ m. option_or m (cond (same_key n item.0 k) (lookup (same_subscriber n s) item.1) None)) (tells.marks k s)
        ∙ (ap (option_or (mark_of n d k s)) (sym (mark-pairs_of n keys subscribers item.0 item.1 k s))
        ∙ sym (mark-added_all n keys subscribers d (pairs_of item.0 item.1) k s))));
  }
    where
      at : (b : Bool) (mark more : Option ℕ) → cond b (option_or mark more) mark ≡ option_or mark (cond b more None)
      at true mark more = refl
      at false mark more = option_or-none mark

  added_all-append : (d ps qs : List (Pair K S)) → added_all n d (ps ++ qs) ≡ added_all n (added_all n d ps) qs
  added_all-append d [] qs = refl
  added_all-append d (p ∷ ps) qs = added_all-append (added n d p) ps qs

  tells-fetched : (items : List (K × List (S × ℕ))) (t : List (K × List (S × ℕ))) (d : List (Pair K S)) → Each (λ item. 0 < length item.1) items → Tells t d
      → Tells (asked n t items) (added_all n d (all_pairs_of items))
  tells-fetched [] t d some tells = tells
  tells-fetched (item ∷ items) t d some tells =
      subst (Tells (asked n t (item ∷ items))) (sym (added_all-append d (pairs_of item.0 item.1) (all_pairs_of items)))
      (tells-fetched items (asked_one n t item) (added_all n d (pairs_of item.0 item.1)) some.1 (tells-asked_one t d item some.0 tells))

  -- Retains
  sound-kept : (keep : K → S → Bool) (t : List (K × List (S × ℕ))) → Sound t → Sound (tables.kept keep t)
  sound-kept keep t sound = record {
    distinct = IsDistinct-keys_filter (same_key n) has_subscribers (map (pruned keep) t) (subst (IsDistinct (same_key n)) (sym (keys-pruned t)) sound.distinct);
    good =
        Each-imply (λ e. Rising n.subscriber order e.1 × (has_subscribers e ≡ true)) (λ e. Good n.subscriber order e.1) (λ e both. record { rising = both.0; some = both.1 })
        (tables.kept keep t) (Each-filter (λ e. Rising n.subscriber order e.1) has_subscribers (map (pruned keep) t) (rising-pruned t sound.good));
  }
    where
      keys-pruned : (t : List (K × List (S × ℕ))) → keys_of (map (pruned keep) t) ≡ keys_of t
      keys-pruned [] = refl
      keys-pruned (e ∷ es) = ap (λ ks. e.0 ∷ ks) (keys-pruned es)

      rising-pruned : (t : List (K × List (S × ℕ))) → Each (λ e. Good n.subscriber order e.1) t → Each (λ e. Rising n.subscriber order e.1) (map (pruned keep) t)
      rising-pruned [] good = tt
      rising-pruned (e ∷ es) good = (rising-filter n.subscriber order (λ s. keep e.0 s.0) e.1 good.0.rising, rising-pruned es good.1)

  tells-kept : (keep : K → S → Bool) → AnswersAlike n keep → (t : List (K × List (S × ℕ))) (d : List (Pair K S)) → Tells t d → Tells (tables.kept keep t) ((pairs n).kept keep d)
  tells-kept keep alike t d tells = record {
    sound = sound-kept keep t tells.sound;
    marks = λ k s.
        marks.mark-kept n keys subscribers keep alike t tells.sound.distinct k s
        ∙ (ap (λ m. cond (keep k s) m None) (tells.marks k s) ∙ sym (marked.mark-kept n keys subscribers keep alike d k s));
  }

  -- Retired keys
  unlike_key : (key : K) → AnswersAlike n (λ k s. not (same_key n key k))
  unlike_key key k l s t same_k same_s = ap not (keys.symm key l ∙ (sym (keys.congr k l key same_k) ∙ keys.symm k key))

  flipped : (b : Bool) (m : Option ℕ) → cond b None m ≡ cond (not b) m None
  flipped true m = refl
  flipped false m = refl

  sound-without_key : (key : K) (t : List (K × List (S × ℕ))) → Sound t → Sound (tables.without_key n key t)
  sound-without_key key t sound = record {
    distinct = Distinct-removed n keys (same_key n key) t sound.distinct;
    good = Each-remove_entry (same_key n key) (λ e. Good n.subscriber order e.1) t sound.good;
  }

  tells-without_key : (key : K) (t : List (K × List (S × ℕ))) (d : List (Pair K S)) → Tells t d → Tells (tables.without_key n key t) ((pairs n).without_key key d)
  tells-without_key key t d tells = record {
    sound = sound-without_key key t tells.sound;
    marks = λ k s.
        marks.mark-without_key n keys key t tells.sound.distinct k s
        ∙ (ap (cond (same_key n key k) None) (tells.marks k s)
        ∙ (flipped (same_key n key k) (mark_of n d k s) ∙ sym (marked.mark-kept n keys subscribers (λ k s. not (same_key n key k)) (unlike_key key) d k s)));
  }

  -- Retired subscribers
  unlike_named : (key : K) (named : List (S × ℕ)) → AnswersAlike n (λ k s. not (same_key n key k && is_among n.subscriber named s))
  unlike_named key named k l s t same_k same_s =
      rw (keys.symm key l, ← keys.congr k l key same_k, keys.symm k key, among-same n keys subscribers named s t same_s) refl

  sound-left_with : (key : K) (rest : List (S × ℕ)) (t : List (K × List (S × ℕ))) → Rising n.subscriber order rest → Sound t → Sound (left_with n key rest t)
  sound-left_with key [] t rising sound = sound-without_key key t sound
  sound-left_with key (s ∷ rest) t rising sound = record {
    distinct = Distinct-set n keys (same_key n key) t (s ∷ rest) sound.distinct;
    good = Each-set (same_key n key) (Good n.subscriber order) t (s ∷ rest) sound.good (record { rising = rising; some = some_first s rest });
  }

  sound-without_named : (key : K) (named : List (S × ℕ)) (t : List (K × List (S × ℕ))) → Sound t → (o : Option (List (S × ℕ))) → lookup (same_key n key) t ≡ o
      → Sound (without_these n key named t o)
  sound-without_named key named t sound None is = sound
  sound-without_named key named t sound (Some ss) is =
      sound-left_with key (without n.subscriber named ss) t (rising-filter n.subscriber order (λ s. not (is_among n.subscriber named s.0)) ss (good-row t key ss sound is).rising) sound

  tells-without_named : (key : K) (named : List (S × ℕ)) (t : List (K × List (S × ℕ))) (d : List (Pair K S)) → Tells t d
      → Tells (tables.without_named n key named t) ((pairs n).without_named key named d)
  tells-without_named key named t d tells = record {
    sound = sound-without_named key named t tells.sound (lookup (same_key n key) t) refl;
    marks = λ k s.
        marks.mark-without_named n keys subscribers key named t tells.sound.distinct k s
        ∙ (ap (cond (same_key n key k && is_among n.subscriber named s) None) (tells.marks k s)
        ∙ (flipped (same_key n key k && is_among n.subscriber named s) (mark_of n d k s)
        ∙ sym (marked.mark-kept n keys subscribers (λ k s. not (same_key n key k && is_among n.subscriber named s)) (unlike_named key named) d k s)));
  }

  -- Whether a key is asked for
  tells-has_key : (t : List (K × List (S × ℕ))) (d : List (Pair K S)) → Tells t d → (k : K) → is_asked n t k ≡ has_pair n d k
  tells-has_key t d tells k = at (lookup (same_key n k) t) refl
    where
      none : lookup (same_key n k) t ≡ None → (b : Bool) → has_pair n d k ≡ b → false ≡ b
      none absent true has =
          let marked = mark-has_pair n keys subscribers d k has in
          let unmarked : is_some (mark_of n d k marked.0) ≡ false = ap is_some (sym (tells.marks k marked.0) ∙ ap (λ o. tables.mark_in n o marked.0) absent) in
          sym unmarked ∙ marked.1
      none absent false has = refl

      some : (ss : List (S × ℕ)) → Good n.subscriber order ss → lookup (same_key n k) t ≡ Some ss → true ≡ has_pair n d k
      some [] good found = let clash = good.some in cc
      some (u ∷ us) good found =
          sym (has_pair-mark n d k u.0 u.1
          (sym (tells.marks k u.0) ∙ (ap (λ o. tables.mark_in n o u.0) found ∙ ap (λ b. cond b (Some u.1) (lookup (same_subscriber n u.0) us)) (subscribers.refl u.0))))

      at : (o : Option (List (S × ℕ))) → lookup (same_key n k) t ≡ o → is_some (lookup (same_key n k) t) ≡ has_pair n d k
      at None absent = ap is_some absent ∙ none absent (has_pair n d k) refl
      at (Some ss) found = ap is_some found ∙ some ss (good-row t k ss tells.sound found) found

  -- Verdicts
  tells-judged : (h : Handed K S) (conflict : Bool) (outcome : Option Outcome) (t : List (K × List (S × ℕ))) (d : List (Pair K S)) → Tells t d
      → Tells (judged (table n) h conflict outcome t) (judged (pairs n) h conflict outcome d)
  tells-judged h conflict None t d tells = tells-without_named h.key h.subscribers t d tells
  tells-judged h conflict (Some (Resolved Complete)) t d tells = tells-without_named h.key h.subscribers t d tells
  tells-judged h conflict (Some (Resolved Partial)) t d tells = tells
  tells-judged h conflict (Some Unresolved) t d tells = tells
  tells-judged h true (Some Invalid) t d tells = tells-without_key h.key t d tells
  tells-judged h false (Some Invalid) t d tells = tells
  tells-judged h conflict (Some Ignored) t d tells = tells-without_key h.key t d tells

  -- an account with this demand
  abbrev account : {D : Type 0} → D → List (ℕ × Watched K S) → List ℕ → Account K S D
  account demand deliveries completed = record { demand = demand; deliveries = deliveries; completed = completed }

  tells-verdict : (deliveries : List (ℕ × Watched K S)) (completed : List ℕ) (outcome : Option Outcome) (t : List (K × List (S × ℕ))) (d : List (Pair K S)) → Tells t d → (found : Option (Watched K S))
      → Tells (demand_after_verdict (table n) (account t deliveries completed) outcome found) (demand_after_verdict (pairs n) (account d deliveries completed) outcome found)
  tells-verdict deliveries completed outcome t d tells None = tells
  tells-verdict deliveries completed outcome t d tells (Some o) = at o.live
    where
      conflict : Bool
      conflict = conflicts completed o.handed

      at : (b : Bool) → Tells (cond b (judged (table n) o.handed (conflicts completed o.handed) outcome t) t) (cond b (judged (pairs n) o.handed (conflicts completed o.handed) outcome d) d)
      at true = tells-judged o.handed (conflicts completed o.handed) outcome t d tells
      at false = tells

  tells-nothing : Tells [] []
  tells-nothing = record { sound = record { distinct = none_distinct n; good = tt }; marks = λ k s. refl }

  tells-after : (deliveries : List (ℕ × Watched K S)) (completed : List ℕ) (t : List (K × List (S × ℕ))) (d : List (Pair K S)) → Tells t d → (change : Change K S) → IsLawful n change
      → Tells (demand_after (table n) (account t deliveries completed) change) (demand_after (pairs n) (account d deliveries completed) change)
  tells-after deliveries completed t d tells (Adds items) lawful = tells-fetched items t d lawful tells
  tells-after deliveries completed t d tells (Keeps keep) lawful = tells-kept keep lawful t d tells
  tells-after deliveries completed t d tells (Judges number outcome) lawful = tells-verdict deliveries completed outcome t d tells (lookup (is_at (nat_cmp number)) deliveries)
  tells-after deliveries completed t d tells Empties lawful = tells-nothing
  tells-after deliveries completed t d tells Leaves lawful = tells

  -- what is live by one is live by the other
  watch-tells : (t : List (K × List (S × ℕ))) (d : List (Pair K S)) → Tells t d → (os : List (ℕ × Watched K S)) → map (watch (table n) t) os ≡ map (watch (pairs n) d) os
  watch-tells t d tells [] = refl
  watch-tells t d tells (o ∷ os) =
      ap (λ b. (o.0, record o.1 { live = o.1.live && b }) ∷ map (watch (table n) t) os) (tells-has_key t d tells o.1.handed.key)
      ∙ ap (λ rest. watch (pairs n) d o ∷ rest) (watch-tells t d tells os)

  -- accounts with the same demand, which judge alike
  record IsTold (x : Account K S (List (K × List (S × ℕ)))) (y : Account K S (List (Pair K S))) : Type 0 where
    tells : Tells x.demand y.demand
    deliveries : x.deliveries ≡ y.deliveries
    completed : x.completed ≡ y.completed

  tells-run : (taken : List (Change K S × List (ℕ × Handed K S))) → Each (λ one. IsLawful n one.0) taken → (t : List (K × List (S × ℕ))) (d : List (Pair K S)) (deliveries : List (ℕ × Watched K S)) (completed : List ℕ) → Tells t d
      → IsTold (account_of (table n) (account t deliveries completed) taken) (account_of (pairs n) (account d deliveries completed) taken)
  tells-run [] lawful t d deliveries completed tells = record { tells = tells; deliveries = refl; completed = refl }
  tells-run (one ∷ taken) lawful t d deliveries completed tells =
      let after = tells-after deliveries completed t d tells one.0 lawful.0 in
      let shown = opens (left_open deliveries one.0) one.1 in
      let t' = demand_after (table n) (account t deliveries completed) one.0 in
      let d' = demand_after (pairs n) (account d deliveries completed) one.0 in
      let completed' = completed_after deliveries completed one.0 in
      subst (λ os. IsTold (account_of (table n) (account t' (map (watch (table n) t') shown) completed') taken) (account_of (pairs n) (account d' os completed') taken)) (watch-tells t' d' after shown)
      (tells-run taken lawful.1 t' d' (map (watch (table n) t') shown) completed' after)

  -- the pairs of a table
  mark-all_pairs_of : (t : List (K × List (S × ℕ))) → IsDistinct (same_key n) (keys_of t) → (k : K) (s : S) → mark_of n (all_pairs_of t) k s ≡ tables.mark_of n t k s
  mark-all_pairs_of [] distinct k s = refl
  mark-all_pairs_of (e ∷ es) distinct k s =
      mark-append n (pairs_of e.0 e.1) (all_pairs_of es) k s
      ∙ (ap (λ m. option_or m (mark_of n (all_pairs_of es) k s)) (mark-pairs_of n keys subscribers e.0 e.1 k s)
      ∙ (ap (option_or (cond (same_key n e.0 k) (lookup (same_subscriber n s) e.1) None)) (mark-all_pairs_of es (IsDistinct-tail (same_key n) e.0 (keys_of es) distinct) k s)
      ∙ (at (same_key n e.0 k) refl ∙ ap (λ b. tables.mark_in n (cond b (Some e.1) (lookup (same_key n k) es)) s) (keys.symm e.0 k))))
    where
      at : (b : Bool) → same_key n e.0 k ≡ b
          → option_or (cond b (lookup (same_subscriber n s) e.1) None) (tables.mark_of n es k s) ≡ tables.mark_in n (cond b (Some e.1) (lookup (same_key n k) es)) s
      at true same =
          ap (λ o. option_or (lookup (same_subscriber n s) e.1) (tables.mark_in n o s))
          (lookup-apart (same_key n) keys k e.0 es (keys.symm k e.0 ∙ same) (IsDistinct-head (same_key n) e.0 (keys_of es) distinct))
          ∙ sym (option_or-none (lookup (same_subscriber n s) e.1))
      at false other = refl

  -- the pairs of the table are those of the account
  pub demand_is_told : (taken : List (Change K S × List (ℕ × Handed K S))) → Each (λ one. IsLawful n one.0) taken
      → IsSameDemand n (all_pairs_of (account_of (table n) (nothing_asked (table n)) taken).demand) (account_of (pairs n) (nothing_asked (pairs n)) taken).demand
  demand_is_told taken lawful k s =
      let tells = (tells-run taken lawful [] [] [] [] tells-nothing).tells in
      mark-all_pairs_of (account_of (table n) (nothing_asked (table n)) taken).demand tells.sound.distinct k s ∙ tells.marks k s

  -- what is live by the table, and what was completed, is so by the pairs
  pub judgments_are_told : (taken : List (Change K S × List (ℕ × Handed K S))) → Each (λ one. IsLawful n one.0) taken
      → ((account_of (table n) (nothing_asked (table n)) taken).deliveries ≡ (account_of (pairs n) (nothing_asked (pairs n)) taken).deliveries)
      × ((account_of (table n) (nothing_asked (table n)) taken).completed ≡ (account_of (pairs n) (nothing_asked (pairs n)) taken).completed)
  judgments_are_told taken lawful = let told = tells-run taken lawful [] [] [] [] tells-nothing in (told.deliveries, told.completed)
