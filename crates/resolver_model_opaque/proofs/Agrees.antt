-- Tracker and entries have the same keys, each once, through every change.
use Rattle.std.proofs.Common.{◌≡◌, refl, ap, sym, ◌∙◌, subst, Bool, true, false, cond, not, List, [], ◌∷◌, ◌++◌, map, filter, Option, None, Some, ℕ, length}
use Rattle.std.specs.Prelude.{nat_lt}
use Rattle.std.specs.List.{IsDistinct, AllByRecursion}
use Rattle.std.specs.List.Sorted.{IsStrictlySortedBy}
use Rattle.std.specs.Ordering.{match_ordering, is_eq}
use Rattle.std.specs.declared.cmp.Ordering.{Ordering}
use Rattle.std.specs.declared.cmp.Ordering.TheVariants.{Less, Equal, Greater}
use Rattle.std.specs.Map.{keys_of, lookup, set_value, remove_entry}
use Rattle.std.specs.BTreeMap.{insert_entry, is_at}
use Rattle.std.specs.Cmp.{IsEquivalence}
use Rattle.std.proofs.lemmas.Map.{keys-set_value}
use Rattle.std.proofs.lemmas.Map.Keys.{IsDistinct-head, IsDistinct-tail, IsDistinct-cons}
use Rattle.resolver_types.specs.Names.{Names, same_key}
use Rattle.resolver_types.specs.Table as tables
use Rattle.resolver_delivery.specs.Entries.{changed_at}
use Rattle.resolver_model_opaque.specs.Opaque.{Row, kept, unkept, called_off, all_called_off}
use Rattle.resolver_model_opaque.specs.OpaqueStages.{Kept}
use Rattle.resolver_model_opaque.specs.OpaqueByPhase.{phase_of}
use Rattle.resolver_model_opaque.specs.OpaqueTables.{rows_of, has_cached, AreCached, Agree}
use Rattle.resolver_model_opaque.specs.OpaqueFound.{each_called_off, without_each}
use Rattle.std.specs.Prelude.{Result, Ok, Err, IfOk, OnOk}
use Rattle.std.specs.declared.vec.Vec.{Vec}
use Rattle.std.specs.declared.alloc.Global.{Global}
use Rattle.resolver_base.specs.declared.fault.Fault.{Fault}
use Rattle.resolver_model_opaque.specs.declared.rows.Row.{Row as ListedRow}
use Rattle.resolver_model_opaque.specs.OpaqueListed.{listed}
use Rattle.resolver_model_opaque.proofs.Joined.{head_key, tail_keys, keys-inserted, keys-removed, keys-rows}
use Rattle.resolver_model.proofs.Rows.{Distinct-inserted, Distinct-removed}

abbrev HasCached : {V : Type 0} → Kept V → Type 0
HasCached e = has_cached e.number e.response

module _ {K V : Type 0} where
  pub cached-at : (test : K → Bool) (es : List (K × Kept V)) (e : Kept V) → AreCached es → lookup test es ≡ Some e → has_cached e.number e.response
  cached-at test [] e cached found = cc
  cached-at test (f ∷ es) e cached found = at (test f.0) found (λ later. cached-at test es e cached.1 later)
    where
      at : (b : Bool) → cond b (Some f.1) (lookup test es) ≡ Some e → (lookup test es ≡ Some e → HasCached e) → HasCached e
      at true found rest = let same : f.1 ≡ e = cc in subst HasCached same cached.0
      at false found rest = rest found

  pub cached-set : (test : K → Bool) (es : List (K × Kept V)) (e : Kept V) → AreCached es → has_cached e.number e.response → AreCached (set_value test es e)
  cached-set test [] e cached has = tt
  cached-set test (f ∷ es) e cached has = at (test f.0) (cached-set test es e cached.1 has)
    where
      at : (b : Bool) → AreCached (set_value test es e) → AreCached (cond b ((f.0, e) ∷ es) (f ∷ set_value test es e))
      at true rest = (has, cached.1)
      at false rest = (cached.0, rest)

  pub cached-removed : (test : K → Bool) (es : List (K × Kept V)) → AreCached es → AreCached (remove_entry test es)
  cached-removed test [] cached = tt
  cached-removed test (f ∷ es) cached = at (test f.0) (cached-removed test es cached.1)
    where
      at : (b : Bool) → AreCached (remove_entry test es) → AreCached (cond b es (f ∷ remove_entry test es))
      at true rest = cached.1
      at false rest = (cached.0, rest)

  pub cached-inserted : (cmp : K → K → Ordering) (es : List (K × Kept V)) (k : K) (e : Kept V) → AreCached es → has_cached e.number e.response → AreCached (insert_entry cmp es k e)
  cached-inserted cmp [] k e cached has = (has, tt)
  cached-inserted cmp (f ∷ es) k e cached has = at (cmp k f.0) (cached-inserted cmp es k e cached.1 has)
    where
      at : (o : Ordering) → AreCached (insert_entry cmp es k e) → AreCached (match_ordering o ((k, e) ∷ f ∷ es) ((f.0, e) ∷ es) (f ∷ insert_entry cmp es k e))
      at Less rest = (has, cached)
      at Equal rest = (has, cached.1)
      at Greater rest = (cached.0, rest)

  pub cached-changed : (test : K → Bool) (es : List (K × Kept V)) (change : Kept V → Kept V) → ((e : Kept V) → has_cached e.number e.response → has_cached (change e).number (change e).response)
      → AreCached es → AreCached (changed_at test (lookup test es) change es)
  cached-changed test es change stays cached = at (lookup test es) refl
    where
      at : (o : Option (Kept V)) → lookup test es ≡ o → AreCached (changed_at test o change es)
      at None is = cached
      at (Some e) is = cached-set test es (change e) cached (stays e (cached-at test es e cached is))

  pub keys-changed : (test : K → Bool) (es : List (K × Kept V)) (change : Kept V → Kept V) → keys_of (changed_at test (lookup test es) change es) ≡ keys_of es
  keys-changed test es change = at (lookup test es)
    where
      at : (o : Option (Kept V)) → keys_of (changed_at test o change es) ≡ keys_of es
      at None = refl
      at (Some e) = keys-set_value test es (change e)

  pub cached-without_each : (cmp : K → K → Ordering) (ks : List K) (es : List (K × Kept V)) → AreCached es → AreCached (without_each cmp ks es)
  cached-without_each cmp [] es cached = cached
  cached-without_each cmp (k ∷ ks) es cached = cached-without_each cmp ks (remove_entry (is_at (cmp k)) es) (cached-removed (is_at (cmp k)) es cached)

  pub without_each-apart : (cmp : K → K → Ordering) (ks : List K) (e : K × Kept V) (es : List (K × Kept V)) → AllByRecursion (λ k. is_eq (cmp k e.0) ≡ false) ks
      → without_each cmp ks (e ∷ es) ≡ e ∷ without_each cmp ks es
  without_each-apart cmp [] e es apart = refl
  without_each-apart cmp (k ∷ ks) e es apart = rw apart.0 (without_each-apart cmp ks e (remove_entry (is_at (cmp k)) es) apart.1)

module _ {K V S : Type 0} where
  each_called_off-apart : (cmp : K → K → Ordering) (ks : List K) (e : K × Kept V) (es : List (K × Kept V)) → AllByRecursion (λ k. is_eq (cmp k e.0) ≡ false) ks
      → each_called_off {K = K} {V = V} {S = S} cmp (e ∷ es) ks ≡ each_called_off cmp es ks
  each_called_off-apart cmp [] e es apart = refl
  each_called_off-apart cmp (k ∷ ks) e es apart = rw (apart.0, each_called_off-apart cmp ks e es apart.1) refl

module _ {K S : Type 0} (keep : K → S → Bool) where
  abbrev stays : K × List (S × ℕ) → Bool
  stays t = nat_lt 0 (length (filter (λ s. keep t.0 s.0) t.1))

  -- what holds of all keys holds of the emptied ones, and of those that are kept
  all-emptied : (P : K → Type 0) (ts : List (K × List (S × ℕ))) → AllByRecursion P (keys_of ts) → AllByRecursion P (tables.emptied keep ts)
  all-emptied P [] ps = tt
  all-emptied P (t ∷ ts) ps = at (stays t) (all-emptied P ts ps.1)
    where
      at : (b : Bool) → AllByRecursion P (tables.emptied keep ts) → AllByRecursion P (keys_of (cond (not b) (tables.pruned keep t ∷ filter (λ e. not (tables.has_subscribers e)) (map (tables.pruned keep) ts)) (filter (λ e. not (tables.has_subscribers e)) (map (tables.pruned keep) ts))))
      at true rest = rest
      at false rest = (ps.0, rest)

  all-kept : (P : K → Type 0) (ts : List (K × List (S × ℕ))) → AllByRecursion P (keys_of ts) → AllByRecursion P (keys_of (tables.kept keep ts))
  all-kept P [] ps = tt
  all-kept P (t ∷ ts) ps = at (stays t) (all-kept P ts ps.1)
    where
      at : (b : Bool) → AllByRecursion P (keys_of (tables.kept keep ts)) → AllByRecursion P (keys_of (cond b (tables.pruned keep t ∷ tables.kept keep ts) (tables.kept keep ts)))
      at true rest = (ps.0, rest)
      at false rest = rest

module _ {K S : Type 0} (n : Names K S) (laws : IsEquivalence (same_key n)) where
  flipped : (k : K) (ks : List K) → AllByRecursion (λ l. same_key n k l ≡ false) ks → AllByRecursion (λ l. same_key n l k ≡ false) ks
  flipped k [] ps = tt
  flipped k (l ∷ ks) ps = (laws.symm l k ∙ ps.0, flipped k ks ps.1)

  distinct-kept : (keep : K → S → Bool) (ts : List (K × List (S × ℕ))) → IsDistinct (same_key n) (keys_of ts) → IsDistinct (same_key n) (keys_of (tables.kept keep ts))
  distinct-kept keep [] distinct = distinct
  distinct-kept keep (t ∷ ts) distinct = at (stays keep t) (distinct-kept keep ts (IsDistinct-tail (same_key n) t.0 (keys_of ts) distinct))
    where
      at : (b : Bool) → IsDistinct (same_key n) (keys_of (tables.kept keep ts)) → IsDistinct (same_key n) (keys_of (cond b (tables.pruned keep t ∷ tables.kept keep ts) (tables.kept keep ts)))
      at true rest = IsDistinct-cons (same_key n) t.0 (keys_of (tables.kept keep ts)) (all-kept keep (λ l. same_key n t.0 l ≡ false) ts (IsDistinct-head (same_key n) t.0 (keys_of ts) distinct)) rest
      at false rest = rest

  -- the emptied keys are apart from a first one that stays
  head-apart : (keep : K → S → Bool) (t : K × List (S × ℕ)) (ts : List (K × List (S × ℕ))) (k : K) → t.0 ≡ k → IsDistinct (same_key n) (keys_of (t ∷ ts))
      → AllByRecursion (λ l. same_key n l k ≡ false) (tables.emptied keep ts)
  head-apart keep t ts k same distinct =
      subst (λ k. AllByRecursion (λ l. same_key n l k ≡ false) (tables.emptied keep ts)) same
      (flipped t.0 (tables.emptied keep ts) (all-emptied keep (λ l. same_key n t.0 l ≡ false) ts (IsDistinct-head (same_key n) t.0 (keys_of ts) distinct)))

  module _ {V : Type 0} where
    -- what is called off for the rows that aren't kept, key by key
    pub called_off-emptied : (keep : K → S → Bool) (ts : List (K × List (S × ℕ))) (es : List (K × Kept V)) → keys_of ts ≡ keys_of es → IsDistinct (same_key n) (keys_of ts)
        → all_called_off {K = K} {V = V} {S = S} (unkept keep (rows_of ts es)) ≡ each_called_off n.key es (tables.emptied keep ts)
    called_off-emptied keep [] es same distinct = refl
    called_off-emptied keep (t ∷ ts) [] same distinct = cc
    called_off-emptied keep (t ∷ ts) (e ∷ es) same distinct =
        at (stays keep t) (called_off-emptied keep ts es (tail_keys t ts e es same) (IsDistinct-tail (same_key n) t.0 (keys_of ts) distinct)
        ∙ sym (each_called_off-apart n.key (tables.emptied keep ts) e es (head-apart keep t ts e.0 (head_key t ts e es same) distinct)))
      where
        gone : Row V S
        gone = record { subscribers = filter (λ s. keep t.0 s.0) t.1; phase = phase_of e.1 }

        here : same_key n t.0 e.0 ≡ true
        here = subst (λ k. same_key n t.0 k ≡ true) (head_key t ts e es same) (laws.refl t.0)

        at : (b : Bool) → all_called_off {K = K} {V = V} {S = S} (unkept keep (rows_of ts es)) ≡ each_called_off n.key (e ∷ es) (tables.emptied keep ts)
            → all_called_off {K = K} {V = V} {S = S} (cond (not b) ((t.0, gone) ∷ unkept keep (rows_of ts es)) (unkept keep (rows_of ts es)))
            ≡ each_called_off n.key (e ∷ es) (keys_of (cond (not b) (tables.pruned keep t ∷ filter (λ e. not (tables.has_subscribers e)) (map (tables.pruned keep) ts)) (filter (λ e. not (tables.has_subscribers e)) (map (tables.pruned keep) ts))))
        at true rest = rest
        at false rest = rw here (ap (λ more. called_off (phase_of e.1) ++ more) rest)

    -- the rows that are kept
    pub kept-emptied : (keep : K → S → Bool) (ts : List (K × List (S × ℕ))) (es : List (K × Kept V)) → keys_of ts ≡ keys_of es → IsDistinct (same_key n) (keys_of ts)
        → kept keep (rows_of ts es) ≡ rows_of (tables.kept keep ts) (without_each n.key (tables.emptied keep ts) es)
    kept-emptied keep [] es same distinct = refl
    kept-emptied keep (t ∷ ts) [] same distinct = cc
    kept-emptied keep (t ∷ ts) (e ∷ es) same distinct =
        at (stays keep t) (kept-emptied keep ts es (tail_keys t ts e es same) (IsDistinct-tail (same_key n) t.0 (keys_of ts) distinct))
      where
        left : Row V S
        left = record { subscribers = filter (λ s. keep t.0 s.0) t.1; phase = phase_of e.1 }

        here : same_key n t.0 e.0 ≡ true
        here = subst (λ k. same_key n t.0 k ≡ true) (head_key t ts e es same) (laws.refl t.0)

        at : (b : Bool) → kept keep (rows_of ts es) ≡ rows_of (tables.kept keep ts) (without_each n.key (tables.emptied keep ts) es)
            → cond b ((t.0, left) ∷ kept keep (rows_of ts es)) (kept keep (rows_of ts es))
            ≡ rows_of (cond b (tables.pruned keep t ∷ tables.kept keep ts) (tables.kept keep ts))
            (without_each n.key (keys_of (cond (not b) (tables.pruned keep t ∷ filter (λ e. not (tables.has_subscribers e)) (map (tables.pruned keep) ts)) (filter (λ e. not (tables.has_subscribers e)) (map (tables.pruned keep) ts)))) (e ∷ es))
        at true rest =
            rw (without_each-apart n.key (tables.emptied keep ts) e es (head-apart keep t ts e.0 (head_key t ts e es same) distinct))
            (ap (λ rs. (t.0, left) ∷ rs) rest)
        at false rest = rest ∙ ap (λ b. rows_of (tables.kept keep ts) (without_each n.key (tables.emptied keep ts) (cond b es (e ∷ remove_entry (is_at (n.key t.0)) es)))) (sym here)

    keys-kept : (keep : K → S → Bool) (ts : List (K × List (S × ℕ))) (es : List (K × Kept V)) → keys_of ts ≡ keys_of es → IsDistinct (same_key n) (keys_of ts)
        → keys_of (tables.kept keep ts) ≡ keys_of (without_each n.key (tables.emptied keep ts) es)
    keys-kept keep [] [] same distinct = refl
    keys-kept keep [] (e ∷ es) same distinct = cc
    keys-kept keep (t ∷ ts) [] same distinct = cc
    keys-kept keep (t ∷ ts) (e ∷ es) same distinct =
        at (stays keep t) (keys-kept keep ts es (tail_keys t ts e es same) (IsDistinct-tail (same_key n) t.0 (keys_of ts) distinct))
      where
        here : same_key n t.0 e.0 ≡ true
        here = subst (λ k. same_key n t.0 k ≡ true) (head_key t ts e es same) (laws.refl t.0)

        at : (b : Bool) → keys_of (tables.kept keep ts) ≡ keys_of (without_each n.key (tables.emptied keep ts) es)
            → keys_of (cond b (tables.pruned keep t ∷ tables.kept keep ts) (tables.kept keep ts))
            ≡ keys_of (without_each n.key (keys_of (cond (not b) (tables.pruned keep t ∷ filter (λ e. not (tables.has_subscribers e)) (map (tables.pruned keep) ts)) (filter (λ e. not (tables.has_subscribers e)) (map (tables.pruned keep) ts)))) (e ∷ es))
        at true rest =
            rw (without_each-apart n.key (tables.emptied keep ts) e es (head-apart keep t ts e.0 (head_key t ts e es same) distinct))
            (ap (λ k. k ∷ keys_of (tables.kept keep ts)) (head_key t ts e es same) ∙ ap (λ ks. e.0 ∷ ks) rest)
        at false rest = rest ∙ ap (λ b. keys_of (without_each n.key (tables.emptied keep ts) (cond b es (e ∷ remove_entry (is_at (n.key t.0)) es)))) (sym here)

    pub agree-kept : (keep : K → S → Bool) (ts : List (K × List (S × ℕ))) (es : List (K × Kept V)) → Agree n.key ts es
        → Agree n.key (tables.kept keep ts) (without_each n.key (tables.emptied keep ts) es)
    agree-kept keep ts es a = record {
      same = keys-kept keep ts es a.same a.distinct;
      distinct = distinct-kept keep ts a.distinct;
      cached = cached-without_each n.key (tables.emptied keep ts) es a.cached;
    }

    pub agree-inserted : (ts : List (K × List (S × ℕ))) (es : List (K × Kept V)) (k : K) (x : List (S × ℕ)) (y : Kept V) → Agree n.key ts es
        → lookup (same_key n k) ts ≡ None → has_cached y.number y.response → Agree n.key (insert_entry n.key ts k x) (insert_entry n.key es k y)
    agree-inserted ts es k x y a none has = record {
      same = keys-inserted n.key ts es k x y a.same;
      distinct = Distinct-inserted n laws k ts x none a.distinct;
      cached = cached-inserted n.key es k y a.cached has;
    }

    pub agree-removed : (test : K → Bool) (ts : List (K × List (S × ℕ))) (es : List (K × Kept V)) → Agree n.key ts es
        → Agree n.key (remove_entry test ts) (remove_entry test es)
    agree-removed test ts es a = record {
      same = keys-removed test ts es a.same;
      distinct = Distinct-removed n laws test ts a.distinct;
      cached = cached-removed test es a.cached;
    }

module _ {K V S : Type 0} (cmp : K → K → Ordering) where
  pub agree-demand : (ts us : List (K × List (S × ℕ))) (es : List (K × Kept V)) → Agree cmp ts es → keys_of us ≡ keys_of ts → Agree cmp us es
  agree-demand ts us es a keys = record {
    same = keys ∙ a.same;
    distinct = subst (IsDistinct (λ k l. is_eq (cmp k l))) (sym keys) a.distinct;
    cached = a.cached;
  }

  pub agree-keys : (ts : List (K × List (S × ℕ))) (es fs : List (K × Kept V)) → Agree cmp ts es → keys_of fs ≡ keys_of es → AreCached fs → Agree cmp ts fs
  agree-keys ts es fs a keys cached = record { same = a.same ∙ sym keys; distinct = a.distinct; cached = cached }

distinct-none : {K : Type 0} (eq : K → K → Bool) → IsDistinct eq []
unfolding IsDistinct
distinct-none eq = tt

pub agree-none : {K V S : Type 0} (cmp : K → K → Ordering) → Agree {K = K} {V = V} {S = S} cmp [] []
agree-none cmp = record { same = refl; distinct = distinct-none _; cached = tt }

pub distinct-rows : {K V S : Type 0} (cmp : K → K → Ordering) (ts : List (K × List (S × ℕ))) (es : List (K × Kept V)) → Agree cmp ts es → IsDistinct (λ k l. is_eq (cmp k l)) (keys_of (rows_of ts es))
distinct-rows cmp ts es a = subst (IsDistinct (λ k l. is_eq (cmp k l))) (sym (keys-rows ts es a.same)) a.distinct

keys-listed : {K V S : Type 0} (rs : List (K × Row V S)) → map (λ row. row.key) (map listed rs) ≡ keys_of rs
keys-listed [] = refl
keys-listed (r ∷ rs) = ap (λ ks. r.0 ∷ ks) (keys-listed rs)

-- the keys that are listed are the tracker's, in their order
pub listed-ordered : {K V S : Type 0} (cmp : K → K → Ordering) (ts : List (K × List (S × ℕ))) (es : List (K × Kept V)) → Agree cmp ts es
    → (result : Result (Vec (ListedRow K S) Global) Fault) → OnOk result (IsStrictlySortedBy cmp (keys_of ts)) → IfOk result (λ list. list.items ≡ map listed (rows_of ts es))
    → IfOk result (λ list. IsStrictlySortedBy cmp (map (λ row. row.key) list.items))
listed-ordered cmp ts es a (Ok list) ordered is = subst (IsStrictlySortedBy cmp) (sym (ap (map (λ row. row.key)) is ∙ (keys-listed (rows_of ts es) ∙ keys-rows ts es a.same))) ordered
listed-ordered cmp ts es a (Err fault) ordered is = tt

pub listed-distinct : {K V S : Type 0} (cmp : K → K → Ordering) (ts : List (K × List (S × ℕ))) (es : List (K × Kept V)) → Agree cmp ts es
    → (result : Result (Vec (ListedRow K S) Global) Fault) → IfOk result (λ list. list.items ≡ map listed (rows_of ts es))
    → IfOk result (λ list. IsDistinct (λ k l. is_eq (cmp k l)) (map (λ row. row.key) list.items))
listed-distinct cmp ts es a (Ok list) is = subst (IsDistinct (λ k l. is_eq (cmp k l))) (sym (ap (map (λ row. row.key)) is ∙ keys-listed (rows_of ts es))) (distinct-rows cmp ts es a)
listed-distinct cmp ts es a (Err fault) is = tt
