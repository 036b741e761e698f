-- The first of the retries is the waiting key that is due first.
use Rattle.std.proofs.Common.{◌≡◌, refl, ap, sym, ◌∙◌, subst, ℕ, ◌≤◌, ◌<◌, Bool, true, false, cond, List, [], ◌∷◌, Option, None, Some, filter, nat_le, arith, ◌^◌}
use Rattle.std.proofs.lemmas.Bool.Decides.{nat_tests}
use Rattle.std.proofs.lemmas.Map.Keys.{sorted_head, sorted_tail, IsDistinct-from_sorted}
use Rattle.std.proofs.lemmas.Cmp.{nat_cmp_total, tied_itself}
use Rattle.std.specs.Cmp.{IsEquivalence, IsTotalOrder}
use Rattle.std.specs.List.{AllByRecursion}
use Rattle.std.specs.List.Sorted.{IsStrictlySortedBy}
use Rattle.std.specs.Map.{keys_of}
use Rattle.std.specs.Ordering.{is_eq, is_lt, nat_cmp, ordering_reverse, ordering_then}
use Rattle.std.specs.declared.cmp.Ordering.{Ordering}
use Rattle.std.specs.declared.cmp.Ordering.TheVariants.{Less}
use Rattle.resolver_priority_set.specs.Priorities.{is_of, pair_order}
use Rattle.resolver_priority_set.proofs.Priorities.{pair_order-total}
use Rattle.resolver_delivery.specs.declared.entry.Response.{Response}
use Rattle.resolver_model_opaque.specs.declared.phase.Stage.{Stage}
use Rattle.resolver_model_opaque.specs.declared.phase.Stage.TheVariants as stages
use Rattle.resolver_model_opaque.specs.OpaquePhases.{Phase, Waiting, Asked, Judged, least, least_due}
use Rattle.resolver_model_opaque.specs.OpaqueByPhase.{phase_in, phase_of, first_due}
use Rattle.resolver_model_opaque.specs.OpaqueOverdue.{Overdue, with_due, due_of, by_due, first_key, placed}
use Rattle.resolver_model_opaque.specs.OpaqueStages.{Kept, kept_at, retry_at, retry_of, RestsAt, Rests, AreDue}
use Rattle.resolver_model_opaque.proofs.Led.{AreFound, each_kept}

not-before : (d due : ℕ) (r : Ordering) → is_lt (ordering_then (nat_cmp d due) r) ≡ false → due ≤ d
not-before d due r is = grind (arith, nat_tests)

strictly-after : (d due : ℕ) (r : Ordering) → is_lt (ordering_then (nat_cmp d due) r) ≡ false → r ≡ Less → nat_le d due ≡ false
strictly-after d due r is less = grind (arith, nat_tests, is, less)

le-is : (m n : ℕ) → m ≤ n → nat_le m n ≡ true
le-is m n le = grind (arith, nat_tests)

le-not : (m n : ℕ) → n < m → nat_le m n ≡ false
le-not m n lt = grind (arith, nat_tests)

module _ {K : Type 0} {cmp : K → K → Ordering} (o : IsTotalOrder cmp) where
  abbrev order : ℕ × K → ℕ × K → Ordering
  order = pair_order nat_cmp cmp

  -- no pair of these is before this one
  abbrev pub NoneBefore : ℕ × K → List (ℕ × K) → Type 0
  NoneBefore p [] = Unit {0}
  NoneBefore p (q ∷ qs) = (is_lt (order q p) ≡ false) × NoneBefore p qs

  all-after : (p : ℕ × K) (qs : List (ℕ × K)) → AllByRecursion (λ q. order p q ≡ Less) qs → NoneBefore p qs
  all-after p [] all = tt
  all-after p (q ∷ qs) all = (ap is_lt ((pair_order-total o nat_cmp_total).antisymm q p) ∙ ap (λ r. is_lt (ordering_reverse r)) all.0, all-after p qs all.1)

  pub first-before : (p : ℕ × K) (qs : List (ℕ × K)) → IsStrictlySortedBy order (p ∷ qs) → NoneBefore p (p ∷ qs)
  first-before p qs sorted = (ap is_lt (tied_itself (pair_order-total o nat_cmp_total) p), all-after p qs (sorted_head order p qs sorted))

  none-before : (p : ℕ × K) (ds : List (ℕ × K)) → NoneBefore p ds → (k : K) (r : ℕ × K) → filter (is_of cmp k) ds ≡ r ∷ [] → is_lt (order r p) ≡ false
  none-before p [] all k r is = cc
  none-before p (d ∷ ds) all k r is = at (is_of cmp k d) is (none-before p ds all.1 k r)
    where
      at : (b : Bool) → cond b (d ∷ filter (is_of cmp k) ds) (filter (is_of cmp k) ds) ≡ r ∷ [] → (filter (is_of cmp k) ds ≡ r ∷ [] → is_lt (order r p) ≡ false) → is_lt (order r p) ≡ false
      at true is rest = let same : d ≡ r = cc in subst (λ r. is_lt (order r p) ≡ false) same all.0
      at false is rest = rest is

waiting-due : {V : Type 0} (d due : ℕ) → ◌≡◌ {A = Phase V} (Waiting d) (Waiting due) → d ≡ due
waiting-due d due is = cc

none-cons : {X : Type 0} (x : X) (xs : List X) → [] ≡ x ∷ xs → ⊥
none-cons x xs is = cc

module _ {K : Type 0} where
  abbrev AllFrom : ℕ → List (Overdue K) → Type 0
  AllFrom n [] = Unit {0}
  AllFrom n (x ∷ xs) = (n ≤ x.due) × AllFrom n xs

  from-placed : (n : ℕ) (x : Overdue K) (xs : List (Overdue K)) → n ≤ x.due → AllFrom n xs → AllFrom n (placed x xs)
  from-placed n x [] le all = (le, tt)
  from-placed n x (y ∷ ys) le all = at (nat_le x.due y.due) (from-placed n x ys le all.1)
    where
      at : (b : Bool) → AllFrom n (placed x ys) → AllFrom n (cond b (x ∷ y ∷ ys) (y ∷ placed x ys))
      at true rest = (le, all)
      at false rest = (all.0, rest)

  placed-front : (x : Overdue K) (xs : List (Overdue K)) → AllFrom x.due xs → placed x xs ≡ x ∷ xs
  placed-front x [] all = refl
  placed-front x (y ∷ ys) all = rw (le-is x.due y.due all.0) refl

-- a key that waits stands so
stage-waits : {V : Type 0} (due : ℕ) (stage : Stage) (number : Option ℕ) (response : Option (Response V (Unit {0}))) → phase_in stage number response ≡ Waiting due → stage ≡ stages.Waiting due
stage-waits due (stages.Waiting d) None response is = ap (λ (n : ℕ). stages.Waiting n) (waiting-due d due is)
stage-waits due (stages.Waiting d) (Some number) None is = ap (λ (n : ℕ). stages.Waiting n) (waiting-due d due is)
stage-waits due (stages.Waiting d) (Some number) (Some r) is = cc
stage-waits due (stages.Asked a) None response is = cc
stage-waits due (stages.Asked a) (Some number) None is = cc
stage-waits due (stages.Asked a) (Some number) (Some r) is = cc

module _ {K V : Type 0} {cmp : K → K → Ordering} (o : IsTotalOrder cmp) (laws : IsEquivalence (λ k l. is_eq (cmp k l))) where
  -- no waiting key of these is due before this pair
  abbrev NoneDueBefore : ℕ × K → List (K × Kept V) → Type 0
  NoneDueBefore p [] = Unit {0}
  NoneDueBefore p (f ∷ fs) = ((due : ℕ) → phase_of f.1 ≡ Waiting due → is_lt (pair_order nat_cmp cmp (due, f.0) p) ≡ false) × NoneDueBefore p fs

  module _ (retries : List (ℕ × K)) (es : List (K × Kept V)) (d : AreDue cmp retries es) where
    waits-among : (f : K × Kept V) → kept_at cmp es f.0 ≡ Some f → (due : ℕ) → phase_of f.1 ≡ Waiting due → filter (is_of cmp f.0) retries ≡ (due, f.0) ∷ []
    waits-among f kept due waits = d.due f.0 ∙ (ap retry_of kept ∙ ap (retry_at f.0) (stage-waits due f.1.state f.1.number f.1.response waits))

    none-due-before : (p : ℕ × K) → NoneBefore o p retries → (fs : List (K × Kept V)) → AreFound o laws es fs → NoneDueBefore p fs
    none-due-before p none [] found = tt
    none-due-before p none (f ∷ fs) found = (λ due waits. none-before o p retries none f.0 (due, f.0) (waits-among f found.0 due waits), none-due-before p none fs found.1)

    -- the key of a first pair
    pub record IsFirst (p : ℕ × K) : Type 0 where
      pub entry : Kept V
      pub kept : kept_at cmp es p.1 ≡ Some (p.1, entry)
      pub waits : phase_of entry ≡ Waiting p.0
      pub soon : p.0 < 2 ^ 95

    is-first : (p : ℕ × K) (ps : List (ℕ × K)) → retries ≡ p ∷ ps → IsFirst p
    is-first p ps is = at (kept_at cmp es p.1) refl (ap (λ b. cond b (p ∷ filter (is_of cmp p.1) ps) (filter (is_of cmp p.1) ps)) (sym (laws.refl p.1)) ∙ (ap (filter (is_of cmp p.1)) (sym is) ∙ d.due p.1)) (d.rests p.1)
      where
        staged : (f : K × Kept V) → kept_at cmp es p.1 ≡ Some f → (stage : Stage) → f.1.state ≡ stage → p ∷ filter (is_of cmp p.1) ps ≡ retry_at f.0 stage → RestsAt stage f.1.number f.1.response → IsFirst p
        staged f kept (stages.Asked a) state pairs rests = cc
        staged f kept (stages.Waiting due) state pairs rests =
            let same : p ≡ (due, f.0) = first-is p (due, f.0) (filter (is_of cmp p.1) ps) pairs in
            record {
              entry = f.1;
              kept = kept ∙ ap (λ k. Some (k, f.1)) (sym (ap (λ (q : ℕ × K). q.1) same));
              waits = ap (λ n. phase_in f.1.state n f.1.response) rests.idle ∙ (ap (λ s. phase_in s None f.1.response) state ∙ ap (λ (n : ℕ). Waiting n) (sym (ap (λ (q : ℕ × K). q.0) same)));
              soon = subst (λ n. n < 2 ^ 95) (sym (ap (λ (q : ℕ × K). q.0) same)) rests.soon;
            }
          where
            first-is : (p q : ℕ × K) (ps : List (ℕ × K)) → p ∷ ps ≡ q ∷ [] → p ≡ q
            first-is p q ps is = cc

        at : (x : Option (K × Kept V)) → kept_at cmp es p.1 ≡ x → p ∷ filter (is_of cmp p.1) ps ≡ retry_of (kept_at cmp es p.1) → Rests (kept_at cmp es p.1) → IsFirst p
        at None kept pairs rests = let clash : p ∷ filter (is_of cmp p.1) ps ≡ [] = pairs ∙ ap retry_of kept in cc
        at (Some f) kept pairs rests = staged f kept f.1.state refl (pairs ∙ ap retry_of kept) (subst Rests kept rests)

    none-waits : retries ≡ [] → (now : ℕ) (fs : List (K × Kept V)) → AreFound o laws es fs → (due_of now fs ≡ []) × (first_due fs ≡ None)
    none-waits is now [] found = (refl, refl)
    none-waits is now (f ∷ fs) found = at (phase_of f.1) refl (none-waits is now fs found.1)
      where
        clash : (due : ℕ) → phase_of f.1 ≡ Waiting due → ⊥
        clash due waits = none-cons (due, f.0) [] (ap (filter (is_of cmp f.0)) (sym is) ∙ waits-among f found.0 due waits)

        at : (phase : Phase V) → phase_of f.1 ≡ phase → (due_of now fs ≡ []) × (first_due fs ≡ None) → (with_due now f.0 phase (due_of now fs) ≡ []) × (least_due phase (first_due fs) ≡ None)
        at (Waiting due) is rest = absurd (clash due is)
        at (Asked a) is rest = rest
        at (Judged j) is rest = rest

  -- nothing is due before the first is
  none-yet : (now : ℕ) (p : ℕ × K) → now < p.0 → (fs : List (K × Kept V)) → NoneDueBefore p fs → due_of now fs ≡ []
  none-yet now p later [] none = refl
  none-yet now p later (f ∷ fs) none = at (phase_of f.1) refl (none-yet now p later fs none.1)
    where
      at : (phase : Phase V) → phase_of f.1 ≡ phase → due_of now fs ≡ [] → with_due now f.0 phase (due_of now fs) ≡ []
      at (Waiting due) is rest =
          let after : p.0 ≤ due = not-before due p.0 (cmp f.0 p.1) (none.0 due is) in
          rw (le-not due now (omega (arith, after, later)), rest) refl
      at (Asked a) is rest = rest
      at (Judged j) is rest = rest

  due-from : (now : ℕ) (p : ℕ × K) (fs : List (K × Kept V)) → NoneDueBefore p fs → AllFrom p.0 (by_due (due_of now fs))
  due-from now p [] none = tt
  due-from now p (f ∷ fs) none = at (phase_of f.1) refl (due-from now p fs none.1)
    where
      if-due : (due : ℕ) → phase_of f.1 ≡ Waiting due → AllFrom p.0 (by_due (due_of now fs)) → (b : Bool) → AllFrom p.0 (by_due (cond b (record { due = due; key = f.0 } ∷ due_of now fs) (due_of now fs)))
      if-due due is rest true = from-placed p.0 (record { due = due; key = f.0 }) (by_due (due_of now fs)) (not-before due p.0 (cmp f.0 p.1) (none.0 due is)) rest
      if-due due is rest false = rest

      at : (phase : Phase V) → phase_of f.1 ≡ phase → AllFrom p.0 (by_due (due_of now fs)) → AllFrom p.0 (by_due (with_due now f.0 phase (due_of now fs)))
      at (Waiting due) is rest = if-due due is rest (nat_le due now)
      at (Asked a) is rest = rest
      at (Judged j) is rest = rest

  -- a key that is found stands behind a smaller one
  behind : (k l : K) (e : K × Kept V) (fs : List (K × Kept V)) → AllByRecursion (λ y. cmp k y ≡ Less) (keys_of fs) → kept_at cmp fs l ≡ Some e → cmp k e.0 ≡ Less
  behind k l e [] all kept = cc
  behind k l e (f ∷ fs) all kept = at (is_eq (cmp l f.0)) kept (behind k l e fs all.1)
    where
      at : (b : Bool) → cond b (Some f) (kept_at cmp fs l) ≡ Some e → (kept_at cmp fs l ≡ Some e → cmp k e.0 ≡ Less) → cmp k e.0 ≡ Less
      at true kept rest = let same : f ≡ e = cc in subst (λ (e : K × Kept V). cmp k e.0 ≡ Less) same all.0
      at false kept rest = rest kept

  module _ (now : ℕ) (p : ℕ × K) (e : Kept V) (waits : phase_of e ≡ Waiting p.0) where
    abbrev first : Overdue K
    first = record { due = p.0; key = p.1 }

    -- the first pair is first of those that are due
    head-due : p.0 ≤ now → (fs : List (K × Kept V)) → IsStrictlySortedBy cmp (keys_of fs) → NoneDueBefore p fs → kept_at cmp fs p.1 ≡ Some (p.1, e)
        → (rest : List (Overdue K)) × (by_due (due_of now fs) ≡ first ∷ rest)
    head-due over [] sorted none kept = cc
    head-due over (f ∷ fs) sorted none kept = at (is_eq (cmp p.1 f.0)) kept (head-due over fs (sorted_tail cmp f.0 (keys_of fs) sorted) none.1)
      where
        here : f ≡ (p.1, e) → (rest : List (Overdue K)) × (by_due (due_of now (f ∷ fs)) ≡ first ∷ rest)
        here same = (
          by_due (due_of now fs),
          ap (λ (g : K × Kept V). by_due (with_due now g.0 (phase_of g.1) (due_of now fs))) same
              ∙ ap (λ phase. by_due (with_due now p.1 phase (due_of now fs))) waits
              ∙ ap (λ b. by_due (cond b (first ∷ due_of now fs) (due_of now fs))) (le-is p.0 now over)
              ∙ placed-front first (by_due (due_of now fs)) (due-from now p fs none.1),
        )

        later : (rest : List (Overdue K)) → by_due (due_of now fs) ≡ first ∷ rest → cmp f.0 p.1 ≡ Less → (rest : List (Overdue K)) × (by_due (due_of now (f ∷ fs)) ≡ first ∷ rest)
        later rest is less = in-phase (phase_of f.1) refl
          where
            if-due : (due : ℕ) → phase_of f.1 ≡ Waiting due → (b : Bool) → (rest : List (Overdue K)) × (by_due (cond b (record { due = due; key = f.0 } ∷ due_of now fs) (due_of now fs)) ≡ first ∷ rest)
            if-due due phase true = (
              placed (record { due = due; key = f.0 }) rest,
              ap (placed (record { due = due; key = f.0 })) is
                  ∙ ap (λ b. cond b (record { due = due; key = f.0 } ∷ first ∷ rest) (first ∷ placed (record { due = due; key = f.0 }) rest)) (strictly-after due p.0 (cmp f.0 p.1) (none.0 due phase) less),
            )
            if-due due phase false = (rest, is)

            in-phase : (phase : Phase V) → phase_of f.1 ≡ phase → (rest : List (Overdue K)) × (by_due (with_due now f.0 phase (due_of now fs)) ≡ first ∷ rest)
            in-phase (Waiting due) phase = if-due due phase (nat_le due now)
            in-phase (Asked a) phase = (rest, is)
            in-phase (Judged j) phase = (rest, is)

        at : (b : Bool) → cond b (Some f) (kept_at cmp fs p.1) ≡ Some (p.1, e) → (kept_at cmp fs p.1 ≡ Some (p.1, e) → (rest : List (Overdue K)) × (by_due (due_of now fs) ≡ first ∷ rest))
            → (rest : List (Overdue K)) × (by_due (due_of now (f ∷ fs)) ≡ first ∷ rest)
        at true kept rest = here (some-pair f (p.1, e) kept)
          where
            some-pair : (f g : K × Kept V) → Some f ≡ Some g → f ≡ g
            some-pair f g is = cc
        at false kept rest = later (rest kept).0 (rest kept).1 (behind f.0 p.1 (p.1, e) fs (sorted_head cmp f.0 (keys_of fs) sorted) kept)

    abbrev AtLeast : Option ℕ → Type 0
    AtLeast None = Unit {0}
    AtLeast (Some due) = p.0 ≤ due

    least-from : (fs : List (K × Kept V)) → NoneDueBefore p fs → AtLeast (first_due fs)
    least-from [] none = tt
    least-from (f ∷ fs) none = at (phase_of f.1) refl (first_due fs) (least-from fs none.1)
      where
        at : (phase : Phase V) → phase_of f.1 ≡ phase → (x : Option ℕ) → AtLeast x → AtLeast (least_due phase x)
        at (Waiting due) is None from = not-before due p.0 (cmp f.0 p.1) (none.0 due is)
        at (Waiting due) is (Some other) from = let after = not-before due p.0 (cmp f.0 p.1) (none.0 due is) in omega (arith, after, from)
        at (Asked a) is x from = from
        at (Judged j) is x from = from

    least-first : (x : Option ℕ) → AtLeast x → least p.0 x ≡ Some p.0
    least-first None from = refl
    least-first (Some other) from = ap Some (omega (arith, from))

    -- the first pair's due is the least
    least-due-is : (fs : List (K × Kept V)) → NoneDueBefore p fs → kept_at cmp fs p.1 ≡ Some (p.1, e) → first_due fs ≡ Some p.0
    least-due-is [] none kept = cc
    least-due-is (f ∷ fs) none kept = at (is_eq (cmp p.1 f.0)) kept (least-due-is fs none.1)
      where
        in-phase : (phase : Phase V) → phase_of f.1 ≡ phase → first_due fs ≡ Some p.0 → least_due phase (first_due fs) ≡ Some p.0
        in-phase (Waiting due) is rest = let after = not-before due p.0 (cmp f.0 p.1) (none.0 due is) in ap (least due) rest ∙ ap Some (omega (arith, after))
        in-phase (Asked a) is rest = rest
        in-phase (Judged j) is rest = rest

        at : (b : Bool) → cond b (Some f) (kept_at cmp fs p.1) ≡ Some (p.1, e) → (kept_at cmp fs p.1 ≡ Some (p.1, e) → first_due fs ≡ Some p.0) → first_due (f ∷ fs) ≡ Some p.0
        at true kept rest = ap (λ (g : K × Kept V). least_due (phase_of g.1) (first_due fs)) (some-pair f (p.1, e) kept) ∙ (ap (λ phase. least_due phase (first_due fs)) waits ∙ least-first (first_due fs) (least-from fs none.1))
          where
            some-pair : (f g : K × Kept V) → Some f ≡ Some g → f ≡ g
            some-pair f g is = cc
        at false kept rest = in-phase (phase_of f.1) refl (rest kept)

  module _ (retries : List (ℕ × K)) (es : List (K × Kept V)) (ordered : IsStrictlySortedBy cmp (keys_of es)) (d : AreDue cmp retries es) where
    found : AreFound o laws es es
    found = each_kept o laws es (IsDistinct-from_sorted cmp (keys_of es) ordered)

    pub due-of-none : retries ≡ [] → (now : ℕ) → None ≡ first_key (by_due (due_of now es))
    due-of-none is now = ap (λ os. first_key (by_due os)) (sym (none-waits retries es d is now es found).0)

    pub first-of-none : retries ≡ [] → None ≡ first_due es
    first-of-none is = sym (none-waits retries es d is 0 es found).1

    module _ (p : ℕ × K) (ps : List (ℕ × K)) (is : retries ≡ p ∷ ps) (sorted : IsStrictlySortedBy (pair_order nat_cmp cmp) (p ∷ ps)) where
      none : NoneDueBefore p es
      none = none-due-before retries es d p (subst (NoneBefore o p) (sym is) (first-before o p ps sorted)) es found

      pub first-is-least : Some p.0 ≡ first_due es
      first-is-least = let f = is-first retries es d p ps is in sym (least-due-is 0 p f.entry f.waits es none f.kept)

      pub first-is-soon : p.0 < 2 ^ 95
      first-is-soon = (is-first retries es d p ps is).soon

      pub first-is-due : (now : ℕ) → p.0 ≤ now → Some p.1 ≡ first_key (by_due (due_of now es))
      first-is-due now over = let f = is-first retries es d p ps is in ap first_key (sym (head-due now p f.entry f.waits over es ordered none f.kept).1)

      pub first-is-later : (now : ℕ) → now < p.0 → None ≡ first_key (by_due (due_of now es))
      first-is-later now later = ap (λ os. first_key (by_due os)) (sym (none-yet now p later es none))
