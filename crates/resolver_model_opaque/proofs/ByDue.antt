-- The waiting keys that are due are asked for again one after another, from the first on.
use Rattle.std.proofs.Common.{◌≡◌, ℕ, suc, Bool, true, false, cond, List, [], ◌∷◌, length, find, map, nat_le, ◌==◌, ◌<◌, arith, refl, sym, ap, ◌∙◌, subst, ◌+◌, ◌^◌, Option, None, Some}
use Rattle.std.proofs.lemmas.Bool.Decides.{nat_tests}
use Rattle.std.proofs.lemmas.Map.Keys.{IsDistinct-head, IsDistinct-tail}
use Rattle.std.specs.Map.{lookup, set_value, keys_of}
use Rattle.std.specs.List.{AllByRecursion, IsDistinct}
use Rattle.std.specs.Cmp.{IsEquivalence}
use Rattle.resolver_types.specs.Names.{Names, same_key}
use Rattle.resolver_model_opaque.specs.Opaque.{Machine, Row, Done, and_then, row_of, start_again, start_all, placed, placed_if_due, waiting_by_due, next_retry}
use Rattle.resolver_model_opaque.specs.OpaquePhases.{Phase, Waiting, Asked, Judged, least_due}
use Rattle.resolver_model_opaque.specs.OpaqueStages.{Kept}
use Rattle.resolver_model_opaque.specs.OpaqueByPhase.{phase_of, first_due}
use Rattle.resolver_model_opaque.specs.OpaqueTables.{rows_of, row_of as code_row_of}
use Rattle.resolver_model_opaque.specs.OpaqueFound.{IsIdle, IsIdlePhase}
use Rattle.resolver_model_opaque.proofs.Joined.{head_key, tail_keys}
use Rattle.resolver_model.specs.Lawful.{Each}
use Rattle.resolver_model.proofs.Rows.{each_found}
use Rattle.std.specs.Prelude.{option_and_then, unwrap_or, ◌++◌, IfSome, nat_lt}
use Rattle.std.proofs.Common.{append_assoc}
use Rattle.resolver_model_opaque.specs.declared.effects.Effect.{Effect}
use Rattle.resolver_model_opaque.specs.declared.effects.Effect.TheVariants.{Start}
use Rattle.resolver_model_opaque.specs.OpaqueSteps.{onto, Goes}
use Rattle.std.specs.Prelude.{Err}
use Rattle.resolver_base.specs.declared.fault.Fault.{Fault}
use Rattle.resolver_base.specs.declared.fault.Fault.TheVariants as faults
use Rattle.resolver_model_opaque.specs.OpaqueTables.{Agree}
use Rattle.resolver_model_opaque.proofs.Agrees.{distinct-rows}
use Rattle.resolver_model_opaque.specs.OpaqueOverdue.{Overdue, with_due, due_of, by_due, first_key, placed as placed_by}

not-empty : (m : ℕ) → (suc m == 0) ≡ false
not-empty m = grind (arith, nat_tests)

module _ {K V S : Type 0} where
  abbrev pub overdue_of : ℕ × (K × Row V S) → Overdue K
  overdue_of q = record { due = q.0; key = q.1.0 }

  placed-by : (due : ℕ) (r : K × Row V S) (qs : List (ℕ × (K × Row V S))) → map overdue_of (placed due r qs) ≡ placed_by (overdue_of (due, r)) (map overdue_of qs)
  placed-by due r [] = refl
  placed-by due r (q ∷ qs) = at (placed-by due r qs) (nat_le due q.0)
    where
      at : map overdue_of (placed due r qs) ≡ placed_by (overdue_of (due, r)) (map overdue_of qs) → (b : Bool)
          → map overdue_of (cond b ((due, r) ∷ q ∷ qs) (q ∷ placed due r qs)) ≡ cond b (overdue_of (due, r) ∷ overdue_of q ∷ map overdue_of qs) (overdue_of q ∷ placed_by (overdue_of (due, r)) (map overdue_of qs))
      at rest true = refl
      at rest false = ap (λ l. overdue_of q ∷ l) rest

  -- the waiting keys by due are those of the entries in key order, put in order
  pub waiting-by_due : (now : ℕ) (ts : List (K × List (S × ℕ))) (es : List (K × Kept V)) → keys_of ts ≡ keys_of es
      → map overdue_of (waiting_by_due now (rows_of ts es)) ≡ by_due (due_of now es)
  waiting-by_due now [] [] same = refl
  waiting-by_due now [] (e ∷ es) same = cc
  waiting-by_due now (t ∷ ts) [] same = cc
  waiting-by_due now (t ∷ ts) (e ∷ es) same =
      at (phase_of e.1) (waiting-by_due now ts es (tail_keys t ts e es same))
      ∙ ap (λ k. by_due (with_due now k (phase_of e.1) (due_of now es))) (head_key t ts e es same)
    where
      r : K × Row V S
      r = (t.0, code_row_of (t.1, e.1))

      placed_at : (due : ℕ) → map overdue_of (waiting_by_due now (rows_of {S = S} ts es)) ≡ by_due (due_of now es) → (b : Bool)
          → map overdue_of (cond b (placed due r (waiting_by_due now (rows_of ts es))) (waiting_by_due now (rows_of ts es))) ≡ by_due (cond b (record { due = due; key = t.0 } ∷ due_of now es) (due_of now es))
      placed_at due rest true = placed-by due r (waiting_by_due now (rows_of ts es)) ∙ ap (placed_by (record { due = due; key = t.0 })) rest
      placed_at due rest false = rest

      at : (phase : Phase V) → map overdue_of (waiting_by_due now (rows_of {S = S} ts es)) ≡ by_due (due_of now es)
          → map overdue_of (placed_if_due now phase r (waiting_by_due now (rows_of ts es))) ≡ by_due (with_due now t.0 phase (due_of now es))
      at (Waiting due) rest = placed_at due rest (nat_le due now)
      at (Asked attempt) rest = rest
      at (Judged j) rest = rest

  -- the least due
  pub next_retry-first : (ts : List (K × List (S × ℕ))) (es : List (K × Kept V)) → keys_of ts ≡ keys_of es → next_retry (rows_of ts es) ≡ first_due es
  next_retry-first [] [] same = refl
  next_retry-first [] (e ∷ es) same = cc
  next_retry-first (t ∷ ts) [] same = cc
  next_retry-first (t ∷ ts) (e ∷ es) same = ap (least_due (phase_of e.1)) (next_retry-first ts es (tail_keys t ts e es same))

  -- what holds of each row holds of each that is due
  Each-placed : (P : K × Row V S → Type 0) (due : ℕ) (r : K × Row V S) (qs : List (ℕ × (K × Row V S))) → P r → Each (λ q. P q.1) qs → Each (λ q. P q.1) (placed due r qs)
  Each-placed P due r [] p ps = (p, tt)
  Each-placed P due r (q ∷ qs) p ps = at (nat_le due q.0) (Each-placed P due r qs p ps.1)
    where
      at : (b : Bool) → Each (λ q. P q.1) (placed due r qs) → Each (λ q. P q.1) (cond b ((due, r) ∷ q ∷ qs) (q ∷ placed due r qs))
      at true rest = (p, ps)
      at false rest = (ps.0, rest)

  Each-waiting : (P : K × Row V S → Type 0) (now : ℕ) (rs : List (K × Row V S)) → Each P rs → Each (λ q. P q.1 × IsIdlePhase q.1.1.phase) (waiting_by_due now rs)
  Each-waiting P now [] ps = tt
  Each-waiting P now (r ∷ rs) ps = at r.1.phase refl (Each-waiting P now rs ps.1)
    where
      idle : (due : ℕ) → r.1.phase ≡ Waiting due → IsIdlePhase r.1.phase
      idle due is = rw is tt

      placed_at : (due : ℕ) → r.1.phase ≡ Waiting due → Each (λ q. P q.1 × IsIdlePhase q.1.1.phase) (waiting_by_due now rs) → (b : Bool)
          → Each (λ q. P q.1 × IsIdlePhase q.1.1.phase) (cond b (placed due r (waiting_by_due now rs)) (waiting_by_due now rs))
      placed_at due is rest true = Each-placed (λ r. P r × IsIdlePhase r.1.phase) due r (waiting_by_due now rs) (ps.0, idle due is) rest
      placed_at due is rest false = rest

      at : (phase : Phase V) → r.1.phase ≡ phase → Each (λ q. P q.1 × IsIdlePhase q.1.1.phase) (waiting_by_due now rs) → Each (λ q. P q.1 × IsIdlePhase q.1.1.phase) (placed_if_due now phase r (waiting_by_due now rs))
      at (Waiting due) is rest = placed_at due is rest (nat_le due now)
      at (Asked attempt) is rest = rest
      at (Judged j) is rest = rest

module _ {K V S : Type 0} where
  -- a part of a step, and what comes after it
  pub onto-and_then : (going : Option (Done K V S)) (next : Machine K V S → Option (Done K V S)) (before after : List (Effect K V S)) (m : Machine K V S)
      → onto before going ≡ Some (record { machine = m; effects = after }) → onto before (and_then going next) ≡ onto after (next m)
  onto-and_then None next before after m is = cc
  onto-and_then (Some d) next before after m is =
      let both = ap (λ o. unwrap_or o (record { machine = m; effects = after })) is in
      let machine : d.machine ≡ m = ap (λ e. e.machine) both in
      let effects : before ++ d.effects ≡ after = ap (λ e. e.effects) both in
      at (next d.machine) ∙ (ap (λ effects. onto effects (next d.machine)) effects ∙ ap (λ m. onto after (next m)) machine)
    where
      at : (o : Option (Done K V S)) → onto before (option_and_then (λ e. Some (record { machine = e.machine; effects = d.effects ++ e.effects })) o) ≡ onto (before ++ d.effects) o
      at None = refl
      at (Some e) = rw append_assoc refl

module _ {K V S : Type 0} (n : Names K S) (laws : IsEquivalence (same_key n)) where
  -- the rows after a key was asked for again
  abbrev restarted : Machine K V S → K → List (S × ℕ) → List (K × Row V S)
  restarted m key subscribers = set_value (same_key n key) m.rows (record { subscribers = subscribers; phase = Asked m.next_attempt })

  abbrev started : Machine K V S → K → List (S × ℕ) → Machine K V S
  started m key subscribers = record m { rows = restarted m key subscribers; next_attempt = m.next_attempt + 1 }

  started-rows : (m next : Machine K V S) (k : K) (xs : List (S × ℕ)) (before after : List (Effect K V S)) → onto before (start_again n m k xs) ≡ Some (record { machine = next; effects = after })
      → next.rows ≡ restarted m k xs
  started-rows m next k xs before after goes = at (nat_lt m.next_attempt (2 ^ 64)) goes
    where
      at : (b : Bool) → onto before (cond b (Some (record { machine = started m k xs; effects = Start m.next_attempt k ∷ [] })) None) ≡ Some (record { machine = next; effects = after }) → next.rows ≡ restarted m k xs
      at true goes = let same = ap (λ o. unwrap_or o (record { machine = next; effects = after })) goes in ap (λ d. d.machine.rows) (sym same)
      at false goes = cc

  each_own : (rs : List (K × Row V S)) → IsDistinct (same_key n) (keys_of rs) → Each (λ r. find (same_key n r.0) (keys_of rs) ≡ Some r.0) rs
  each_own [] distinct = tt
  each_own (r ∷ rs) distinct = (rw (laws.refl r.0) refl, later rs (each_own rs (IsDistinct-tail (same_key n) r.0 (keys_of rs) distinct)) (IsDistinct-head (same_key n) r.0 (keys_of rs) distinct))
    where
      later : (qs : List (K × Row V S)) → Each (λ q. find (same_key n q.0) (keys_of rs) ≡ Some q.0) qs → AllByRecursion (λ k. same_key n r.0 k ≡ false) (keys_of qs)
          → Each (λ q. find (same_key n q.0) (keys_of (r ∷ rs)) ≡ Some q.0) qs
      later [] own apart = tt
      later (q ∷ qs) own apart = (rw (laws.symm q.0 r.0, apart.0) own.0, later qs own.1 apart.1)

  -- once the first of those that are due is asked for, the others are left
  rest-due : (now : ℕ) (xs : List (S × ℕ)) (a : ℕ) (rs : List (K × Row V S)) → IsDistinct (same_key n) (keys_of rs) → (q : ℕ × (K × Row V S)) (qs : List (ℕ × (K × Row V S))) → waiting_by_due now rs ≡ q ∷ qs
      → waiting_by_due now (set_value (same_key n q.1.0) rs (record { subscribers = xs; phase = Asked a })) ≡ qs
  rest-due now xs a [] distinct q qs is = cc
  rest-due now xs a (r ∷ rs) distinct q qs is = at r.1.phase refl (waiting_by_due now rs) refl is (rest-due now xs a rs (IsDistinct-tail (same_key n) r.0 (keys_of rs) distinct))
    where
      apart-rows : (ss : List (K × Row V S)) → AllByRecursion (λ k. same_key n r.0 k ≡ false) (keys_of ss) → Each (λ s. same_key n s.0 r.0 ≡ false) ss
      apart-rows [] apart = tt
      apart-rows (s ∷ ss) apart = (laws.symm s.0 r.0 ∙ apart.0, apart-rows ss apart.1)

      -- another key that is due is apart from the first row
      apart : (p : ℕ × (K × Row V S)) (ps : List (ℕ × (K × Row V S))) → waiting_by_due now rs ≡ p ∷ ps → same_key n p.1.0 r.0 ≡ false
      apart p ps w =
          (subst (Each (λ q. (same_key n q.1.0 r.0 ≡ false) × IsIdlePhase q.1.1.phase)) w
          (Each-waiting (λ s. same_key n s.0 r.0 ≡ false) now rs (apart-rows rs (IsDistinct-head (same_key n) r.0 (keys_of rs) distinct)))).0.0

      -- it is found behind the first row
      behind : (phase : Phase V) → r.1.phase ≡ phase → (p : ℕ × (K × Row V S)) (ps : List (ℕ × (K × Row V S))) → waiting_by_due now rs ≡ p ∷ ps → ((p : ℕ × (K × Row V S)) (ps : List (ℕ × (K × Row V S))) → waiting_by_due now rs ≡ p ∷ ps → waiting_by_due now (set_value (same_key n p.1.0) rs (record { subscribers = xs; phase = Asked a })) ≡ ps)
          → waiting_by_due now (set_value (same_key n p.1.0) (r ∷ rs) (record { subscribers = xs; phase = Asked a })) ≡ placed_if_due now phase r ps
      behind phase in_phase p ps w rest =
          ap (λ b. waiting_by_due now (cond b ((r.0, (record { subscribers = xs; phase = Asked a })) ∷ rs) (r ∷ set_value (same_key n p.1.0) rs (record { subscribers = xs; phase = Asked a })))) (apart p ps w)
          ∙ ap (λ phase. placed_if_due now phase r (waiting_by_due now (set_value (same_key n p.1.0) rs (record { subscribers = xs; phase = Asked a })))) in_phase
          ∙ ap (placed_if_due now phase r) (rest p ps w)

      -- it is the first row
      front : (due : ℕ) (ws : List (ℕ × (K × Row V S))) → waiting_by_due now rs ≡ ws → (due, r) ∷ ws ≡ q ∷ qs → waiting_by_due now (set_value (same_key n q.1.0) (r ∷ rs) (record { subscribers = xs; phase = Asked a })) ≡ qs
      front due ws w is =
          let first : ◌≡◌ {A = ℕ × (K × Row V S)} (due, r) q = heads (due, r) q ws qs is in
          ap (λ k. waiting_by_due now (set_value (same_key n k) (r ∷ rs) (record { subscribers = xs; phase = Asked a }))) (sym (ap (λ (q : ℕ × (K × Row V S)). q.1.0) first))
          ∙ ap (λ b. waiting_by_due now (cond b ((r.0, (record { subscribers = xs; phase = Asked a })) ∷ rs) (r ∷ set_value (same_key n r.0) rs (record { subscribers = xs; phase = Asked a })))) (laws.refl r.0)
          ∙ w ∙ tails (due, r) q ws qs is
        where
          heads : (x y : ℕ × (K × Row V S)) (xs ys : List (ℕ × (K × Row V S))) → x ∷ xs ≡ y ∷ ys → x ≡ y
          heads x y xs ys is = cc

          tails : (x y : ℕ × (K × Row V S)) (xs ys : List (ℕ × (K × Row V S))) → x ∷ xs ≡ y ∷ ys → xs ≡ ys
          tails x y xs ys is = cc

      after-one : (due : ℕ) → r.1.phase ≡ Waiting due → nat_le due now ≡ true → (p : ℕ × (K × Row V S)) (ps : List (ℕ × (K × Row V S))) → waiting_by_due now rs ≡ p ∷ ps → ((p : ℕ × (K × Row V S)) (ps : List (ℕ × (K × Row V S))) → waiting_by_due now rs ≡ p ∷ ps → waiting_by_due now (set_value (same_key n p.1.0) rs (record { subscribers = xs; phase = Asked a })) ≡ ps)
          → p ∷ placed due r ps ≡ q ∷ qs → waiting_by_due now (set_value (same_key n q.1.0) (r ∷ rs) (record { subscribers = xs; phase = Asked a })) ≡ qs
      after-one due in_phase over p ps w rest is =
          ap (λ k. waiting_by_due now (set_value (same_key n k) (r ∷ rs) (record { subscribers = xs; phase = Asked a }))) (sym (ap (λ (q : ℕ × (K × Row V S)). q.1.0) (heads p q (placed due r ps) qs is)))
          ∙ behind (Waiting due) in_phase p ps w rest
          ∙ ap (λ b. cond b (placed due r ps) ps) over
          ∙ tails p q (placed due r ps) qs is
        where
          heads : (x y : ℕ × (K × Row V S)) (xs ys : List (ℕ × (K × Row V S))) → x ∷ xs ≡ y ∷ ys → x ≡ y
          heads x y xs ys is = cc

          tails : (x y : ℕ × (K × Row V S)) (xs ys : List (ℕ × (K × Row V S))) → x ∷ xs ≡ y ∷ ys → xs ≡ ys
          tails x y xs ys is = cc

      among : (due : ℕ) → r.1.phase ≡ Waiting due → nat_le due now ≡ true → (ws : List (ℕ × (K × Row V S))) → waiting_by_due now rs ≡ ws → ((p : ℕ × (K × Row V S)) (ps : List (ℕ × (K × Row V S))) → waiting_by_due now rs ≡ p ∷ ps → waiting_by_due now (set_value (same_key n p.1.0) rs (record { subscribers = xs; phase = Asked a })) ≡ ps) → placed due r ws ≡ q ∷ qs
          → waiting_by_due now (set_value (same_key n q.1.0) (r ∷ rs) (record { subscribers = xs; phase = Asked a })) ≡ qs
      among due in_phase over [] w rest is = front due [] w is
      among due in_phase over (p ∷ ps) w rest is = placed-at (nat_le due p.0) is
        where
          placed-at : (b : Bool) → cond b ((due, r) ∷ p ∷ ps) (p ∷ placed due r ps) ≡ q ∷ qs → waiting_by_due now (set_value (same_key n q.1.0) (r ∷ rs) (record { subscribers = xs; phase = Asked a })) ≡ qs
          placed-at true is = front due (p ∷ ps) w is
          placed-at false is = after-one due in_phase over p ps w rest is

      if-due : (due : ℕ) → r.1.phase ≡ Waiting due → (b : Bool) → nat_le due now ≡ b → (ws : List (ℕ × (K × Row V S))) → waiting_by_due now rs ≡ ws → cond b (placed due r ws) ws ≡ q ∷ qs → ((p : ℕ × (K × Row V S)) (ps : List (ℕ × (K × Row V S))) → waiting_by_due now rs ≡ p ∷ ps → waiting_by_due now (set_value (same_key n p.1.0) rs (record { subscribers = xs; phase = Asked a })) ≡ ps)
          → waiting_by_due now (set_value (same_key n q.1.0) (r ∷ rs) (record { subscribers = xs; phase = Asked a })) ≡ qs
      if-due due in_phase true over ws w is rest = among due in_phase over ws w rest is
      if-due due in_phase false over ws w is rest = behind (Waiting due) in_phase q qs (w ∙ is) rest ∙ ap (λ b. cond b (placed due r qs) qs) over

      at : (phase : Phase V) → r.1.phase ≡ phase → (ws : List (ℕ × (K × Row V S))) → waiting_by_due now rs ≡ ws → placed_if_due now phase r ws ≡ q ∷ qs → ((p : ℕ × (K × Row V S)) (ps : List (ℕ × (K × Row V S))) → waiting_by_due now rs ≡ p ∷ ps → waiting_by_due now (set_value (same_key n p.1.0) rs (record { subscribers = xs; phase = Asked a })) ≡ ps)
          → waiting_by_due now (set_value (same_key n q.1.0) (r ∷ rs) (record { subscribers = xs; phase = Asked a })) ≡ qs
      at (Waiting due) in_phase ws w is rest = if-due due in_phase (nat_le due now) refl ws w is rest
      at (Asked b) in_phase ws w is rest = behind (Asked b) in_phase q qs (w ∙ is) rest
      at (Judged j) in_phase ws w is rest = behind (Judged j) in_phase q qs (w ∙ is) rest

  -- the key that is due first, and those behind it
  pub record IsDueFirst (now : ℕ) (m : Machine K V S) (k : K) : Type 0 where
    pub first : ℕ × (K × Row V S)
    pub rest : List (ℕ × (K × Row V S))
    pub list : waiting_by_due now m.rows ≡ first ∷ rest
    pub key : first.1.0 ≡ k
    pub own : find (same_key n k) (keys_of m.rows) ≡ Some k
    pub there : row_of n m k ≡ Some first.1.1
    pub idle : IsIdle (row_of n m k)

  pub due-first : (now : ℕ) (m : Machine K V S) → IsDistinct (same_key n) (keys_of m.rows) → (k : K) → Some k ≡ first_key (map overdue_of (waiting_by_due now m.rows)) → IsDueFirst now m k
  due-first now m distinct k is =
      at (waiting_by_due now m.rows) refl is
      (Each-waiting (λ r. find (same_key n r.0) (keys_of m.rows) ≡ Some r.0) now m.rows (each_own m.rows distinct))
      (Each-waiting (λ r. lookup (same_key n r.0) m.rows ≡ Some r.1) now m.rows (each_found n laws m.rows distinct))
    where
      idle-row : (o : Option (Row V S)) (row : Row V S) → o ≡ Some row → IsIdlePhase row.phase → IsIdle o
      idle-row o row found idle = rw found idle

      at : (qs : List (ℕ × (K × Row V S))) → waiting_by_due now m.rows ≡ qs → Some k ≡ first_key (map overdue_of qs)
          → Each (λ q. (find (same_key n q.1.0) (keys_of m.rows) ≡ Some q.1.0) × IsIdlePhase q.1.1.phase) (waiting_by_due now m.rows)
          → Each (λ q. (lookup (same_key n q.1.0) m.rows ≡ Some q.1.1) × IsIdlePhase q.1.1.phase) (waiting_by_due now m.rows) → IsDueFirst now m k
      at [] list is own found = cc
      at (q ∷ qs) list is own found =
          let key : q.1.0 ≡ k = sym (same-some k q.1.0 is) in
          let mine = (subst (Each (λ q. (find (same_key n q.1.0) (keys_of m.rows) ≡ Some q.1.0) × IsIdlePhase q.1.1.phase)) list own).0 in
          let here = (subst (Each (λ q. (lookup (same_key n q.1.0) m.rows ≡ Some q.1.1) × IsIdlePhase q.1.1.phase)) list found).0 in
          let there : row_of n m k ≡ Some q.1.1 = ap (λ k. lookup (same_key n k) m.rows) (sym key) ∙ here.0 in
          record {
            first = q;
            rest = qs;
            list = list;
            key = key;
            own = subst (λ k. find (same_key n k) (keys_of m.rows) ≡ Some k) key mine.0;
            there = there;
            idle = idle-row (row_of n m k) q.1.1 there here.1;
          }
        where
          same-some : (x y : K) → Some x ≡ Some y → x ≡ y
          same-some x y is = cc

  -- It is asked for again, and those behind it are what is left.
  pub one-started : (now : ℕ) (m next : Machine K V S) → IsDistinct (same_key n) (keys_of m.rows) → (k : K) (before after : List (Effect K V S)) (f : IsDueFirst now m k)
      → IfSome (row_of n m k) (λ row. onto before (start_again n m k row.subscribers) ≡ Some (record { machine = next; effects = after }))
      → (onto after (start_all n next (waiting_by_due now next.rows)) ≡ onto before (start_all n m (waiting_by_due now m.rows))) × (waiting_by_due now next.rows ≡ f.rest)
  one-started now m next distinct k before after f goes =
      let here : onto before (start_again n m k f.first.1.1.subscribers) ≡ Some (record { machine = next; effects = after }) = found (row_of n m k) f.first.1.1 f.there goes in
      let rows = started-rows m next k f.first.1.1.subscribers before after here in
      let rest : waiting_by_due now next.rows ≡ f.rest =
      ap (waiting_by_due now) rows ∙ ap (λ k. waiting_by_due now (restarted m k f.first.1.1.subscribers)) (sym f.key) ∙ rest-due now f.first.1.1.subscribers m.next_attempt m.rows distinct f.first f.rest f.list in (
        ap (λ qs. onto after (start_all n next qs)) rest
            ∙ sym (onto-and_then (start_again n m k f.first.1.1.subscribers) (λ next. start_all n next f.rest) before after next here)
            ∙ ap (λ k. onto before (and_then (start_again n m k f.first.1.1.subscribers) (λ next. start_all n next f.rest))) (sym f.key)
            ∙ ap (λ qs. onto before (start_all n m qs)) (sym f.list),
        rest,
      )
    where
      found : (o : Option (Row V S)) (row : Row V S) → o ≡ Some row → IfSome o (λ row. onto before (start_again n m k row.subscribers) ≡ Some (record { machine = next; effects = after }))
          → onto before (start_again n m k row.subscribers) ≡ Some (record { machine = next; effects = after })
      found o row is holds = rw is at holds

  -- what the entries say of the key that is due first
  pub found-first : (now : ℕ) (ts : List (K × List (S × ℕ))) (es : List (K × Kept V)) → Agree n.key ts es → (m : Machine K V S) → rows_of ts es ≡ m.rows → (k : K) → Some k ≡ first_key (by_due (due_of now es))
      → IsDistinct (same_key n) (keys_of m.rows) × IsDueFirst now m k
  found-first now ts es a m rows k is =
      let distinct : IsDistinct (same_key n) (keys_of m.rows) = subst (λ rs. IsDistinct (same_key n) (keys_of rs)) rows (distinct-rows n.key ts es a) in
      (distinct, due-first now m distinct k (is ∙ (ap first_key (sym (waiting-by_due now ts es a.same)) ∙ ap (λ rs. first_key (map overdue_of (waiting_by_due now rs))) rows)))

  -- no key is due
  pub found-none : (now : ℕ) (ts : List (K × List (S × ℕ))) (es : List (K × Kept V)) → Agree n.key ts es → (m : Machine K V S) → rows_of ts es ≡ m.rows → None ≡ first_key (by_due (due_of now es)) → waiting_by_due now m.rows ≡ []
  found-none now ts es a m rows is =
      at (waiting_by_due now m.rows) (is ∙ (ap first_key (sym (waiting-by_due now ts es a.same)) ∙ ap (λ rs. first_key (map overdue_of (waiting_by_due now rs))) rows))
    where
      at : (qs : List (ℕ × (K × Row V S))) → None ≡ first_key (map overdue_of qs) → qs ≡ []
      at [] none = refl
      at (q ∷ qs) none = cc

  pub some-left : (now : ℕ) (m : Machine K V S) (k : K) → IsDueFirst now m k → (length (waiting_by_due now m.rows) == 0) ≡ false
  some-left now m k f = rw f.list (not-empty (length f.rest))

  -- the first of those that are due is refused
  pub refused-goes : (now : ℕ) (m : Machine K V S) (k : K) (f : IsDueFirst now m k) (before after before' after' : List (Effect K V S)) (next next' : Machine K V S) (all : Option (Done K V S)) (fault : Fault)
      → onto before (start_all n m (waiting_by_due now m.rows)) ≡ onto before' all
      → IfSome (row_of n m k) (λ row. Goes (start_again n m k row.subscribers) before after next (Err fault)) → Goes all before' after' next' (Err fault)
  refused-goes now m k f before after before' after' next next' all fault left goes = at fault (found (row_of n m k) f.first.1.1 f.there goes)
    where
      found : (o : Option (Row V S)) (row : Row V S) → o ≡ Some row → IfSome o (λ row. Goes (start_again n m k row.subscribers) before after next (Err fault)) → Goes (start_again n m k row.subscribers) before after next (Err fault)
      found o row is holds = rw is at holds

      none-onto : (o : Option (Done K V S)) → None ≡ onto before' o → o ≡ None
      none-onto None is = refl
      none-onto (Some d) is = cc

      at : (fault : Fault) → Goes (start_again n m k f.first.1.1.subscribers) before after next (Err fault) → Goes all before' after' next' (Err fault)
      at faults.OutOfMemory goes = tt
      at faults.Exhausted goes =
          none-onto all
          (sym (ap (λ qs. onto before (start_all n m qs)) f.list
          ∙ ap (λ k. onto before (and_then (start_again n m k f.first.1.1.subscribers) (λ next. start_all n next f.rest))) f.key
          ∙ ap (λ o. onto before (and_then o (λ next. start_all n next f.rest))) goes) ∙ left)
      at faults.Failed goes = absurd goes
      at faults.Ended goes = absurd goes
      at faults.Busy goes = absurd goes
      at faults.Unasked goes = absurd goes
      at faults.OutOfRange goes = absurd goes
      at faults.EndOfBuffer goes = absurd goes
      at faults.InvalidTag goes = absurd goes
      at faults.InvalidVarint goes = absurd goes
      at faults.ExtraData goes = absurd goes
      at faults.Key goes = absurd goes
      at faults.Uneven goes = absurd goes

pub shorter : {X : Type 0} (ps qs rest : List X) (q : X) → ps ≡ rest → qs ≡ q ∷ rest → length ps < length qs
shorter ps qs rest q left list = rw (left, list) (omega arith)
