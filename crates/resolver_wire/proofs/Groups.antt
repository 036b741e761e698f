-- A length read group by group, the low ones first.
use Rattle.std.proofs.Common.{◌≡◌, ℕ, zero, suc, ◌+◌, ◌-◌, ◌*◌, ◌^◌, ◌<◌, ◌≤◌, Bool, true, false, cond, ◌&&◌, eqb, ltb, List, ◌∷◌, length, get_or, drop, drop-cons, add-one, inl, inr, Result, Ok, Err, refl, sym, ap, ◌∙◌, arith}
use Rattle.std.proofs.lemmas.Bool.{lt-ltb, le-ltb, cases_lt}
use Rattle.std.proofs.lemmas.Bool.Decides.{nat_tests}
use Rattle.std.proofs.Math.Nat.{mul-le-mul_right}
use Rattle.resolver_base.specs.declared.fault.Fault.{Fault}
use Rattle.resolver_base.specs.declared.fault.Fault.TheVariants as faults
use Rattle.resolver_wire.specs.Reading.{◌>>=◌, varint_at}

-- what the groups so far make of the reading of the rest; behind another group, 0 is a fault
abbrev pub completed : Bool → ℕ → ℕ → Result (ℕ × List ℕ) Fault → Result (ℕ × List ℕ) Fault
completed inner low worth (Ok read) = cond (inner && eqb read.0 0) (Err faults.InvalidVarint) (Ok (low + read.0 * worth, read.1))
completed inner low worth (Err fault) = Err fault

pub completed_first : (r : Result (ℕ × List ℕ) Fault) → completed false 0 1 r ≡ r
completed_first (Ok read) = ap (λ (n : ℕ). Ok (n, read.1)) (omega arith)
completed_first (Err fault) = refl

-- a number that isn't 0 is no fault
is_allowed : {A : Type 0} (inner : Bool) (n : ℕ) (x y : A) → 0 < n → cond (inner && eqb n 0) x y ≡ y
is_allowed true n x y h = let other : eqb n 0 ≡ false = grind (arith, nat_tests) in rw other refl
is_allowed false n x y h = refl

sum_of_groups : (low worth d n : ℕ) → low + (d + 128 * n) * worth ≡ low + d * worth + n * (worth * 128)
sum_of_groups low worth d n = omega arith

more_by_value : (inner : Bool) (low worth b n : ℕ) (bytes : List ℕ)
    → completed inner low worth (cond (eqb n 0) (Err faults.InvalidVarint) (Ok (b - 128 + 128 * n, bytes))) ≡ completed true (low + (b - 128) * worth) (worth * 128) (Ok (n, bytes))
more_by_value inner low worth b zero bytes = refl
more_by_value inner low worth b (suc n) bytes =
    let other : eqb (suc n) 0 ≡ false = grind (arith, nat_tests) in
    let allowed = is_allowed {A = Result (ℕ × List ℕ) Fault} inner (b - 128 + 128 * suc n) (Err faults.InvalidVarint) (Ok (low + (b - 128 + 128 * suc n) * worth, bytes)) (omega arith) in
    rw (other, allowed) (ap (λ (m : ℕ). Ok (m, bytes)) (sum_of_groups low worth (b - 128) (suc n)))

-- one more group
completed_more : (inner : Bool) (low worth b : ℕ) (r : Result (ℕ × List ℕ) Fault)
    → completed inner low worth (r >>= λ rest. cond (eqb rest.0 0) (Err faults.InvalidVarint) (Ok (b - 128 + 128 * rest.0, rest.1))) ≡ completed true (low + (b - 128) * worth) (worth * 128) r
completed_more inner low worth b (Ok read) = more_by_value inner low worth b read.0 read.1
completed_more inner low worth b (Err fault) = refl

pub goes_on : (bytes : List ℕ) (place low worth group : ℕ) (total : Result (ℕ × List ℕ) Fault) → place < 4 → place < length bytes → 128 ≤ get_or bytes place 0 → group ≡ get_or bytes place 0 - 128
    → completed (ltb 0 place) low worth (varint_at (4 - place) (drop place bytes)) ≡ total
    → completed (ltb 0 (place + 1)) (low + group * worth) (worth * 128) (varint_at (4 - (place + 1)) (drop (place + 1) bytes)) ≡ total
unfolding varint_at
goes_on bytes place low worth group total few within high is_group so_far =
    let left : 4 - place ≡ suc (4 - (place + 1)) = omega arith in
    let front : drop place bytes ≡ get_or bytes place 0 ∷ drop (place + 1) bytes = rw add-one (drop-cons bytes place 0 within) in
    let big : ltb (get_or bytes place 0) 128 ≡ false = le-ltb _ _ high in
    let behind : ltb 0 (place + 1) ≡ true = lt-ltb _ _ (omega arith) in
    let opened : varint_at (4 - place) (drop place bytes) ≡ (varint_at (4 - (place + 1)) (drop (place + 1) bytes) >>= λ rest. cond (eqb rest.0 0) (Err faults.InvalidVarint) (Ok (get_or bytes place 0 - 128 + 128 * rest.0, rest.1)))
    = rw (left, front, big) refl in
    rw (behind, is_group) (sym (completed_more (ltb 0 place) low worth (get_or bytes place 0) (varint_at (4 - (place + 1)) (drop (place + 1) bytes))) ∙ ap (completed (ltb 0 place) low worth) (sym opened) ∙ so_far)

worth_small : (place : ℕ) → place < 4 → 128 ^ place ≤ 2 ^ 21
worth_small zero h = omega arith
worth_small (suc zero) h = omega arith
worth_small (suc (suc zero)) h = omega arith
worth_small (suc (suc (suc zero))) h = omega arith
worth_small (suc (suc (suc (suc n)))) h = absurd (omega arith)

-- what a group adds
pub record Adds (place worth group : ℕ) : Type 0 where
  pub fits : group * worth + worth ≤ 2 ^ 32
  pub below : group * worth + worth ≤ worth * 128
  pub next : place < 4 → worth ≤ 2 ^ 21

pub group_adds : (place worth group : ℕ) → place ≤ 4 → worth ≡ 128 ^ place → group < 128 → (place ≡ 4 → group < 16) → Adds place worth group
group_adds place worth group few is small last =
    let product : group * worth ≤ 127 * worth = mul-le-mul_right worth (omega arith) in
    let next : place < 4 → worth ≤ 2 ^ 21 = λ h. omega (arith, is, worth_small place h) in
    record {
      fits = elim (cases_lt place 4) [
        | inl lt ↦ omega (arith, next lt)
        | inr le ↦
            let at_last : place ≡ 4 = omega arith in
            let whole : worth ≡ 268435456 = is ∙ ap (λ (k : ℕ). 128 ^ k) at_last in
            let less : group * worth ≤ 15 * worth = mul-le-mul_right worth (omega (arith, last at_last)) in
            omega arith
      ];
      below = omega arith;
      next = next;
    }
