-- The spelling of a length: there is one, and it is read again.
use Rattle.std.proofs.Common.{◌≡◌, ℕ, zero, suc, ◌+◌, ◌-◌, ◌*◌, ◌/◌, ◌%◌, ◌^◌, ◌<◌, ◌≤◌, Bool, true, false, cond, eqb, ltb, List, [], ◌∷◌, ◌++◌, length, Result, Ok, Err, refl, sym, ap, subst, ◌∙◌, inl, inr, arith}
use Rattle.std.proofs.lemmas.Bool.{cases_lt, lt-ltb, le-ltb, ltb-true, ne_eqb, eqb-false}
use Rattle.std.proofs.Math.Nat.{pow-suc}
use Rattle.resolver_base.specs.declared.fault.Fault.{Fault}
use Rattle.resolver_base.specs.declared.fault.Fault.TheVariants as faults
use Rattle.resolver_wire.specs.Spelling.{IsVarint, varint_in}
use Rattle.resolver_wire.specs.Reading.{◌>>=◌, AreBytes, varint_at}

-- the value of a step that did not fail
pub bind_ok : {A B : Type 0} (r : Result A Fault) (f : A → Result B Fault) (y : B) → (r >>= f) ≡ Ok y → (x : A) × (r ≡ Ok x) × (f x ≡ Ok y)
bind_ok (Ok x) f y e = (x, refl, e)
bind_ok (Err fault) f y e = absurd cc

-- a test that did not fail, of two kinds
pub guard_ok : {A : Type 0} (b : Bool) (fault : Fault) (x y : A) → cond b (Err fault) (Ok x) ≡ Ok y → (b ≡ false) × (x ≡ y)
guard_ok true fault x y e = absurd cc
guard_ok false fault x y e = (refl, cc)

pub guard_held : {A : Type 0} (b : Bool) (fault : Fault) (x y : A) → cond b (Ok x) (Err fault) ≡ Ok y → (b ≡ true) × (x ≡ y)
guard_held true fault x y e = (refl, cc)
guard_held false fault x y e = absurd cc

abbrev done : {A : Type 0} → A → Result A Fault
done x = Ok x

pub ok_is : {A : Type 0} (x y : A) → done x ≡ done y → x ≡ y
ok_is x y e = cc

abbrev a_length : ℕ → List ℕ → Result (ℕ × List ℕ) Fault
a_length n rest = Ok (n, rest)

-- one more group in front
more_groups : (b n rest : ℕ) (tail : List ℕ) → 128 ≤ b → b < 256 → 0 < rest → n + 128 ≡ b + 128 * rest → IsVarint tail rest → IsVarint (b ∷ tail) n
more_groups b n rest [] low high some sum is = absurd is
more_groups b n rest (c ∷ tail) low high some sum is = (low, high, (rest, some, sum, is))

next_power : (k : ℕ) → 16 * 128 ^ suc k ≡ 128 * (16 * 128 ^ k)
next_power k = rw pow-suc (omega arith)

power_positive : (k : ℕ) → 0 < 128 ^ k
power_positive zero = omega arith
power_positive (suc k) = rw pow-suc (omega (arith, power_positive k))

pub varint_is : (k n : ℕ) → n < 16 * 128 ^ k → IsVarint (varint_in k n) n
unfolding varint_in
varint_is zero n small = (omega arith, refl)
varint_is (suc k) n small =
    elim (cases_lt n 128) [
      | inl low ↦ rw (lt-ltb n 128 low) (low, refl)
      | inr high ↦
          rw (le-ltb n 128 high) (more_groups (n % 128 + 128) n (n / 128) (varint_in k (n / 128)) (omega arith) (omega arith) (omega arith) (omega arith) (varint_is k (n / 128) (omega (arith, next_power k))))
    ]

pub varint_only : (k n : ℕ) (bytes : List ℕ) → n < 16 * 128 ^ k → IsVarint bytes n → bytes ≡ varint_in k n
unfolding varint_in
varint_only k n [] small is = absurd is
varint_only zero n (b ∷ []) small is = ap (λ (m : ℕ). m ∷ []) (sym is.1)
varint_only (suc k) n (b ∷ []) small is = rw (lt-ltb n 128 (omega (arith, is.0, is.1))) (ap (λ (m : ℕ). m ∷ []) (sym is.1))
varint_only zero n (b ∷ c ∷ bytes) small is = absurd (omega (arith, is.0, is.2.1, is.2.2))
varint_only (suc k) n (b ∷ c ∷ bytes) small is =
    let rest = is.2.0 in
    let high : 128 ≤ n = omega (arith, is.0, is.2.1, is.2.2) in
    let low_bits : n % 128 + 128 ≡ b = omega (arith, is.0, is.1, is.2.2) in
    let others : n / 128 ≡ rest = omega (arith, is.0, is.1, is.2.2) in
    let tail : c ∷ bytes ≡ varint_in k rest = varint_only k rest (c ∷ bytes) (omega (arith, next_power k, is.0, is.2.2)) is.2.3 in
    rw (le-ltb n 128 high, low_bits, others) (ap (λ (xs : List ℕ). b ∷ xs) tail)

pub varint_again : (k n : ℕ) (bytes rest : List ℕ) → n < 16 * 128 ^ k → IsVarint bytes n → varint_at k (bytes ++ rest) ≡ Ok (n, rest)
unfolding varint_at
varint_again k n [] rest small is = absurd is
varint_again zero n (b ∷ []) rest small is = rw (lt-ltb b 16 (omega (arith, is.1)), is.1) refl
varint_again (suc k) n (b ∷ []) rest small is = rw (lt-ltb b 128 is.0, is.1) refl
varint_again zero n (b ∷ c ∷ bytes) rest small is = absurd (omega (arith, is.0, is.2.1, is.2.2))
varint_again (suc k) n (b ∷ c ∷ bytes) rest small is =
    let high = is.2.0 in
    let tail : varint_at k (c ∷ (bytes ++ rest)) ≡ Ok (high, rest) = varint_again k high (c ∷ bytes) rest (omega (arith, next_power k, is.0, is.2.2)) is.2.3 in
    let some : eqb high 0 ≡ false = ne_eqb _ _ (λ e. omega (arith, is.2.1)) in
    let sum : b - 128 + 128 * high ≡ n = omega (arith, is.0, is.2.2) in
    rw (le-ltb b 128 is.0, tail, some, sum) refl

pub varint_short : (k n : ℕ) → length (varint_in k n) ≤ k + 1
unfolding varint_in
varint_short zero n = omega arith
varint_short (suc k) n =
    elim (cases_lt n 128) [
      | inl low ↦ rw (lt-ltb n 128 low) (omega arith)
      | inr high ↦ rw (le-ltb n 128 high) (omega (arith, varint_short k (n / 128)))
    ]

-- what a reader took from the front
pub record Took (bytes front rest : List ℕ) : Type 0 where
  pub parts : bytes ≡ front ++ rest
  pub octets : AreBytes rest

pub AreBytes-rest : (b : ℕ) (bytes : List ℕ) → AreBytes (b ∷ bytes) → AreBytes bytes
AreBytes-rest b bytes h i = h (suc i)

-- a last group
last_took : (b n k : ℕ) (bytes rest : List ℕ) → AreBytes (b ∷ bytes) → b < 128 → b < 16 * 128 ^ k → a_length b bytes ≡ a_length n rest → (front : List ℕ) × IsVarint front n × Took (b ∷ bytes) front rest × (n < 16 * 128 ^ k)
last_took b n k bytes rest octets low small e =
    let is = ok_is (b, bytes) (n, rest) e in
    let is_n : b ≡ n = ap (λ (p : ℕ × List ℕ). p.0) is in
    let is_rest : bytes ≡ rest = ap (λ (p : ℕ × List ℕ). p.1) is in
    (b ∷ [], (omega arith, sym is_n), record { parts = ap (λ (xs : List ℕ). b ∷ xs) is_rest; octets = subst AreBytes is_rest (AreBytes-rest b bytes octets) }, omega arith)

-- a group with others behind it
group_took : (b n k : ℕ) (bytes rest : List ℕ) → 128 ≤ b → b < 256 → (high : ℕ × List ℕ) → (front : List ℕ) × IsVarint front high.0 × Took bytes front high.1 × (high.0 < 16 * 128 ^ k)
    → cond (eqb high.0 0) (Err faults.InvalidVarint) (a_length (b - 128 + 128 * high.0) high.1) ≡ a_length n rest → (front : List ℕ) × IsVarint front n × Took (b ∷ bytes) front rest × (n < 16 * 128 ^ suc k)
group_took b n k bytes rest low byte high took e =
    let g = guard_ok (eqb high.0 0) faults.InvalidVarint (b - 128 + 128 * high.0, high.1) (n, rest) e in
    let some : high.0 ≡ 0 → ⊥ = eqb-false _ _ g.0 in
    let is_n : b - 128 + 128 * high.0 ≡ n = ap (λ (p : ℕ × List ℕ). p.0) g.1 in
    let is_rest : high.1 ≡ rest = ap (λ (p : ℕ × List ℕ). p.1) g.1 in (
      b ∷ took.0,
      more_groups b n high.0 took.0 low byte (omega arith) (omega arith) took.1,
      record { parts = ap (λ (xs : List ℕ). b ∷ xs) (took.2.parts ∙ ap (λ (xs : List ℕ). took.0 ++ xs) is_rest); octets = subst AreBytes is_rest took.2.octets },
      omega (arith, next_power k, took.3),
    )

pub varint_took : (k : ℕ) (bytes : List ℕ) (n : ℕ) (rest : List ℕ) → AreBytes bytes → varint_at k bytes ≡ Ok (n, rest) → (front : List ℕ) × IsVarint front n × Took bytes front rest × (n < 16 * 128 ^ k)
unfolding varint_at
varint_took k [] n rest octets e = absurd cc
varint_took zero (b ∷ bytes) n rest octets e =
    let g = guard_held (ltb b 16) faults.InvalidVarint (b, bytes) (n, rest) e in
    let low = ltb-true b 16 g.0 in
    last_took b n 0 bytes rest octets (omega arith) (omega arith) (ap done g.1)
varint_took (suc k) (b ∷ bytes) n rest octets e =
    elim (cases_lt b 128) [
      | inl low ↦
          let t = lt-ltb b 128 low in
          last_took b n (suc k) bytes rest octets low (omega (arith, next_power k, power_positive k)) (rw t at e)
      | inr high ↦
          let t = le-ltb b 128 high in
          let b-is = bind_ok (varint_at k bytes) (λ rest. cond (eqb rest.0 0) (Err faults.InvalidVarint) (Ok (b - 128 + 128 * rest.0, rest.1))) (n, rest) (rw t at e) in
          group_took b n k bytes rest high (octets 0) b-is.0 (varint_took k bytes b-is.0.0 b-is.0.1 (AreBytes-rest b bytes octets) b-is.1) b-is.2
    ]
