-- A length written group by group, the low ones first.
use Rattle.std.proofs.Common.{◌≡◌, ℕ, zero, suc, ◌+◌, ◌*◌, ◌/◌, ◌%◌, ◌^◌, ◌<◌, ◌≤◌, List, [], ◌∷◌, ◌++◌, length, refl, sym, ap, ◌∙◌, append_assoc, inl, inr, arith}
use Rattle.std.proofs.lemmas.Bool.{cases_lt, lt-ltb, le-ltb}
use Rattle.std.proofs.Math.Nat.{pow-suc}
use Rattle.resolver_wire.specs.Spelling.{varint_in}

-- what was put, and the spelling of the rest, make the whole, for which there is just room beside this
pub record Puts (k : ℕ) (items : List ℕ) (spare rest : ℕ) (whole : List ℕ) (beside : ℕ) : Type 0 where
  pub fits : rest < 16 * 128 ^ k
  pub makes : items ++ varint_in k rest ≡ whole
  pub room : spare ≡ beside + length (varint_in k rest)

last_group : (k rest : ℕ) → rest < 128 → varint_in k rest ≡ rest ∷ []
unfolding varint_in
last_group zero rest small = refl
last_group (suc k) rest small = rw (lt-ltb rest 128 small) refl

next_group : (k rest : ℕ) → 128 ≤ rest → varint_in (suc k) rest ≡ (rest % 128 + 128) ∷ varint_in k (rest / 128)
unfolding varint_in
next_group k rest big = rw (le-ltb rest 128 big) refl

pub puts_last : (k spare rest beside : ℕ) (items whole : List ℕ) → rest < 128 → Puts k items spare rest whole beside → (items ++ rest ∷ [] ≡ whole) × (spare ≡ beside + 1)
puts_last k spare rest beside items whole small p =
    (ap (λ (xs : List ℕ). items ++ xs) (sym (last_group k rest small)) ∙ p.makes, p.room ∙ ap (λ (xs : List ℕ). beside + length xs) (last_group k rest small))

pub puts_more : (k spare after rest beside : ℕ) (items grown whole : List ℕ) → 128 ≤ rest → Puts k items spare rest whole beside → after + 1 ≡ spare → grown ≡ items ++ (rest % 128 + 128) ∷ []
    → (j : ℕ) × Puts j grown after (rest / 128) whole beside
puts_more zero spare after rest beside items grown whole big p less put = absurd (omega (arith, p.fits))
puts_more (suc k) spare after rest beside items grown whole big p less put =
    let fits : rest < 16 * (128 ^ k * 128) = rw (← pow-suc) p.fits in (
      k,
      record {
        fits = omega arith;
        makes = ap (λ (xs : List ℕ). xs ++ varint_in k (rest / 128)) put ∙ append_assoc items ((rest % 128 + 128) ∷ []) (varint_in k (rest / 128)) ∙ ap (λ (xs : List ℕ). items ++ xs) (sym (next_group k rest big)) ∙ p.makes;
        room = omega (arith, p.room ∙ ap (λ (xs : List ℕ). beside + length xs) (next_group k rest big));
      },
    )

some_group : (k rest : ℕ) → 1 ≤ length (varint_in k rest)
unfolding varint_in
some_group zero rest = omega arith
some_group (suc k) rest =
    elim (cases_lt rest 128) [
      | inl small ↦ rw (last_group (suc k) rest small) (omega arith)
      | inr big ↦ rw (next_group k rest big) (omega arith)
    ]

-- there is room for the next byte
pub puts_room : (k spare rest beside : ℕ) (items whole : List ℕ) → Puts k items spare rest whole beside → 1 ≤ spare
puts_room k spare rest beside items whole p = omega (arith, p.room, some_group k rest)
