-- Bytes that are compared as the numbers that they spell.
use Rattle.std.proofs.Common.{◌≡◌, true, false, get_or-drop, ℕ, zero, suc, ◌+◌, ◌*◌, ◌<◌, ◌≤◌, ◌^◌, List, [], ◌∷◌, ◌++◌, length, get_or, take, drop, refl, sym, ap, ◌∙◌, arith}
use Rattle.std.proofs.lemmas.List.{length-take-le, take-append-drop}
use Rattle.std.specs.declared.cmp.Ordering.{Ordering}
use Rattle.std.specs.declared.cmp.Ordering.TheVariants.{Less, Equal, Greater}
use Rattle.std.specs.Cmp.{nat_cmp_is, ranks}
use Rattle.std.specs.Cmp.Lexicographic.{slice_cmp}
use Rattle.std.proofs.lemmas.Nat.{from_be_bytes-to_be_bytes_4, from_be_bytes-to_be_bytes_8}
use Rattle.std.specs.Int.{byte_at, bytes_high_first, from_be_bytes, to_be_bytes, w32, w64}
use Rattle.std.specs.Ordering.{nat_cmp, ordering_then, is_ne, MatchOrdering}
use Rattle.std.specs.Slice.Scan.{big_endian}

abbrev pub Bytes : List ℕ → Type 0
Bytes xs = (i : ℕ) → get_or xs i 0 < 256

level : (x : ℕ) → nat_cmp x x ≡ Equal
level x = sym (nat_cmp_is x x Equal refl)

below : {x y : ℕ} → x < y → nat_cmp x y ≡ Less
below {x} {y} h = sym (nat_cmp_is x y Less h)

above : {x y : ℕ} → y < x → nat_cmp x y ≡ Greater
above {x} {y} h = sym (nat_cmp_is x y Greater h)

-- what is behind the first bytes doesn't turn the order that these have
rises : (us vs : List ℕ) (a b : ℕ) → length us ≡ length vs → Bytes us → a < b → big_endian a us < big_endian b vs
rises [] [] a b same small less = less
rises [] (v ∷ vs) a b same small less = absurd (omega arith)
rises (u ∷ us) [] a b same small less = absurd (omega arith)
rises (u ∷ us) (v ∷ vs) a b same small less =
    let first : u < 256 = small 0 in
    rises us vs (a * 256 + u) (b * 256 + v) (omega arith) (λ i. small (suc i)) (omega arith)

-- as many bytes, with more behind them: their numbers tell, and else what is behind
pub led : (us vs xs ys : List ℕ) (a : ℕ) → length us ≡ length vs → Bytes us → Bytes vs
    → slice_cmp nat_cmp (us ++ xs) (vs ++ ys) ≡ ordering_then (nat_cmp (big_endian a us) (big_endian a vs)) (slice_cmp nat_cmp xs ys)
led [] [] xs ys a same small other = ap (λ r. ordering_then r (slice_cmp nat_cmp xs ys)) (sym (level a))
led [] (v ∷ vs) xs ys a same small other = absurd (omega arith)
led (u ∷ us) [] xs ys a same small other = absurd (omega arith)
led (u ∷ us) (v ∷ vs) xs ys a same small other =
    by (led us vs xs ys (a * 256 + u) (omega arith) (λ i. small (suc i)) (λ i. other (suc i))) (nat_cmp u v) refl (ranks u v)
  where
    first : u < 256
    first = small 0

    second : v < 256
    second = other 0

    by : slice_cmp nat_cmp (us ++ xs) (vs ++ ys) ≡ ordering_then (nat_cmp (big_endian (a * 256 + u) us) (big_endian (a * 256 + u) vs)) (slice_cmp nat_cmp xs ys)
        → (r : Ordering) → nat_cmp u v ≡ r → MatchOrdering r (u < v) (u ≡ v) (v < u)
        → ordering_then (nat_cmp u v) (slice_cmp nat_cmp (us ++ xs) (vs ++ ys)) ≡ ordering_then (nat_cmp (big_endian (a * 256 + u) us) (big_endian (a * 256 + v) vs)) (slice_cmp nat_cmp xs ys)
    by more Less e h =
        let less : u < v = h in
        ap (λ r. ordering_then r (slice_cmp nat_cmp (us ++ xs) (vs ++ ys))) e
        ∙ ap (λ r. ordering_then r (slice_cmp nat_cmp xs ys)) (sym (below (rises us vs (a * 256 + u) (a * 256 + v) (omega arith) (λ i. small (suc i)) (omega (arith, first)))))
    by more Greater e h =
        let over : v < u = h in
        ap (λ r. ordering_then r (slice_cmp nat_cmp (us ++ xs) (vs ++ ys))) e
        ∙ ap (λ r. ordering_then r (slice_cmp nat_cmp xs ys)) (sym (above (rises vs us (a * 256 + v) (a * 256 + u) (omega arith) (λ i. other (suc i)) (omega (arith, second)))))
    by more Equal e h =
        ap (λ r. ordering_then r (slice_cmp nat_cmp (us ++ xs) (vs ++ ys))) e
        ∙ more
        ∙ ap (λ w. ordering_then (nat_cmp (big_endian (a * 256 + u) us) (big_endian (a * 256 + w) vs)) (slice_cmp nat_cmp xs ys)) h

-- eight bytes as a number, as `u64::from_be_bytes` reads them
pub eight : (us : List ℕ) → length us ≡ 8 → from_be_bytes w64 us ≡ big_endian 0 us
eight (b0 ∷ b1 ∷ b2 ∷ b3 ∷ b4 ∷ b5 ∷ b6 ∷ b7 ∷ []) long = omega arith
eight _ long = absurd (omega arith)

pub four : (us : List ℕ) → length us ≡ 4 → from_be_bytes w32 us ≡ big_endian 0 us
four (b0 ∷ b1 ∷ b2 ∷ b3 ∷ []) long = omega arith
four _ long = absurd (omega arith)

small_byte : (k n : ℕ) → byte_at k n < 256
small_byte zero n = omega arith
small_byte (suc k) n = omega arith

spelled : (k n : ℕ) → Bytes (bytes_high_first k n)
spelled zero n i = omega arith
spelled (suc k) n zero = small_byte k n
spelled (suc k) n (suc i) = spelled k n i

alone : (r : Ordering) → ordering_then r Equal ≡ r
alone Less = refl
alone Equal = refl
alone Greater = refl

-- numbers are ordered as the bytes that spell them
pub four_rise : (m n : ℕ) → m < 2 ^ 32 → n < 2 ^ 32 → slice_cmp nat_cmp (to_be_bytes w32 m) (to_be_bytes w32 n) ≡ nat_cmp m n
four_rise m n h l =
    led (to_be_bytes w32 m) (to_be_bytes w32 n) [] [] 0 refl (spelled 4 m) (spelled 4 n)
    ∙ alone _
    ∙ (λ i. nat_cmp (number m h i) (number n l i))
  where
    number : (k : ℕ) → k < 2 ^ 32 → big_endian 0 (to_be_bytes w32 k) ≡ k
    number k h = sym (four (to_be_bytes w32 k) refl) ∙ from_be_bytes-to_be_bytes_4 k h

pub eight_rise : (m n : ℕ) → m < 2 ^ 64 → n < 2 ^ 64 → slice_cmp nat_cmp (to_be_bytes w64 m) (to_be_bytes w64 n) ≡ nat_cmp m n
eight_rise m n h l =
    led (to_be_bytes w64 m) (to_be_bytes w64 n) [] [] 0 refl (spelled 8 m) (spelled 8 n)
    ∙ alone _
    ∙ (λ i. nat_cmp (number m h i) (number n l i))
  where
    number : (k : ℕ) → k < 2 ^ 64 → big_endian 0 (to_be_bytes w64 k) ≡ k
    number k h = sym (eight (to_be_bytes w64 k) refl) ∙ from_be_bytes-to_be_bytes_8 k h

-- the first of some bytes are bytes
taken : (n : ℕ) (zs : List ℕ) → Bytes zs → Bytes (take n zs)
taken zero zs h i = omega arith
taken (suc n) [] h i = h i
taken (suc n) (z ∷ zs) h zero = h 0
taken (suc n) (z ∷ zs) h (suc i) = taken n zs (λ k. h (suc k)) i

-- lists of eight bytes and more, by the numbers of their first eight
pub by_words : (xs ys : List ℕ) → Bytes xs → Bytes ys → 8 ≤ length xs → 8 ≤ length ys
    → slice_cmp nat_cmp xs ys ≡ ordering_then (nat_cmp (from_be_bytes w64 (take 8 xs)) (from_be_bytes w64 (take 8 ys))) (slice_cmp nat_cmp (drop 8 xs) (drop 8 ys))
by_words xs ys small other long longer =
    let us = length-take-le 8 xs long in
    let vs = length-take-le 8 ys longer in
    (λ i. slice_cmp nat_cmp (sym (take-append-drop 8 xs) i) (sym (take-append-drop 8 ys) i))
    ∙ led (take 8 xs) (take 8 ys) (drop 8 xs) (drop 8 ys) 0 (us ∙ sym vs) (taken 8 xs small) (taken 8 ys other)
    ∙ (λ i. ordering_then (nat_cmp (sym (eight (take 8 xs) us) i) (sym (eight (take 8 ys) vs) i)) (slice_cmp nat_cmp (drop 8 xs) (drop 8 ys)))

-- what is left of some bytes are bytes
pub left : (zs : List ℕ) → Bytes zs → Bytes (drop 8 zs)
left zs h i = rw (get_or-drop 8 zs i 0) (h (8 + i))

-- two words that differ tell, and two that don't leave it to what is behind
pub told : (r o : Ordering) → is_ne r ≡ true → ordering_then r o ≡ r
told Less o e = refl
told Equal o e = absurd cc
told Greater o e = refl

pub untold : (r o : Ordering) → is_ne r ≡ false → ordering_then r o ≡ o
untold Less o e = absurd cc
untold Equal o e = refl
untold Greater o e = absurd cc
