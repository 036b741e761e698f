use Rattle.std.proofs.Common.{◌≡◌, ℕ, ◌+◌, ◌-◌, ◌*◌, ◌^◌, ◌<◌, get_or, refl, add-one, arith}
use Rattle.std.proofs.lemmas.Bool.Decides.{nat_tests}
use Rattle.std.proofs.lemmas.Grind.{common_steps}
use Rattle.std.proofs.Math.Nat.{pow-suc}
use Rattle.resolver_wire.specs.Reading.{varint_at}
use Rattle.resolver_wire.proofs.Groups.{Adds, goes_on, group_adds}
use Rattle.resolver_wire.proofs.wire.reading.length_of.Goals as goal
use Rattle.resolver_wire.proofs.wire.reading.length_of.Goals.{then-place, else-place}

pow_next : (n : ℕ) → 128 ^ (n + 1) ≡ 128 ^ n * 128
pow_next n = rw (add-one, pow-suc) refl

-- the fifth group has four bits
last_group : (c : goal.After-from) → c.loop-place.place ≡ 4 → get_or c.args.bytes.now c.loop-place.place 0 < 16
last_group c at_last =
    elim c.if-place.branch [
      | then-place w ↦ let x = w.is_past-is in let y = c.if-is_past.false in grind (arith, nat_tests)
      | else-place w ↦ omega (arith, w.if-place)
    ]

adds : (c : goal.After-from) → Adds c.loop-place.place c.loop-place.worth c.from.result
adds c =
    group_adds _ _ _ c.loop-place.invariant.few c.loop-place.invariant.worth (omega (arith, c.from.ensures)) (λ at_last. omega (arith, c.from.ensures, last_group c at_last))

pub overflow_mul-length : goal.overflow_mul-length
overflow_mul-length c = omega (arith, (adds c).fits)

pub overflow_add-length : goal.overflow_add-length
overflow_add-length c = omega (arith, (adds c).fits, c.loop-place.invariant.low)

-- a group that isn't the last is none of four bits
not_last : (c : goal.Else-byte-lt128) → c.loop-place.place < 4
not_last c =
    elim c.if-place.branch [
      | then-place w ↦ let x = w.is_past-is in let y = c.if-is_past.false in let z = c.if-byte-lt128.false in absurd (grind (arith, nat_tests))
      | else-place w ↦ omega (arith, w.if-place)
    ]

pub loop-place-preserved : goal.loop-place-preserved
loop-place-preserved c =
    let inv = c.loop-place.invariant in
    let few = not_last c in
    let group : c.from.result ≡ get_or c.args.bytes.now c.loop-place.place 0 - 128 = omega (arith, c.from.ensures, c.type_inv.bytes c.loop-place.place) in
    let adds = group_adds c.loop-place.place c.loop-place.worth c.from.result inv.few inv.worth (omega (arith, c.from.ensures)) (λ at_last. absurd (omega arith)) in
    record {
      few = omega arith;
      within = omega arith;
      worth = rw (pow_next, ← inv.worth) refl;
      low = omega (arith, adds.below, inv.low);
      so_far = goes_on c.args.bytes.now c.loop-place.place c.loop-place.length c.loop-place.worth c.from.result _ few (omega arith) c.if-byte-lt128.false group inv.so_far;
    }

pub returns-then-place-bytes-clause-length : goal.returns-then-place-bytes-clause-length
unfolding varint_at
returns-then-place-bytes-clause-length c = grind (arith, common_steps)

pub returns-then-is_padded-clause-length : goal.returns-then-is_padded-clause-length
unfolding varint_at
returns-then-is_padded-clause-length c = grind (arith, common_steps)

pub returns-then-byte-lt128-clause-length : goal.returns-then-byte-lt128-clause-length
unfolding varint_at
returns-then-byte-lt128-clause-length c = grind (arith, common_steps)

pub returns-then-byte-lt128-clause-after : goal.returns-then-byte-lt128-clause-after
returns-then-byte-lt128-clause-after c = grind (arith, common_steps)
