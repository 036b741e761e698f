-- Numbers that are drawn from the words of the generator PCG64.
use Rattle.std.specs.Prelude.{ℕ, ◌+◌, ◌*◌, ◌%◌, ◌^◌}
use Rattle.rand_core.specs.Pcg32Seed.{pcg32_seed}
use Rattle.rand_pcg.specs.Lcg.{Lcg}
use Rattle.rand_pcg.specs.Pcg.{pcg64, pcg64_of_seed}

-- the generator of a seed
abbrev pub seeded : ℕ → Lcg
seeded seed = pcg64_of_seed (pcg32_seed 32 seed)

-- the remainder by n of the next two words, the first of them the high one, and the generator then
abbrev pub drawn : ℕ → Lcg → ℕ × Lcg
drawn n generator =
    let first = pcg64 generator in
    let second = pcg64 first.1 in
    ((first.0 * 2 ^ 64 + second.0) % n, second.1)
