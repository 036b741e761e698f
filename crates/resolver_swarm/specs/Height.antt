-- What a key's number is.
use Rattle.std.specs.Prelude.{ℕ, ◌+◌, ◌*◌}
use Rattle.resolver_swarm.specs.declared.height.Height.{Height}

-- the number of a key
abbrev pub number_of : Height → ℕ
number_of key = key.high * 256 + key.low
