-- Moments and durations, in nanoseconds.
use Rattle.std.specs.Prelude.{ℕ, ◌+◌, ◌-◌, ◌^◌, min}

-- the longest duration that counts
abbrev pub longest : ℕ
longest = 18_446_744_073_709_551_615_999_999_999

-- the waiter of a scan that nothing but a change can help
abbrev pub never : ℕ
never = 2 ^ 128 - 1

-- how long ago something began; nothing where the clock went back
abbrev pub elapsed_since : (start now : ℕ) → ℕ
elapsed_since start now = min longest (now - start)

-- what a peer is charged that did not help for some time: it holds up the next try too
abbrev pub charged : (time delay : ℕ) → ℕ
charged time delay = min longest (time + delay)
