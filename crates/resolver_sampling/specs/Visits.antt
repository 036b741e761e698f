-- How often the stored numbers of an index are visited.
use Rattle.std.specs.Prelude.{ℕ, ◌+◌, ◌-◌, ◌*◌, ◌^◌, ◌<◌, ◌≤◌, min}

-- one visit more, as far as the counter goes
abbrev pub visited : (visits : ℕ) → ℕ
visited visits = min (visits + 1) (2 ^ 64 - 1)

-- Whatever number of binary digits the count of places has room in: there are at most so many
-- visits more for each digit, and once as many.
abbrev pub VisitsAtMost : (each places before after : ℕ) → Type 0
VisitsAtMost each places before after =
    (digits : ℕ) → places < 2 ^ digits → after ≤ before + each * (digits + 1)
