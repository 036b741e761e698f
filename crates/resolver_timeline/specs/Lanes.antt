-- What lanes show of keys and of peers.
use Rattle.std.specs.Prelude.{ℕ, Bool, true, false, nat_le, Option, None, Some, if◌then◌else◌}
use Rattle.resolver_timeline.specs.declared.lane.Phase.{Phase}
use Rattle.resolver_timeline.specs.declared.lane.Phase.TheVariants.{Waiting, Retrying, Held}
use Rattle.resolver_timeline.specs.declared.peer_lane.Standing.{Standing}
use Rattle.resolver_timeline.specs.declared.peer_lane.Standing.TheVariants.{Free, Full, Blocked}

-- whether a key waits
abbrev pub waits : Phase → Bool
waits Waiting = true
waits Retrying = true
waits Held = true
waits _ = false

-- whether a peer has as many requests as one may have, where that is limited
abbrev pub is_full : (load : ℕ) → Option ℕ → Bool
is_full load None = false
is_full load (Some most) = nat_le most load

-- how a peer stands: one that is blocked is shown so, also where it is full
abbrev pub standing_of : (is_blocked : Bool) → (load : ℕ) → Option ℕ → Standing
standing_of is_blocked load limit = if is_blocked then Blocked else (if is_full load limit then Full else Free)
