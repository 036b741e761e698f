-- The keys that wait, and when a scan may be begun again.
use Rattle.std.specs.Prelude.{◌≡◌, ℕ, Bool, false, nat_le, min, List, [], ◌∷◌, Option, None, Some, unwrap_or, option_map, if◌then◌else◌}
use Rattle.std.specs.List.{All, slice_get}
use Rattle.std.specs.Ordering.{is_gt, nat_cmp}
use Rattle.std.specs.declared.cmp.Ordering.{Ordering}
use Rattle.resolver_priority_set.specs.Priorities.{after, put, retained, without}
use Rattle.resolver_fetch_waiting.specs.declared.pending.Waiter.{Waiter}
use Rattle.resolver_fetch_waiting.specs.declared.pending.Waiter.TheVariants.{Clear, Later}
use Rattle.resolver_fetch_scan.specs.declared.place.Place.{Place}
use Rattle.resolver_sampling.specs.Times.{never}
use Rattle.resolver_fetch_scan.specs.Waiting.{place_order}
use Rattle.resolver_fetch_scan.specs.Scan.{least}

pub record Pending (K : Type 0) : Type 0 where
  -- where the waiting keys stand, in their order
  pub keys : List (Place × K)
  -- none: clear
  pub waiter : Option ℕ

module _ {K : Type 0} where
  -- the least due that is later
  abbrev pub later_due : (moment : ℕ) → List (Place × K) → Option ℕ
  later_due moment [] = None
  later_due moment (p ∷ pairs) = least (if nat_le p.0.due moment then None else Some p.0.due) (later_due moment pairs)

  -- when a key becomes due after a moment, or at the other moment, whichever is first
  abbrev pub waits_until : (moment : ℕ) → (other : Option ℕ) → List (Place × K) → ℕ
  waits_until moment other pairs = min never (unwrap_or (least (later_due moment pairs) other) never)

  -- the waiter of the last scan in vain, which was of this moment
  abbrev pub waiter_seen : (moment : ℕ) → List (Place × K) → Waiter → Option ℕ
  waiter_seen moment pairs Clear = None
  waiter_seen moment pairs (Later other) = Some (waits_until moment other pairs)

  abbrev pub awake : Pending K → Pending K
  awake pending = record pending { waiter = None }

  -- after a scan in vain of this moment
  abbrev pub asleep : (moment : ℕ) → (other : Option ℕ) → Pending K → Pending K
  asleep moment other pending = record pending { waiter = Some (waits_until moment other pending.keys) }

  -- Whatever becomes of the keys clears the waiter.
  abbrev pub with_keys : List (Place × K) → Pending K
  with_keys pairs = record { keys = pairs; waiter = None }

  abbrev pub with_key : (K → K → Ordering) → Place × K → Pending K → Pending K
  with_key by_key p pending = with_keys (put place_order by_key pending.keys p)

  abbrev pub without_key : (K → K → Ordering) → K → Pending K → Pending K
  without_key by_key key pending = with_keys (without by_key key pending.keys)

  abbrev pub with_kept : (K → Bool) → Pending K → Pending K
  with_kept test pending = with_keys (retained test pending.keys)

-- a moment and a key that no waiting key exceeds; without them no key waits
abbrev pub IsBound : {K : Type 0} → (K → K → Ordering) → (moment : ℕ) → List (Place × K) → Option (ℕ × K) → Type 0
IsBound by_key moment pairs None = pairs ≡ []
IsBound by_key moment pairs (Some bound) = (bound.0 ≡ moment) × All (λ p. is_gt (by_key p.1 bound.1) ≡ false) pairs

module _ {K : Type 0} (by_key : K → K → Ordering) where
  -- the bound, once the key waits too
  abbrev pub raised : (moment : ℕ) → K → Option (ℕ × K) → ℕ × K
  raised moment key None = (moment, key)
  raised moment key (Some bound) = if is_gt (by_key key bound.1) then (moment, key) else bound

  -- the due of the first key of a queue behind a bound
  abbrev pub due_behind : List (ℕ × K) → ℕ × K → Option ℕ
  due_behind queue bound = option_map (λ p. p.0) (slice_get (after nat_cmp by_key bound queue) 0)
