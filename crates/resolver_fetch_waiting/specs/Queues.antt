-- The keys that wait, in two queues: the fresh ones, and those that are tried again.
use Rattle.std.specs.Prelude.{◌≡◌, ℕ, ◌+◌, ◌≤◌, Bool, true, false, not, List, [], ◌∷◌, ◌++◌, Option, None, Some, filter, length, map}
use Rattle.std.specs.declared.cmp.Ordering.{Ordering}
use Rattle.resolver_priority_set.specs.Priorities.{priorities_of}
use Rattle.resolver_fetch_scan.specs.declared.place.Place.{Place}

module _ {K : Type 0} where
  -- where the keys of a queue stand
  abbrev pub placed : (is_retry : Bool) → List (ℕ × K) → List (Place × K)
  placed is_retry queue = map (λ p. (record { is_retry = is_retry; due = p.0 }, p.1)) queue

  -- the waiting keys: the fresh ones, and then those that are tried again
  abbrev pub joined : (fresh retry : List (ℕ × K)) → List (Place × K)
  joined fresh retry = placed false fresh ++ placed true retry

  abbrev pub dues : List (Place × K) → List (ℕ × K)
  dues waiting = map (λ p. (p.0.due, p.1)) waiting

  -- the fresh keys, with their dues
  abbrev pub fresh_queue : List (Place × K) → List (ℕ × K)
  fresh_queue waiting = dues (filter (λ p. not p.0.is_retry) waiting)

  -- the keys that are tried again, with their dues
  abbrev pub retry_queue : List (Place × K) → List (ℕ × K)
  retry_queue waiting = dues (filter (λ p. p.0.is_retry) waiting)

  -- the waiting keys are those of the one queue, and then those of the other
  abbrev pub IsQueued : List (Place × K) → Type 0
  IsQueued waiting = waiting ≡ joined (fresh_queue waiting) (retry_queue waiting)

  -- the due of the first waiting key
  abbrev pub first_due : List (Place × K) → Option ℕ
  first_due [] = None
  first_due (p ∷ waiting) = Some p.0.due

-- no key stands in both queues, nor twice in one
abbrev pub AreApart : {K : Type 0} → (K → K → Ordering) → (fresh retry : List (ℕ × K)) → Type 0
AreApart {K} by_key fresh retry = (key : K) → length (priorities_of by_key fresh key) + length (priorities_of by_key retry key) ≤ 1
