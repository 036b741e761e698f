-- Keys that wait to be asked for, and their order.
use Rattle.std.specs.Prelude.{ℕ, ◌+◌, ◌-◌, ◌^◌, true, false, List, [], ◌∷◌, Option, None, Some, min, max, unwrap_or}
use Rattle.std.specs.Ordering.{bool_cmp, nat_cmp, ordering_then}
use Rattle.std.specs.declared.cmp.Ordering.{Ordering}
use Rattle.std.specs.BTreeSet.{insert_key}
use Rattle.resolver_priority_set.specs.Priorities.{pair_order}
use Rattle.resolver_fetch_scan.specs.declared.place.Place.{Place}
use Rattle.resolver_fetch_scan.specs.Orders.{Orders}

-- fresh keys before retries, then the earlier due
abbrev pub place_order : Place → Place → Ordering
place_order p q = ordering_then (bool_cmp p.is_retry q.is_retry) (nat_cmp p.due q.due)

abbrev pub fresh_at : (due : ℕ) → Place
fresh_at due = record { is_retry = false; due = due }

abbrev pub retry_at : (due : ℕ) → Place
retry_at due = record { is_retry = true; due = due }

-- one retry more; the count stops where 32 bits end
abbrev pub once_more : (retries : ℕ) → ℕ
once_more retries = min (retries + 1) (2 ^ 32 - 1)

-- what a scan reads of a key that waits
pub record Waiting (P : Type 0) : Type 0 where
  pub place : Place
  pub retries : ℕ
  -- the peers that may be asked; none: any peer
  pub targets : Option (List P)

-- the wake-up: the due of the first waiting key or the waiter, whichever is later; a clear waiter counts as nothing
abbrev pub wake_up : {X : Type 0} → (X → ℕ) → List X → (waiter : Option ℕ) → Option ℕ
wake_up due_of [] waiter = None
wake_up due_of (w ∷ ws) waiter = Some (max (due_of w) (unwrap_or waiter 0))

-- Where requests are limited, a response clears the waiter: its peer may be asked again.
abbrev pub waiter_freed : {N : Type 0} → (limit : Option N) → (waiter : Option ℕ) → Option ℕ
waiter_freed None waiter = waiter
waiter_freed (Some most) waiter = None

module _ {K P : Type 0} (o : Orders K P) where
  -- fresh keys before retries, then the earlier due, then the smaller key
  abbrev pub waiting_order : K × Waiting P → K × Waiting P → Ordering
  waiting_order v w = pair_order place_order o.key (v.1.place, v.0) (w.1.place, w.0)

  -- some keys in this order
  abbrev pub in_order : List (K × Waiting P) → List (K × Waiting P)
  in_order [] = []
  in_order (w ∷ ws) = insert_key waiting_order (in_order ws) w
