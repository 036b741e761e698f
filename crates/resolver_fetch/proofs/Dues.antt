-- Waiting keys by their dues: which are due, and when the next one is.
use Rattle.std.proofs.Common.{◌≡◌, refl, ap, ℕ, ◌<◌, Bool, true, false, List, [], ◌∷◌, length, map, filter, None, Some, option_map, if◌then◌else◌, arith}
use Rattle.std.proofs.lemmas.Bool.{lt-ltb}
use Rattle.std.proofs.lemmas.Bool.Decides.{nat_tests}
use Rattle.std.proofs.lemmas.Grind.{common_steps}
use Rattle.std.proofs.lemmas.Map.Keys.{sorted_head}
use Rattle.std.specs.List.{AllByRecursion}
use Rattle.std.specs.List.Sorted.{IsStrictlySortedBy}
use Rattle.std.specs.Ordering.{is_le, nat_cmp, ordering_then}
use Rattle.std.specs.Prelude.{find, nat_le, nat_lt}
use Rattle.std.specs.declared.cmp.Ordering.{Ordering}
use Rattle.std.specs.declared.cmp.Ordering.TheVariants.{Less}
use Rattle.resolver_priority_set.specs.Priorities.{from, pair_order}
use Rattle.resolver_fetch_scan.specs.declared.place.Place.{Place}
use Rattle.resolver_fetch_scan.specs.declared.trail.Try.{Try}
use Rattle.resolver_fetch_scan.specs.Fetcher.{Fetcher, waiting_of}
use Rattle.resolver_fetch_scan.specs.Orders.{Orders}
use Rattle.resolver_fetch_waiting.specs.Pending.{later_due}
use Rattle.resolver_fetch_waiting.specs.Queues.{placed}
use Rattle.resolver_fetch_scan.specs.Scan.{least, next_due}
use Rattle.resolver_fetch.specs.Seeking.{first_until, trying_key}

-- what is behind a due past a moment is past it
later-past : (x y m : ℕ) (more : Ordering) → nat_le x m ≡ false → ordering_then (nat_cmp x y) more ≡ Less → nat_le y m ≡ false
later-past x y m more past behind = grind (arith, nat_tests, common_steps, past, behind)

module _ {K : Type 0} (by_key : K → K → Ordering) where
  -- none of those behind one that is past a moment is due then
  none-behind : (m : ℕ) (r : Bool) (p : ℕ × K) → nat_le p.0 m ≡ false → (queue : List (ℕ × K))
      → AllByRecursion (λ q. pair_order nat_cmp by_key p q ≡ Less) queue → filter (λ q. nat_le q.0.due m) (placed r queue) ≡ []
  none-behind m r p past [] all = refl
  none-behind m r p past (q ∷ queue) all =
      let rest = none-behind m r p past queue all.1 in
      let here = later-past p.0 q.0 m (by_key p.1 q.1) past all.0 in
      rw here rest

module _ {K P : Type 0} (o : Orders K P) (f : Fetcher K P) (trail : List (Try K P)) (moment : ℕ) (r : Bool) (p : ℕ × K) (queue : List (ℕ × K)) where
  abbrev Placed : Place × K
  Placed = (record { is_retry = r; due = p.0 }, p.1)

  -- where the first is not due none is tried
  pub until-none : IsStrictlySortedBy (pair_order nat_cmp o.key) (p ∷ queue) → nat_le p.0 moment ≡ false → first_until o f trail moment (placed r (p ∷ queue)) ≡ None
  until-none sorted past =
      let none : filter (λ q. nat_le q.0.due moment) (placed r (p ∷ queue)) ≡ [] =
      rw past (none-behind o.key moment r p past queue (sorted_head (pair_order nat_cmp o.key) p queue sorted)) in
      ap (λ qs. option_map (trying_key o f trail) (find (λ q. nat_lt 0 (length (trying_key o f trail q).left)) qs)) none

  -- the first is tried that has a peer left
  pub until-here : nat_le p.0 moment ≡ true → 0 < length (trying_key o f trail Placed).left → first_until o f trail moment (placed r (p ∷ queue)) ≡ Some (trying_key o f trail Placed)
  until-here due some = rw (due, lt-ltb 0 _ some) refl

  -- one without is passed
  pub until-past : nat_le p.0 moment ≡ true → length (trying_key o f trail Placed).left ≡ 0 → first_until o f trail moment (placed r (p ∷ queue)) ≡ first_until o f trail moment (placed r queue)
  until-past due none =
      let empty : nat_lt 0 (length (trying_key o f trail Placed).left) ≡ false = rw none refl in
      rw (due, empty) refl

from-here : (d : ℕ) → is_le (nat_cmp 0 d) ≡ true
from-here d = grind (arith, nat_tests, common_steps)

-- all are from the first moment on
pub from-first : {K : Type 0} (queue : List (ℕ × K)) → from nat_cmp 0 queue ≡ queue
from-first [] = refl
from-first (p ∷ queue) = rw (from-here p.0) (ap (λ (qs : List (ℕ × _)). p ∷ qs) (from-first queue))

-- the next due of a scan is that of the waiting keys
pub next-due : {K P : Type 0} (o : Orders K P) (f : Fetcher K P) (m : ℕ) (ps : List (Place × K)) → next_due m (map (waiting_of o f) ps) ≡ later_due m ps
next-due o f m [] = refl
next-due o f m (p ∷ ps) = ap (least (if nat_le p.0.due m then None else Some p.0.due)) (next-due o f m ps)
