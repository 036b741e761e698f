-- What is so of every fetcher, after its calls.
use Rattle.std.proofs.Common.{◌≡◌, refl, ap, sym, subst, ◌∙◌, ℕ, ◌≤◌, ◌<◌, ◌+◌, ◌-◌, ◌^◌, Bool, true, if◌then◌else◌, false, List, [], length, Option, None, Some, option_map, is_some, arith}
use Rattle.std.specs.Prelude.{IfSome}
use Rattle.std.specs.BTreeMap.{insert_entry, is_at}
use Rattle.std.specs.Cmp.{IsTotalOrder}
use Rattle.std.specs.Ordering.{nat_cmp}
use Rattle.std.specs.declared.cmp.Ordering.{Ordering}
use Rattle.resolver_priority_set.specs.Priorities.{priorities_of, put, without}
use Rattle.resolver_fetch_requests.specs.declared.requests.request.Request.{Request}
use Rattle.resolver_fetch_requests.specs.Ids.{is_held}
use Rattle.resolver_fetch_requests.specs.Loads.{Counts, IsLoadedBy, Load, counted, load_of, loaded, one_fewer, one_more}
use Rattle.resolver_fetch_waiting.specs.Pending.{Pending, awake}
use Rattle.resolver_fetch_requests.proofs.Loaded.{load-without, requests-few}
use Rattle.resolver_fetch_requests.specs.Requests.{IsTaken, ids_of, is_asked, matching, overdue, requests_to, taken_if, taken_matching, taken_overdue, taken_soonest, without_request}
use Rattle.resolver_fetch_scan.specs.declared.cursor.Cursor.{Cursor}
use Rattle.resolver_fetch_scan.specs.declared.place.Place.{Place}
use Rattle.resolver_fetch.specs.Cursor.{IsKept, scan_of}
use Rattle.resolver_fetch_scan.specs.Fetcher.{Fetcher, charge, pop_active, pop_missing, pop_request, popped_active, popped_missing, popped_request}
use Rattle.resolver_sampling.specs.Times.{elapsed_since}
use Rattle.resolver_fetch_scan.specs.Orders.{Orders}
use Rattle.resolver_fetch_scan.specs.Waiting.{place_order, waiter_freed}
use Rattle.resolver_fetch.proofs.Phases.{fewer-without, once-put, once-sent}

-- where no scan is open, what is asked of an open one is so
pub closed-any : {K P : Type 0} (cursor : Option (Cursor K P)) → is_some (option_map scan_of cursor) ≡ false → (Q : Cursor K P → Type 0) → IfSome cursor Q
closed-any None shut Q = tt
closed-any (Some cursor) shut Q = absurd cc

pub closed-none : {K P : Type 0} (cursor : Option (Cursor K P)) → is_some (option_map scan_of cursor) ≡ false → cursor ≡ None
closed-none None shut = refl
closed-none (Some cursor) shut = cc

module _ {K P : Type 0} {by_key : K → K → Ordering} (o : IsTotalOrder by_key) (timeout delay : ℕ) (last : Option ℕ) (waiting : List (Place × K)) (asked : List (ℕ × Request K P))
    (kept : IsKept by_key timeout delay last waiting asked) where
  -- a key that is in no phase waits
  pub kept-put : (p : Place × K) → is_asked by_key asked p.1 ≡ false → IsKept by_key timeout delay last (put place_order by_key waiting p) asked
  kept-put p idle = record { timely = kept.timely; once = once-put o p waiting asked kept.once idle; none_yet = kept.none_yet }

  -- a request is taken out
  pub kept-taken : (r : Request K P) (new : List (ℕ × Request K P)) → IsTaken asked new r → IsKept by_key timeout delay last waiting new
  kept-taken r new out = record {
    timely = kept.timely;
    once = λ key.
        let before = kept.once key in
        let fewer = fewer-without by_key out.0 key asked in
        rw out.2 (omega (arith, before, fewer));
    none_yet = λ none. out.2 ∙ ap (without_request out.0) (kept.none_yet none);
  }

  -- some keys are let go
  pub kept-fewer : (rest : List (Place × K)) (left : List (ℕ × Request K P)) → ((key : K) → length (priorities_of by_key rest key) ≤ length (priorities_of by_key waiting key))
      → ((key : K) → length (ids_of by_key left key) ≤ length (ids_of by_key asked key)) → (asked ≡ [] → left ≡ []) → IsKept by_key timeout delay last rest left
  kept-fewer rest left fewer less none = record {
    timely = kept.timely;
    once = λ key.
        let before = kept.once key in
        omega (arith, before, fewer key, less key);
    none_yet = λ no_last. none (kept.none_yet no_last);
  }

  -- a key that waits is asked for under an id that was taken
  pub kept-sent : (id : ℕ) (r : Request K P) → is_held asked id ≡ false → is_asked by_key asked r.key ≡ false → last ≡ Some id
      → IsKept by_key timeout delay last (without by_key r.key waiting) (insert_entry nat_cmp asked id r)
  kept-sent id r new idle taken = record {
    timely = kept.timely;
    once = once-sent o id r waiting asked kept.once new idle;
    none_yet = λ none. let clash : None ≡ Some id = sym none ∙ taken in absurd cc;
  }

-- where requests are limited the waiter is cleared
pub freed-pending : {K P N : Type 0} (by_peer : P → P → Ordering) (get : N → ℕ) (counts : Option (Counts P)) (limit : Option N) (asked : List (ℕ × Request K P)) (pending : Pending K)
    → option_map (loaded by_peer) counts ≡ load_of by_peer (option_map get limit) asked
    → (if is_some counts then awake pending else pending) ≡ record pending { waiter = waiter_freed limit pending.waiter }
freed-pending by_peer get None None asked pending is = refl
freed-pending by_peer get None (Some most) asked pending is = absurd cc
freed-pending by_peer get (Some counts) None asked pending is = absurd cc
freed-pending by_peer get (Some counts) (Some most) asked pending is = refl

-- what is counted is what is asked
pub loaded-by : {K P : Type 0} (by_peer : P → P → Ordering) (limit : Option ℕ) (asked : List (ℕ × Request K P)) (load : Option (Load P)) → load ≡ load_of by_peer limit asked → IsLoadedBy by_peer asked load
loaded-by {K} {P} by_peer limit asked load is = subst (λ (l : Option (Load P)). IsLoadedBy by_peer asked l) (sym is) (of limit) where
  of : (most : Option ℕ) → IsLoadedBy by_peer asked (load_of by_peer most asked)
  of None = tt
  of (Some most) = refl

-- there is room to count one more
pub room-with : {K P : Type 0} (by_peer : P → P → Ordering) (counts : Option (Counts P)) (asked : List (ℕ × Request K P)) (name : P) → IsLoadedBy by_peer asked (option_map (loaded by_peer) counts)
    → length asked + 1 < 2 ^ 64 → IfSome counts (λ c. counted by_peer c.counts name + 1 < 2 ^ 64)
room-with by_peer None asked name is few = tt
room-with {K} {P} by_peer (Some c) asked name is few =
    let same : counted by_peer c.counts name ≡ requests_to by_peer asked name = ap (λ (f : P → ℕ). f name) is in
    let fewer = requests-few by_peer asked name in
    omega (arith, same, fewer, few)

back : (b : Bool) (n : ℕ) → (if b then (if b then n + 1 else n) - 1 else (if b then n + 1 else n)) ≡ n
back true n = omega arith
back false n = refl

-- one more, and one fewer
pub undone : {P : Type 0} (by_peer : P → P → Ordering) (name : P) (load : Option (Load P)) → option_map (one_fewer by_peer name) (option_map (one_more by_peer name) load) ≡ load
undone by_peer name None = refl
undone by_peer name (Some load) = λ i. Some (record { limit = load.limit; requests = λ p. back (is_at (by_peer name) p) (load.requests p) i })

-- the peer of the request that is taken out has one fewer
pub load-taken : {K P : Type 0} (by_peer : P → P → Ordering) (limit : Option ℕ) (load : Option (Load P)) (asked new : List (ℕ × Request K P)) (r : Request K P)
    → load ≡ load_of by_peer limit asked → IsTaken asked new r → option_map (one_fewer by_peer r.peer) load ≡ load_of by_peer limit new
load-taken by_peer limit load asked new r is out =
    ap (option_map (one_fewer by_peer r.peer)) is ∙ sym (load-without by_peer limit out.0 r asked out.1) ∙ ap (load_of by_peer limit) (sym out.2)

module _ {K P : Type 0} (o : Orders K P) (f : Fetcher K P) (r : Request K P) (left : List (ℕ × Request K P)) where
  active-found : (found : Option (ℕ × Request K P)) → (Some r, left) ≡ taken_soonest f.asked found
      → popped_active o f found ≡ (Some r.key, charge o r.peer f.configuration.fetch_timeout (record f { asked = left }))
  active-found None is = let clash = ap (λ p. p.0) is in absurd cc
  active-found (Some x) is =
      let one = ap (λ p. p.0) is in
      let same : r ≡ x.1 = cc in
      let rest = ap (λ p. p.1) is in
      rw (same, rest) refl

  missing-found : (id now : ℕ) (found : Option (Request K P)) → (Some r, left) ≡ taken_if f.asked id found
      → popped_missing o f id now found ≡ (Some r.key, charge o r.peer (elapsed_since r.start now) (record f { asked = left }))
  missing-found id now None is = let clash = ap (λ p. p.0) is in absurd cc
  missing-found id now (Some x) is =
      let one = ap (λ p. p.0) is in
      let same : r ≡ x = cc in
      let rest = ap (λ p. p.1) is in
      rw (same, rest) refl

  -- the peer of the request that is taken out is charged
  pub active-popped : (now : ℕ) → (Some r, left) ≡ taken_overdue f.asked now
      → pop_active o now f ≡ (Some r.key, charge o r.peer f.configuration.fetch_timeout (record f { asked = left }))
  active-popped now is = active-found (overdue f.asked now) is

  pub missing-popped : (id : ℕ) (peer : P) (now : ℕ) → (Some r, left) ≡ taken_matching o.peer f.asked id peer
      → pop_missing o id peer now f ≡ (Some r.key, charge o r.peer (elapsed_since r.start now) (record f { asked = left }))
  missing-popped id peer now is = missing-found id now (matching o.peer f.asked id peer) is

module _ {K P : Type 0} (o : Orders K P) (f : Fetcher K P) (r : Request K P) (left : List (ℕ × Request K P)) where
  request-found : (id : ℕ) (found : Option (Request K P)) → (Some r, left) ≡ taken_if f.asked id found
      → popped_request o f id found ≡ (Some r, record f { asked = left; waiter = waiter_freed f.configuration.peer_limit f.waiter })
  request-found id None is = let clash = ap (λ p. p.0) is in absurd cc
  request-found id (Some x) is =
      let one = ap (λ p. p.0) is in
      let same : r ≡ x = cc in
      let rest = ap (λ p. p.1) is in
      rw (same, rest) refl

  -- the whole request is taken out
  pub request-popped : (id : ℕ) (peer : P) → (Some r, left) ≡ taken_matching o.peer f.asked id peer
      → pop_request o id peer f ≡ (Some r, record f { asked = left; waiter = waiter_freed f.configuration.peer_limit f.waiter })
  request-popped id peer is = request-found id (matching o.peer f.asked id peer) is

module _ {K P : Type 0} (o : Orders K P) (f : Fetcher K P) (left : List (ℕ × Request K P)) where
  active-left : (found : Option (ℕ × Request K P)) → (None, left) ≡ taken_soonest f.asked found → (left ≡ f.asked) × (popped_active o f found ≡ (None, f))
  active-left None is = (ap (λ p. p.1) is, refl)
  active-left (Some x) is = let clash = ap (λ p. p.0) is in absurd cc

  missing-left : (id now : ℕ) (found : Option (Request K P)) → (None, left) ≡ taken_if f.asked id found → (left ≡ f.asked) × (popped_missing o f id now found ≡ (None, f))
  missing-left id now None is = (ap (λ p. p.1) is, refl)
  missing-left id now (Some x) is = let clash = ap (λ p. p.0) is in absurd cc

  -- where no request is taken out, nothing changes
  pub active-none : (now : ℕ) → (None, left) ≡ taken_overdue f.asked now → (left ≡ f.asked) × (pop_active o now f ≡ (None, f))
  active-none now is = active-left (overdue f.asked now) is

  pub missing-none : (id : ℕ) (peer : P) (now : ℕ) → (None, left) ≡ taken_matching o.peer f.asked id peer → (left ≡ f.asked) × (pop_missing o id peer now f ≡ (None, f))
  missing-none id peer now is = missing-left id now (matching o.peer f.asked id peer) is
