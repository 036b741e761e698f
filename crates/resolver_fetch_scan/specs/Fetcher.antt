-- A fetcher, as its callers see it: which keys wait or are asked for, and of whom.
use Rattle.std.specs.Prelude.{◌≡◌, ℕ, ◌+◌, ◌^◌, ◌<◌, ◌≤◌, Bool, false, List, [], map, Option, None, Some, Result, Ok, Err, option_map, unwrap_or, filter, find, length, if◌then◌else◌}
use Rattle.std.specs.Map.{lookup, remove_entry}
use Rattle.std.specs.BTreeMap.{insert_entry, is_at}
use Rattle.std.specs.Ordering.{nat_cmp}
use Rattle.std.specs.declared.cmp.Ordering.{Ordering}
use Rattle.resolver_base.specs.declared.fault.Fault.{Fault}
use Rattle.resolver_base.specs.declared.fault.Fault.TheVariants.{Unasked}
use Rattle.resolver_priority_set.specs.Priorities.{has_item, is_of, priorities_of, put, retained, without}
use Rattle.resolver_sampling.specs.declared.score.Averages.{Averages}
use Rattle.resolver_fetch_scan.specs.declared.config.Config.{Config}
use Rattle.resolver_fetch_scan.specs.declared.place.Place.{Place}
use Rattle.resolver_fetch_requests.specs.declared.requests.request.Request.{Request}
use Rattle.resolver_fetch_scan.specs.declared.scan.Answer.{Answer}
use Rattle.resolver_fetch_scan.specs.declared.scan.Ask.{Ask}
use Rattle.resolver_fetch_scan.specs.declared.scan.Ask.TheVariants as asks
use Rattle.resolver_fetch_requests.specs.Ids.{is_held}
use Rattle.resolver_fetch_scan.specs.Orders.{Orders}
use Rattle.resolver_sampling.specs.Times.{elapsed_since, charged}
use Rattle.resolver_fetch_scan.specs.Waiting.{Waiting, place_order, fresh_at, retry_at, once_more, waiter_freed, wake_up}
use Rattle.resolver_fetch_requests.specs.Requests.{ids_of, is_asked, soonest, overdue, matching, without_request}
use Rattle.resolver_fetch_scan.specs.Peers.{replaced, observed, with_targets, set_of}
use Rattle.resolver_fetch_scan.specs.Known.{weight_in}
use Rattle.resolver_fetch_scan.specs.Snapshot.{Snapshot, known}
use Rattle.resolver_fetch_scan.specs.Scan as scans
use Rattle.resolver_fetch_scan.specs.Scan.{Scan, Turn, is_over}

-- A key is in one phase at most: it waits, or it is asked.
pub record Fetcher (K P : Type 0) : Type 0 where
  -- where the waiting keys stand, in their order
  pub waiting : List (Place × K)
  -- requests without an answer so far, in the order of their ids
  pub asked : List (ℕ × Request K P)
  -- also of keys that are neither waiting nor asked, in the order of the keys
  pub targets : List (K × List P)
  pub retries : List (K × ℕ)
  -- in the order of the peers
  pub peers : List (P × Averages)
  pub blocked : List P
  pub configuration : Config P
  -- none: clear
  pub waiter : Option ℕ
  pub last_id : Option ℕ
  -- none: no scan expects an answer
  pub scan : Option (Scan K P)

abbrev pub opening : {K P : Type 0} → Config P → Fetcher K P
opening configuration = record {
  waiting = [];
  asked = [];
  targets = [];
  retries = [];
  peers = [];
  blocked = [];
  configuration = configuration;
  waiter = None;
  last_id = None;
  scan = None;
}

-- how often a key stands among the waiting and the asked ones
abbrev pub phases_of : {K P : Type 0} → (K → K → Ordering) → (waiting : List (Place × K)) → (asked : List (ℕ × Request K P)) → K → ℕ
phases_of by_key waiting asked key = length (priorities_of by_key waiting key) + length (ids_of by_key asked key)

-- no key stands there twice
abbrev pub EachOnce : {K P : Type 0} → (K → K → Ordering) → (waiting : List (Place × K)) → (asked : List (ℕ × Request K P)) → Type 0
EachOnce {K} by_key waiting asked = (key : K) → phases_of by_key waiting asked key ≤ 1

abbrev pub cleared : {K P : Type 0} → Fetcher K P → Fetcher K P
cleared f = record f { waiter = None }

-- a scan that is over is forgotten
abbrev pub unless_over : {K P : Type 0} → Scan K P → Option (Scan K P)
unless_over scan = if is_over scan then None else Some scan

module _ {K P : Type 0} (o : Orders K P) where
  abbrev pub targets_of : Fetcher K P → K → Option (List P)
  targets_of f key = lookup (is_at (o.key key)) f.targets

  abbrev pub retries_of : Fetcher K P → K → ℕ
  retries_of f key = unwrap_or (lookup (is_at (o.key key)) f.retries) 0

  -- where a key waits
  abbrev pub place_of : Fetcher K P → K → Option Place
  place_of f key = option_map (λ p. p.0) (find (is_of o.key key) f.waiting)

  -- a key neither waits nor is asked for
  pub record IsIdle (f : Fetcher K P) (key : K) : Type 0 where
    pub not_waiting : has_item o.key f.waiting key ≡ false
    pub not_asked : is_asked o.key f.asked key ≡ false

  abbrev pub waiting_of : Fetcher K P → Place × K → K × Waiting P
  waiting_of f (place, key) = (key, record { place = place; retries = retries_of f key; targets = targets_of f key })

  -- what a scan reads
  abbrev pub snapshot : Fetcher K P → Snapshot K P
  snapshot f = record {
    waiting = map (waiting_of f) f.waiting;
    asked = f.asked;
    peers = f.peers;
    blocked = f.blocked;
    configuration = f.configuration;
    last_id = f.last_id;
  }

  abbrev pub waits_at : Place → K → Fetcher K P → Fetcher K P
  waits_at place key f = cleared (record f { waiting = put place_order o.key f.waiting (place, key) })

  -- the key waits, and may be asked for at once
  abbrev pub add_ready : K → (now : ℕ) → Fetcher K P → Fetcher K P
  add_ready key now f = waits_at (fresh_at now) key f

  -- the key waits until the delay is over, and counts as tried once more
  abbrev pub add_retry : K → (now : ℕ) → Fetcher K P → Fetcher K P
  add_retry key now f =
      waits_at (retry_at (now + f.configuration.retry_delay)) key
      (record f { retries = insert_entry o.key f.retries key (once_more (retries_of f key)) })

  -- a set of peers, in place of the last
  abbrev pub reconcile : List P → Fetcher K P → Fetcher K P
  reconcile peers f = cleared (record f { peers = replaced o.peer f.peers peers })

  abbrev pub set_blocked : List P → Fetcher K P → Fetcher K P
  set_blocked peers f = cleared (record f { blocked = set_of o.peer peers })

  -- Targets of a key that may ask any peer so far are its first.
  abbrev pub add_targets : K → List P → Fetcher K P → Fetcher K P
  add_targets key peers f =
      cleared (record f { targets = insert_entry o.key f.targets key (with_targets o.peer (unwrap_or (targets_of f key) []) peers) })

  -- any peer may be asked for the key
  abbrev pub clear_targets : K → Fetcher K P → Fetcher K P
  clear_targets key f = cleared (record f { targets = remove_entry (is_at (o.key key)) f.targets })

  -- targets and retries of a key that is neither waiting nor asked are forgotten
  abbrev pub clear : K → Fetcher K P → Fetcher K P
  clear key f = record f {
    targets = remove_entry (is_at (o.key key)) f.targets;
    retries = remove_entry (is_at (o.key key)) f.retries;
  }

  -- the other keys are forgotten, in whatever phase they are
  abbrev pub retain : (K → Bool) → Fetcher K P → Fetcher K P
  retain keep f = cleared (record f {
    waiting = retained keep f.waiting;
    asked = filter (λ r. keep r.1.key) f.asked;
    targets = filter (λ e. keep e.0) f.targets;
    retries = filter (λ e. keep e.0) f.retries;
  })

  abbrev pub record_response : P → (elapsed bytes : ℕ) → Fetcher K P → Fetcher K P
  record_response peer elapsed bytes f =
      record f { peers = observed o.peer f.peers peer (record { elapsed = elapsed; bytes = bytes }) }

  -- a request is asked no more
  abbrev pub without_id : (id : ℕ) → Fetcher K P → Fetcher K P
  without_id id f = record f { asked = without_request id f.asked }

  -- so is one that is answered; where requests are limited, its peer may be asked again, and the waiter is clear
  abbrev pub freed : (id : ℕ) → Fetcher K P → Fetcher K P
  freed id f = record (without_id id f) { waiter = waiter_freed f.configuration.peer_limit f.waiter }

  -- a peer is charged for a time that did not help
  abbrev pub charge : P → (time : ℕ) → Fetcher K P → Fetcher K P
  charge peer time f = record_response peer (charged time f.configuration.retry_delay) 0 f

  abbrev pub popped_active : Fetcher K P → Option (ℕ × Request K P) → Option K × Fetcher K P
  popped_active f None = (None, f)
  popped_active f (Some r) = (Some r.1.key, charge r.1.peer f.configuration.fetch_timeout (without_id r.0 f))

  -- the request whose time is over, with its peer charged for it
  abbrev pub pop_active : (now : ℕ) → Fetcher K P → Option K × Fetcher K P
  pop_active now f = popped_active f (overdue f.asked now)

  abbrev pub popped_response : Fetcher K P → (id now : ℕ) → Option (Request K P) → Option (K × ℕ) × Fetcher K P
  popped_response f id now None = (None, f)
  popped_response f id now (Some r) = (Some (r.key, elapsed_since r.start now), freed id f)

  -- the request of this id and this peer, and how long it took
  abbrev pub pop_response : (id : ℕ) → P → (now : ℕ) → Fetcher K P → Option (K × ℕ) × Fetcher K P
  pop_response id peer now f = popped_response f id now (matching o.peer f.asked id peer)

  abbrev pub popped_request : Fetcher K P → (id : ℕ) → Option (Request K P) → Option (Request K P) × Fetcher K P
  popped_request f id None = (None, f)
  popped_request f id (Some r) = (Some r, freed id f)

  -- the whole request of this id and this peer
  abbrev pub pop_request : (id : ℕ) → P → Fetcher K P → Option (Request K P) × Fetcher K P
  pop_request id peer f = popped_request f id (matching o.peer f.asked id peer)

  abbrev pub popped_missing : Fetcher K P → (id now : ℕ) → Option (Request K P) → Option K × Fetcher K P
  popped_missing f id now None = (None, f)
  popped_missing f id now (Some r) = (Some r.key, charge r.peer (elapsed_since r.start now) (without_id id f))

  -- the request of this id and this peer, with the peer charged for it
  abbrev pub pop_missing : (id : ℕ) → P → (now : ℕ) → Fetcher K P → Option K × Fetcher K P
  pop_missing id peer now f = popped_missing f id now (matching o.peer f.asked id peer)

  -- a key that was asked for waits no more
  abbrev pub with_sent : Option (ℕ × Request K P) → Fetcher K P → Fetcher K P
  with_sent None f = f
  with_sent (Some r) f = record f {
    waiting = without o.key r.1.key f.waiting;
    asked = insert_entry nat_cmp f.asked r.0 r.1;
  }

  -- what a scan's beginning, or an answer, makes of the fetcher
  abbrev pub turned : Turn K P → Fetcher K P → Fetcher K P
  turned t f = record (with_sent t.sent f) { scan = unless_over t.scan; last_id = t.last_id; waiter = t.waiter }

  abbrev pub asked_by : Fetcher K P → Option (Scan K P) → Option (Ask K P)
  asked_by f None = None
  asked_by f (Some scan) = scans.question o (snapshot f) scan

  -- what an open scan asks
  abbrev pub question : Fetcher K P → Option (Ask K P)
  question f = asked_by f f.scan

  abbrev pub scan_begin : (now : ℕ) → Fetcher K P → Fetcher K P
  scan_begin now f = turned (scans.begins o (snapshot f) now) f

  abbrev pub scan_taken : Fetcher K P → Result (Turn K P) Fault → Result (Unit {0}) Fault × Fetcher K P
  scan_taken f (Ok t) = (Ok tt, turned t f)
  scan_taken f (Err fault) = (Err fault, f)

  abbrev pub answered : Fetcher K P → Answer → Option (Scan K P) → Result (Unit {0}) Fault × Fetcher K P
  answered f answer None = (Err Unasked, f)
  answered f answer (Some scan) = scan_taken f (scans.takes o (snapshot f) scan answer)

  -- an answer is taken, or refused with all as it was
  abbrev pub scan_answer : Answer → Fetcher K P → Result (Unit {0}) Fault × Fetcher K P
  scan_answer answer f = answered f answer f.scan

  -- the id of a request that is asked for now is held by none
  abbrev pub AsksNewId : Fetcher K P → Option (Ask K P) → Type 0
  AsksNewId f (Some (asks.Request peer id key priority)) = is_held f.asked id ≡ false
  AsksNewId f ask = Unit {0}

  -- the weight with which a peer of the set is drawn
  abbrev pub weight : P → Fetcher K P → Option ℕ
  weight peer f = weight_in o.peer (known o (snapshot f)) peer

module _ {K P : Type 0} where
  -- when a scan may do something; none: no key waits
  abbrev pub pending_deadline : Fetcher K P → Option ℕ
  pending_deadline f = wake_up (λ w. w.0.due) f.waiting f.waiter

  -- when the time of a request is over
  abbrev pub active_deadline : Fetcher K P → Option ℕ
  active_deadline f = option_map (λ r. r.1.deadline) (soonest f.asked)

-- what is so of the configuration of every fetcher
pub record IsTimely (timeout delay : ℕ) : Type 0 where
  pub positive : 0 < timeout
  pub timeout_fits : timeout < 2 ^ 94
  pub delay_fits : delay < 2 ^ 94
