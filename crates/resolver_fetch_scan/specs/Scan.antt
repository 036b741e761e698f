-- A scan looks for a peer that takes a request. It is its moment, what it tried in vain, and what it expects.
use Rattle.std.specs.Prelude.{ℕ, ◌+◌, ◌^◌, Bool, true, false, not, ◌&&◌, nat_lt, nat_le, min, List, [], ◌∷◌, ◌++◌, length, sum, map, Option, None, Some, Result, Ok, Err, option_map, unwrap_or, filter, find, is_none, if◌then◌else◌}
use Rattle.std.specs.List.{list_any, slice_get}
use Rattle.resolver_base.specs.declared.check.Check.TheVariants.{Clear, Until}
use Rattle.resolver_base.specs.declared.fault.Fault.{Fault}
use Rattle.resolver_base.specs.declared.fault.Fault.TheVariants.{Unasked, OutOfRange}
use Rattle.resolver_sampling.specs.declared.score.Averages.{Averages}
use Rattle.resolver_fetch_requests.specs.declared.requests.request.Request.{Request}
use Rattle.resolver_fetch_scan.specs.declared.scan.Answer.{Answer}
use Rattle.resolver_fetch_scan.specs.declared.scan.Answer.TheVariants.{Drawn, Checked, Sent}
use Rattle.resolver_fetch_scan.specs.declared.scan.Ask.{Ask}
use Rattle.resolver_fetch_scan.specs.declared.scan.Ask.TheVariants as asks
use Rattle.resolver_fetch_scan.specs.declared.trail.Expected.{Expected}
use Rattle.resolver_fetch_scan.specs.declared.trail.Expected.TheVariants.{Mode, ByWeight, ByPlace, Checking, FirstId, Sending}
use Rattle.resolver_fetch_scan.specs.declared.trail.Reason.{Reason}
use Rattle.resolver_fetch_scan.specs.declared.trail.Reason.TheVariants.{Limited, Refused}
use Rattle.resolver_fetch_scan.specs.declared.trail.Try.{Try}
use Rattle.resolver_fetch_scan.specs.Orders.{Orders, same_key, same_peer}
use Rattle.resolver_sampling.specs.Scores.{weight_of}
use Rattle.resolver_sampling.specs.Choice.{chosen}
use Rattle.resolver_sampling.specs.Modes.{means_weighted}
use Rattle.resolver_sampling.specs.Times.{never}
use Rattle.resolver_fetch_scan.specs.Waiting.{Waiting}
use Rattle.resolver_fetch_scan.specs.Snapshot.{Snapshot, eligible}
use Rattle.resolver_fetch_requests.specs.Ids.{next_id}

pub record Scan (K P : Type 0) : Type 0 where
  pub moment : ℕ
  pub trail : List (Try K P)
  -- none: it is over
  pub expects : Option (Expected P)

-- what is new when a scan begins or takes an answer
pub record Turn (K P : Type 0) : Type 0 where
  pub scan : Scan K P
  pub last_id : Option ℕ
  -- none: clear
  pub waiter : Option ℕ
  pub sent : Option (ℕ × Request K P)

abbrev pub is_over : {K P : Type 0} → Scan K P → Bool
is_over scan = is_none scan.expects

-- the lesser, where there are two
abbrev pub least : Option ℕ → Option ℕ → Option ℕ
least None later = later
least (Some moment) None = Some moment
least (Some moment) (Some later) = Some (min moment later)

abbrev pub limit_of : Reason → Option ℕ
limit_of (Limited until) = Some until
limit_of Refused = None

-- what peers weigh
abbrev pub weights : {P : Type 0} → List (P × Averages) → List ℕ
weights ps = map (λ p. weight_of p.1) ps

-- the peer at a place
abbrev pub by_place : {P : Type 0} → List (P × Averages) → (number : ℕ) → Option P
by_place ps number = option_map (λ p. p.0) (slice_get ps number)

-- the peer in whose interval a number lies
abbrev pub by_weight : {P : Type 0} → List (P × Averages) → (number : ℕ) → Option P
by_weight ps number = if nat_lt number (sum (weights ps)) then by_place ps (chosen (weights ps) number) else None

-- the way in which a number says that the peer is drawn
abbrev pub mode_of : {P : Type 0} → (number : ℕ) → Expected P
mode_of number = if means_weighted number then ByWeight else ByPlace

module _ {K P : Type 0} where
  abbrev pub least_until : List (Try K P) → Option ℕ
  least_until [] = None
  least_until (t ∷ trail) = least (limit_of t.reason) (least_until trail)

  -- when what was tried may be tried again: at the least limit, or after the delay where there were refusals alone
  abbrev pub trail_moment : (delay : ℕ) → (now : ℕ) → List (Try K P) → Option ℕ
  trail_moment delay now [] = None
  trail_moment delay now (t ∷ trail) = Some (unwrap_or (least_until (t ∷ trail)) (now + delay))

  abbrev pub is_due : (now : ℕ) → K × Waiting P → Bool
  is_due now w = nat_le w.1.place.due now

  -- the least due that is later
  abbrev pub next_due : (now : ℕ) → List (K × Waiting P) → Option ℕ
  next_due now [] = None
  next_due now (w ∷ ws) = least (if is_due now w then None else Some w.1.place.due) (next_due now ws)

module _ {K P : Type 0} (o : Orders K P) where
  abbrev pub was_tried : List (Try K P) → K → P → Bool
  was_tried trail k p = list_any (λ t. same_key o k t.key && same_peer o p t.peer) trail

  -- the eligible peers that were not tried for the key
  abbrev pub left : Snapshot K P → List (Try K P) → K × Waiting P → List (P × Averages)
  left s trail w = filter (λ p. not (was_tried trail w.0 p.0)) (eligible o s w.1.targets)

  abbrev pub can_be_tried : Snapshot K P → Scan K P → K × Waiting P → Bool
  can_be_tried s scan w = is_due scan.moment w && nat_lt 0 (length (left s scan.trail w))

  -- the key that is tried: the first that is due and has a peer left
  abbrev pub next : Snapshot K P → Scan K P → Option (K × Waiting P)
  next s scan = find (can_be_tried s scan) s.waiting

  abbrev pub asks_for : Snapshot K P → Scan K P → Expected P → Turn K P
  asks_for s scan expected =
      record { scan = record scan { expects = Some expected }; last_id = s.last_id; waiter = None; sent = None }

  -- the waiter of a scan without an accepted request: the least moment at which something may change by itself
  abbrev pub waiter_of : Snapshot K P → Scan K P → ℕ
  waiter_of s scan =
      min never (unwrap_or (least (next_due scan.moment s.waiting) (trail_moment s.configuration.retry_delay scan.moment scan.trail)) never)

  abbrev pub ends : Snapshot K P → Scan K P → Turn K P
  ends s scan = record {
    scan = record scan { expects = None };
    last_id = s.last_id;
    waiter = Some (waiter_of s scan);
    sent = None;
  }

  abbrev pub goes_on_with : Snapshot K P → Scan K P → Option (K × Waiting P) → Turn K P
  goes_on_with s scan None = ends s scan
  goes_on_with s scan (Some w) = asks_for s scan Mode

  abbrev pub goes_on : Snapshot K P → Scan K P → Turn K P
  goes_on s scan = goes_on_with s scan (next s scan)

  abbrev pub begins : Snapshot K P → (now : ℕ) → Turn K P
  begins s now = goes_on s (record { moment = now; trail = []; expects = None })

  -- the peer was tried in vain
  abbrev pub fails : Snapshot K P → Scan K P → K → P → Reason → Turn K P
  fails s scan key peer reason =
      goes_on s (record scan { trail = scan.trail ++ record { key = key; peer = peer; reason = reason } ∷ [] })

  -- the id is taken, also where the request is refused then
  abbrev pub sends : Snapshot K P → Scan K P → P → (id : ℕ) → Turn K P
  sends s scan peer id = record (asks_for s scan (Sending peer id)) { last_id = Some id }

  abbrev pub clears : Snapshot K P → Scan K P → P → Option ℕ → Turn K P
  clears s scan peer None = asks_for s scan (FirstId peer)
  clears s scan peer (Some last) = sends s scan peer (next_id s.asked last)

  -- the key is asked for, and the scan is over
  abbrev pub succeeds : Snapshot K P → Scan K P → K → P → (id : ℕ) → Turn K P
  succeeds s scan key peer id = record {
    scan = record scan { expects = None };
    last_id = s.last_id;
    waiter = None;
    sent = Some (id, record { key = key; peer = peer; start = scan.moment; deadline = scan.moment + s.configuration.fetch_timeout });
  }

  -- A number that is not below the asked bound chooses no peer.
  abbrev pub draws : Snapshot K P → Scan K P → Option P → Result (Turn K P) Fault
  draws s scan None = Err OutOfRange
  draws s scan (Some peer) = Ok (asks_for s scan (Checking peer))

  abbrev pub answered : Snapshot K P → Scan K P → K × Waiting P → Expected P → Answer → Result (Turn K P) Fault
  answered s scan w Mode (Drawn n) = if nat_lt n (w.1.retries + 4) then Ok (asks_for s scan (mode_of n)) else Err OutOfRange
  answered s scan w ByWeight (Drawn n) = draws s scan (by_weight (left s scan.trail w) n)
  answered s scan w ByPlace (Drawn n) = draws s scan (by_place (left s scan.trail w) n)
  answered s scan w (Checking peer) (Checked Clear) = Ok (clears s scan peer s.last_id)
  answered s scan w (Checking peer) (Checked (Until moment)) = Ok (fails s scan w.0 peer (Limited moment))
  answered s scan w (FirstId peer) (Drawn n) = if nat_lt n (2 ^ 64) then Ok (sends s scan peer n) else Err OutOfRange
  answered s scan w (Sending peer id) (Sent true) = Ok (succeeds s scan w.0 peer id)
  answered s scan w (Sending peer id) (Sent false) = Ok (fails s scan w.0 peer Refused)
  answered s scan w expected answer = Err Unasked

  abbrev pub takes_for : Snapshot K P → Scan K P → Option (K × Waiting P) → Option (Expected P) → Answer → Result (Turn K P) Fault
  takes_for s scan (Some w) (Some expected) answer = answered s scan w expected answer
  takes_for s scan w expected answer = Err Unasked

  -- what an answer makes of a scan. An answer that it does not expect, or a number out of range, is refused.
  abbrev pub takes : Snapshot K P → Scan K P → Answer → Result (Turn K P) Fault
  takes s scan answer = takes_for s scan (next s scan) scan.expects answer

  abbrev pub question_for : Snapshot K P → Scan K P → K × Waiting P → Expected P → Ask K P
  question_for s scan w Mode = asks.Draw (w.1.retries + 4)
  question_for s scan w ByWeight = asks.Draw (sum (weights (left s scan.trail w)))
  question_for s scan w ByPlace = asks.Draw (length (left s scan.trail w))
  question_for s scan w (Checking peer) = asks.Check peer
  question_for s scan w (FirstId peer) = asks.Draw (2 ^ 64)
  question_for s scan w (Sending peer id) = asks.Request peer id w.0 s.configuration.priority_requests

  abbrev pub question_of : Snapshot K P → Scan K P → Option (K × Waiting P) → Option (Expected P) → Option (Ask K P)
  question_of s scan (Some w) (Some expected) = Some (question_for s scan w expected)
  question_of s scan w expected = None

  -- what an open scan asks
  abbrev pub question : Snapshot K P → Scan K P → Option (Ask K P)
  question s scan = question_of s scan (next s scan) scan.expects
