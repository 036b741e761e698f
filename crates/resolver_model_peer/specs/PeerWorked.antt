-- Worked runs of the peer machine, with keys, subscribers and peers that are numbers.
use Rattle.std.specs.Prelude.{◌≡◌, ◌<◌, ℕ, ◌-◌, ◌^◌, true, false, not, ◌==◌, List, [], ◌∷◌, take, Option, None, Some, Result, Ok, Err}
use Rattle.std.specs.Ordering.{nat_cmp}
use Rattle.resolver_base.specs.declared.check.Check.TheVariants.{Clear, Until}
use Rattle.resolver_base.specs.declared.fault.Fault.{Fault}
use Rattle.resolver_base.specs.declared.fault.Fault.TheVariants.{Ended, Busy, Unasked, OutOfRange}
use Rattle.resolver_types.specs.declared.outcome.Outcome.TheVariants.{Resolved, Invalid}
use Rattle.resolver_types.specs.declared.outcome.Resolution.TheVariants.{Complete}
use Rattle.resolver_wire.specs.declared.wire.Message.{Message}
use Rattle.resolver_wire.specs.declared.wire.Payload.TheVariants as payloads
use Rattle.resolver_fetch_requests.specs.declared.requests.request.Request.{Request}
use Rattle.resolver_fetch_scan.specs.declared.scan.Answer.TheVariants.{Drawn, Checked, Sent}
use Rattle.resolver_fetch_scan.specs.declared.scan.Ask.TheVariants as asks
use Rattle.resolver_fetch_scan.specs.Waiting.{fresh_at, retry_at}
use Rattle.resolver_model.specs.Account.{Handed}
use Rattle.resolver_model_peer.specs.Parties.{Parties, parties}
use Rattle.resolver_model_peer.specs.declared.named.Source.{Source}
use Rattle.resolver_model_peer.specs.PeerRows.{Waits, Asked}
use Rattle.resolver_model_peer.specs.Peer.{Machine, Input, Effect, Happens, Answers, Fetch, Retain, PeerSet, Blocked, ActiveDue, PendingDue, Verdict, Served, Net, End, Ask, Deliver, Cancel, Produce, Reply, Credit, Block, opening, step, wake_up}

abbrev numbers : Parties ℕ ℕ ℕ
numbers = parties nat_cmp nat_cmp nat_cmp

-- inputs, and their moments
abbrev Run : Type 0
Run = List (ℕ × Input ℕ ℕ ℕ)

abbrev opens : Option ℕ → (timeout delay : ℕ) → Machine ℕ ℕ ℕ
opens local timeout delay = opening (record { me = local; fetch_timeout = timeout; retry_delay = delay; peer_limit = None; priority_requests = false }) false

abbrev and_so_on : (Machine ℕ ℕ ℕ → List (Result (List (Effect ℕ ℕ ℕ)) Fault)) → Result (List (Effect ℕ ℕ ℕ)) Fault × Machine ℕ ℕ ℕ → List (Result (List (Effect ℕ ℕ ℕ)) Fault)
and_so_on rest answer = answer.0 ∷ rest answer.1

abbrev answers : Machine ℕ ℕ ℕ → Run → List (Result (List (Effect ℕ ℕ ℕ)) Fault)
answers m [] = []
answers m (i ∷ is) = and_so_on (λ n. answers n is) (step numbers m i.0 i.1)

abbrev after : Machine ℕ ℕ ℕ → Run → Machine ℕ ℕ ℕ
after m [] = m
after m (i ∷ is) = after (step numbers m i.0 i.1).1 is

abbrev fetch : ℕ → ℕ → ℕ → Input ℕ ℕ ℕ
fetch key subscriber mark = Happens (Fetch (record { key = key; subscribers = (subscriber, mark) ∷ []; targets = None } ∷ []))

abbrev fetch_from : ℕ → ℕ → ℕ → List ℕ → Input ℕ ℕ ℕ
fetch_from key subscriber mark targets = Happens (Fetch (record { key = key; subscribers = (subscriber, mark) ∷ []; targets = Some targets } ∷ []))

abbrev keep_subscriber : ℕ → Input ℕ ℕ ℕ
keep_subscriber subscriber = Happens (Retain (λ k s. s == subscriber))

abbrev drop_key : ℕ → Input ℕ ℕ ℕ
drop_key key = Happens (Retain (λ k s. not (k == key)))

abbrev wants : (id key : ℕ) → Message ℕ
wants id key = record { id = id; payload = payloads.Request key }

abbrev has : (id : ℕ) → List ℕ → Message ℕ
has id value = record { id = id; payload = payloads.Response value }

abbrev misses : (id : ℕ) → Message ℕ
misses id = record { id = id; payload = payloads.Error }

abbrev handed : (response key : ℕ) → List (ℕ × ℕ) → Handed ℕ ℕ
handed response key subscribers = record { response = response; key = key; subscribers = subscribers }

abbrev source : (peer elapsed bytes : ℕ) → Source ℕ
source peer elapsed bytes = record { peer = peer; elapsed = elapsed; bytes = bytes }

-- the question whether a message is on its way
abbrev sends : (peer id key : ℕ) → Effect ℕ ℕ ℕ
sends peer id key = Ask (asks.Request peer id key false)

abbrev request_for : (key peer start deadline : ℕ) → Request ℕ ℕ
request_for key peer start deadline = record { key = key; peer = peer; start = start; deadline = deadline }

-- peer questions and refusals

abbrev peer_questions_and_refusals : Run
peer_questions_and_refusals =
    (0, Happens (PeerSet 1 (3 ∷ 4 ∷ 9 ∷ []))) ∷
    (0, fetch 1 10 7) ∷
    (0, Answers (Drawn 0)) ∷
    (0, Answers (Drawn 2)) ∷
    (0, Happens PendingDue) ∷
    (0, Answers (Sent true)) ∷
    (0, Answers (Drawn 1)) ∷
    (0, Answers (Checked Clear)) ∷
    (0, Answers (Drawn 1234)) ∷
    (0, Answers (Sent true)) ∷
    []

pub record PeerRefusals : Type 0 where
  pub answered : answers (opens (Some 9) 50 10) peer_questions_and_refusals ≡
      Ok [] ∷
      Ok (Ask (asks.Draw 4) ∷ []) ∷
      Ok (Ask (asks.Draw 2) ∷ []) ∷
      Err OutOfRange ∷
      Err Busy ∷
      Err Unasked ∷
      Ok (Ask (asks.Check 4) ∷ []) ∷
      Ok (Ask (asks.Draw (2 ^ 64)) ∷ []) ∷
      Ok (sends 4 1234 1 ∷ []) ∷
      Ok [] ∷
      []
  pub left : (after (opens (Some 9) 50 10) peer_questions_and_refusals).rows ≡ (1, record { subscribers = ((10, 7) ∷ []); targets = None; retries = 0; phase = Asked 1234 (request_for 1 4 0 50) }) ∷ []
  pub wakes : wake_up numbers (after (opens (Some 9) 50 10) peer_questions_and_refusals) ≡ None

-- accepted response is reused

abbrev accepted_response_is_reused : Run
accepted_response_is_reused =
    (0, Happens (PeerSet 1 (4 ∷ []))) ∷
    (0, fetch 1 10 7) ∷
    (0, Answers (Drawn 0)) ∷
    (0, Answers (Drawn 0)) ∷
    (0, Answers (Checked Clear)) ∷
    (0, Answers (Drawn 5)) ∷
    (0, Answers (Sent true)) ∷
    (20, Happens (Net 4 (Some (has 5 (104 ∷ 105 ∷ []))))) ∷
    (20, fetch 1 11 8) ∷
    (20, Happens (Verdict 0 (Some (Resolved Complete)))) ∷
    (20, Happens (Verdict 1 (Some Invalid))) ∷
    []

pub record LateSubscriber : Type 0 where
  pub answered : answers (opens (Some 9) 50 10) accepted_response_is_reused ≡
      Ok [] ∷
      Ok (Ask (asks.Draw 4) ∷ []) ∷
      Ok (Ask (asks.Draw 1) ∷ []) ∷
      Ok (Ask (asks.Check 4) ∷ []) ∷
      Ok (Ask (asks.Draw (2 ^ 64)) ∷ []) ∷
      Ok (sends 4 5 1 ∷ []) ∷
      Ok [] ∷
      Ok (Deliver 0 (handed 0 1 ((10, 7) ∷ [])) (104 ∷ 105 ∷ []) ∷ []) ∷
      Ok [] ∷
      Ok (Credit 0 (source 4 20 2) ∷ Deliver 1 (handed 0 1 ((11, 8) ∷ [])) (104 ∷ 105 ∷ []) ∷ []) ∷
      Ok [] ∷
      []
  pub left : (after (opens (Some 9) 50 10) accepted_response_is_reused).rows ≡ []
  pub wakes : wake_up numbers (after (opens (Some 9) 50 10) accepted_response_is_reused) ≡ None

-- dead verdict credits alone

abbrev dead_verdict_credits_alone : Run
dead_verdict_credits_alone =
    (0, Happens (PeerSet 1 (4 ∷ []))) ∷
    (0, fetch 1 10 7) ∷
    (0, Answers (Drawn 0)) ∷
    (0, Answers (Drawn 0)) ∷
    (0, Answers (Checked Clear)) ∷
    (0, Answers (Drawn 5)) ∷
    (0, Answers (Sent true)) ∷
    (20, Happens (Net 4 (Some (has 5 (104 ∷ 105 ∷ []))))) ∷
    (20, drop_key 1) ∷
    (20, fetch 1 12 9) ∷
    (20, Answers (Drawn 0)) ∷
    (20, Answers (Drawn 0)) ∷
    (20, Answers (Checked (Until 60))) ∷
    (20, Happens (Verdict 0 (Some (Resolved Complete)))) ∷
    []

pub record DroppedThenFetchedAgain : Type 0 where
  pub answered : answers (opens (Some 9) 50 10) dead_verdict_credits_alone ≡
      Ok [] ∷
      Ok (Ask (asks.Draw 4) ∷ []) ∷
      Ok (Ask (asks.Draw 1) ∷ []) ∷
      Ok (Ask (asks.Check 4) ∷ []) ∷
      Ok (Ask (asks.Draw (2 ^ 64)) ∷ []) ∷
      Ok (sends 4 5 1 ∷ []) ∷
      Ok [] ∷
      Ok (Deliver 0 (handed 0 1 ((10, 7) ∷ [])) (104 ∷ 105 ∷ []) ∷ []) ∷
      Ok (Cancel 0 ∷ []) ∷
      Ok (Ask (asks.Draw 4) ∷ []) ∷
      Ok (Ask (asks.Draw 1) ∷ []) ∷
      Ok (Ask (asks.Check 4) ∷ []) ∷
      Ok [] ∷
      Ok (Credit 0 (source 4 20 2) ∷ []) ∷
      []
  pub left : (after (opens (Some 9) 50 10) dead_verdict_credits_alone).rows ≡ (1, record { subscribers = ((12, 9) ∷ []); targets = None; retries = 0; phase = Waits (fresh_at 20) }) ∷ []
  pub wakes : wake_up numbers (after (opens (Some 9) 50 10) dead_verdict_credits_alone) ≡ Some 60

-- older complete retires named

abbrev older_complete_retires_named : Run
older_complete_retires_named =
    (0, Happens (PeerSet 1 (4 ∷ []))) ∷
    (0, fetch 1 10 7) ∷
    (0, Answers (Drawn 0)) ∷
    (0, Answers (Drawn 0)) ∷
    (0, Answers (Checked Clear)) ∷
    (0, Answers (Drawn 5)) ∷
    (0, Answers (Sent true)) ∷
    (0, fetch 1 11 8) ∷
    (20, Happens (Net 4 (Some (has 5 (104 ∷ 105 ∷ []))))) ∷
    (20, keep_subscriber 11) ∷
    (20, fetch 1 10 9) ∷
    (20, Happens (Verdict 0 (Some (Resolved Complete)))) ∷
    []

pub record PrunedThenFetchedAgain : Type 0 where
  pub answered : answers (opens (Some 9) 50 10) older_complete_retires_named ≡
      Ok [] ∷
      Ok (Ask (asks.Draw 4) ∷ []) ∷
      Ok (Ask (asks.Draw 1) ∷ []) ∷
      Ok (Ask (asks.Check 4) ∷ []) ∷
      Ok (Ask (asks.Draw (2 ^ 64)) ∷ []) ∷
      Ok (sends 4 5 1 ∷ []) ∷
      Ok [] ∷
      Ok [] ∷
      Ok (Deliver 0 (handed 0 1 ((10, 7) ∷ (11, 8) ∷ [])) (104 ∷ 105 ∷ []) ∷ []) ∷
      Ok [] ∷
      Ok [] ∷
      Ok (Credit 0 (source 4 20 2) ∷ []) ∷
      []
  pub left : (after (opens (Some 9) 50 10) older_complete_retires_named).rows ≡ []
  pub wakes : wake_up numbers (after (opens (Some 9) 50 10) older_complete_retires_named) ≡ None

-- uniform draws and limits

abbrev uniform_draws_and_limits : Run
uniform_draws_and_limits =
    (0, Happens (PeerSet 1 (3 ∷ 4 ∷ []))) ∷
    (0, fetch 1 10 7) ∷
    (0, Answers (Drawn 3)) ∷
    (0, Answers (Drawn 1)) ∷
    (0, Answers (Checked Clear)) ∷
    (0, Answers (Drawn 1234)) ∷
    (0, Answers (Sent true)) ∷
    (50, Happens ActiveDue) ∷
    (50, Answers (Drawn 4)) ∷
    (50, Answers (Drawn 0)) ∷
    (50, Answers (Checked (Until 70))) ∷
    (50, Answers (Drawn 0)) ∷
    (50, Answers (Drawn 0)) ∷
    (50, Answers (Checked (Until 60))) ∷
    []

pub record TimeoutAndLimits : Type 0 where
  pub answered : answers (opens (Some 9) 50 0) uniform_draws_and_limits ≡
      Ok [] ∷
      Ok (Ask (asks.Draw 4) ∷ []) ∷
      Ok (Ask (asks.Draw 2) ∷ []) ∷
      Ok (Ask (asks.Check 4) ∷ []) ∷
      Ok (Ask (asks.Draw (2 ^ 64)) ∷ []) ∷
      Ok (sends 4 1234 1 ∷ []) ∷
      Ok [] ∷
      Ok (Ask (asks.Draw 5) ∷ []) ∷
      Ok (Ask (asks.Draw 2) ∷ []) ∷
      Ok (Ask (asks.Check 3) ∷ []) ∷
      Ok (Ask (asks.Draw 5) ∷ []) ∷
      Ok (Ask (asks.Draw 1) ∷ []) ∷
      Ok (Ask (asks.Check 4) ∷ []) ∷
      Ok [] ∷
      []
  pub left : (after (opens (Some 9) 50 0) uniform_draws_and_limits).rows ≡ (1, record { subscribers = ((10, 7) ∷ []); targets = None; retries = 1; phase = Waits (retry_at 50) }) ∷ []
  pub wakes : wake_up numbers (after (opens (Some 9) 50 0) uniform_draws_and_limits) ≡ Some 60

-- blocked target and unblocking

abbrev blocked_target_and_unblocking : Run
blocked_target_and_unblocking =
    (0, Happens (PeerSet 1 (3 ∷ 4 ∷ []))) ∷
    (0, Happens (Blocked (3 ∷ []))) ∷
    (0, fetch_from 1 10 7 (3 ∷ [])) ∷
    (0, Happens (Blocked [])) ∷
    []

pub record BlockedTarget : Type 0 where
  pub answered : answers (opens (Some 9) 50 10) blocked_target_and_unblocking ≡
      Ok [] ∷
      Ok [] ∷
      Ok [] ∷
      Ok (Ask (asks.Draw 4) ∷ []) ∷
      []
  pub left : (after (opens (Some 9) 50 10) (take 3 blocked_target_and_unblocking)).rows ≡ (1, record { subscribers = ((10, 7) ∷ []); targets = Some (3 ∷ []); retries = 0; phase = Waits (fresh_at 0) }) ∷ []
  pub wakes : wake_up numbers (after (opens (Some 9) 50 10) (take 3 blocked_target_and_unblocking)) ≡ Some (2 ^ 128 - 1)

-- refused sends and wrapping id

abbrev refused_sends_and_wrapping_id : Run
refused_sends_and_wrapping_id =
    (0, Happens (PeerSet 1 (3 ∷ 4 ∷ []))) ∷
    (0, fetch 1 10 7) ∷
    (0, Answers (Drawn 0)) ∷
    (0, Answers (Drawn 0)) ∷
    (0, Answers (Checked Clear)) ∷
    (0, Answers (Drawn (2 ^ 64 - 1))) ∷
    (0, Answers (Sent false)) ∷
    (0, Answers (Drawn 0)) ∷
    (0, Answers (Drawn 0)) ∷
    (0, Answers (Checked Clear)) ∷
    (0, Answers (Sent false)) ∷
    []

pub record RefusedSends : Type 0 where
  pub answered : answers (opens None 50 10) refused_sends_and_wrapping_id ≡
      Ok [] ∷
      Ok (Ask (asks.Draw 4) ∷ []) ∷
      Ok (Ask (asks.Draw 2) ∷ []) ∷
      Ok (Ask (asks.Check 3) ∷ []) ∷
      Ok (Ask (asks.Draw (2 ^ 64)) ∷ []) ∷
      Ok (sends 3 (2 ^ 64 - 1) 1 ∷ []) ∷
      Ok (Ask (asks.Draw 4) ∷ []) ∷
      Ok (Ask (asks.Draw 1) ∷ []) ∷
      Ok (Ask (asks.Check 4) ∷ []) ∷
      Ok (sends 4 0 1 ∷ []) ∷
      Ok [] ∷
      []
  pub left : (after (opens None 50 10) refused_sends_and_wrapping_id).rows ≡ (1, record { subscribers = ((10, 7) ∷ []); targets = None; retries = 0; phase = Waits (fresh_at 0) }) ∷ []
  pub wakes : wake_up numbers (after (opens None 50 10) refused_sends_and_wrapping_id) ≡ Some 10

-- foreign and broken messages

abbrev foreign_and_broken_messages : Run
foreign_and_broken_messages =
    (0, Happens (PeerSet 1 (4 ∷ []))) ∷
    (0, fetch 1 10 7) ∷
    (0, Answers (Drawn 0)) ∷
    (0, Answers (Drawn 0)) ∷
    (0, Answers (Checked Clear)) ∷
    (0, Answers (Drawn 5)) ∷
    (0, Answers (Sent true)) ∷
    (20, Happens (Net 3 (Some (has 5 (104 ∷ 105 ∷ []))))) ∷
    (20, Happens (Net 4 None)) ∷
    (20, Happens (Net 4 (Some (misses 5)))) ∷
    []

pub record ForeignAndBrokenMessages : Type 0 where
  pub answered : answers (opens (Some 9) 50 10) foreign_and_broken_messages ≡
      Ok [] ∷
      Ok (Ask (asks.Draw 4) ∷ []) ∷
      Ok (Ask (asks.Draw 1) ∷ []) ∷
      Ok (Ask (asks.Check 4) ∷ []) ∷
      Ok (Ask (asks.Draw (2 ^ 64)) ∷ []) ∷
      Ok (sends 4 5 1 ∷ []) ∷
      Ok [] ∷
      Ok [] ∷
      Ok [] ∷
      Ok [] ∷
      []
  pub left : (after (opens (Some 9) 50 10) foreign_and_broken_messages).rows ≡ (1, record { subscribers = ((10, 7) ∷ []); targets = None; retries = 1; phase = Waits (retry_at 30) }) ∷ []
  pub wakes : wake_up numbers (after (opens (Some 9) 50 10) foreign_and_broken_messages) ≡ Some 30

-- serves and stop

abbrev serves_and_stop : Run
serves_and_stop =
    (0, Happens (Net 3 (Some (wants 7 123)))) ∷
    (0, Happens (Net 3 (Some (wants 8 5)))) ∷
    (0, Happens (Served 1 None)) ∷
    (0, Happens (Served 0 (Some (104 ∷ 105 ∷ [])))) ∷
    (0, Happens (Served 0 (Some (104 ∷ 105 ∷ [])))) ∷
    (0, Happens End) ∷
    (0, Happens (Net 3 None)) ∷
    []

pub record Serving : Type 0 where
  pub answered : answers (opens (Some 9) 50 10) serves_and_stop ≡
      Ok (Produce 0 123 ∷ []) ∷
      Ok (Produce 1 5 ∷ []) ∷
      Ok (Reply 3 (misses 8) false ∷ []) ∷
      Ok (Reply 3 (has 7 (104 ∷ 105 ∷ [])) false ∷ []) ∷
      Ok [] ∷
      Ok [] ∷
      Err Ended ∷
      []

-- invalid blocks and retries

abbrev invalid_blocks_and_retries : Run
invalid_blocks_and_retries =
    (0, Happens (PeerSet 1 (4 ∷ []))) ∷
    (0, fetch 1 10 7) ∷
    (0, Answers (Drawn 0)) ∷
    (0, Answers (Drawn 0)) ∷
    (0, Answers (Checked Clear)) ∷
    (0, Answers (Drawn 5)) ∷
    (0, Answers (Sent true)) ∷
    (20, Happens (Net 4 (Some (has 5 (104 ∷ 105 ∷ []))))) ∷
    (20, Happens (Verdict 0 (Some Invalid))) ∷
    []

pub record InvalidResponse : Type 0 where
  pub answered : answers (opens (Some 9) 50 10) invalid_blocks_and_retries ≡
      Ok [] ∷
      Ok (Ask (asks.Draw 4) ∷ []) ∷
      Ok (Ask (asks.Draw 1) ∷ []) ∷
      Ok (Ask (asks.Check 4) ∷ []) ∷
      Ok (Ask (asks.Draw (2 ^ 64)) ∷ []) ∷
      Ok (sends 4 5 1 ∷ []) ∷
      Ok [] ∷
      Ok (Deliver 0 (handed 0 1 ((10, 7) ∷ [])) (104 ∷ 105 ∷ []) ∷ []) ∷
      Ok (Block 0 4 ∷ []) ∷
      []
  pub left : (after (opens (Some 9) 50 10) invalid_blocks_and_retries).rows ≡ (1, record { subscribers = ((10, 7) ∷ []); targets = None; retries = 1; phase = Waits (retry_at 30) }) ∷ []
  pub wakes : wake_up numbers (after (opens (Some 9) 50 10) invalid_blocks_and_retries) ≡ Some 30

-- hostile late stale foreign

abbrev hostile_late_stale_foreign : Run
hostile_late_stale_foreign =
    (0, Happens (PeerSet 1 (4 ∷ []))) ∷
    (0, fetch 1 10 7) ∷
    (0, Answers (Drawn 0)) ∷
    (0, Answers (Drawn 0)) ∷
    (0, Answers (Checked Clear)) ∷
    (0, Answers (Drawn 5)) ∷
    (0, Answers (Sent true)) ∷
    (50, Happens ActiveDue) ∷
    (50, Happens (Net 4 (Some (has 5 (104 ∷ 105 ∷ []))))) ∷
    (60, Happens PendingDue) ∷
    (60, Answers (Drawn 0)) ∷
    (60, Answers (Drawn 0)) ∷
    (60, Answers (Checked Clear)) ∷
    (60, Answers (Sent true)) ∷
    (60, Happens (Net 4 (Some (has 5 (104 ∷ 105 ∷ []))))) ∷
    (60, Happens (Net 3 (Some (has 6 (104 ∷ 105 ∷ []))))) ∷
    (60, Happens (Net 4 None)) ∷
    (60, Happens (Net 4 None)) ∷
    (60, Happens (Net 4 None)) ∷
    (60, Happens (Net 4 (Some (has 6 (104 ∷ 105 ∷ []))))) ∷
    (60, Happens (Net 4 (Some (has 6 (104 ∷ 105 ∷ []))))) ∷
    []

pub record LateAndStaleResponses : Type 0 where
  pub answered : answers (opens (Some 9) 50 10) hostile_late_stale_foreign ≡
      Ok [] ∷
      Ok (Ask (asks.Draw 4) ∷ []) ∷
      Ok (Ask (asks.Draw 1) ∷ []) ∷
      Ok (Ask (asks.Check 4) ∷ []) ∷
      Ok (Ask (asks.Draw (2 ^ 64)) ∷ []) ∷
      Ok (sends 4 5 1 ∷ []) ∷
      Ok [] ∷
      Ok [] ∷
      Ok [] ∷
      Ok (Ask (asks.Draw 5) ∷ []) ∷
      Ok (Ask (asks.Draw 1) ∷ []) ∷
      Ok (Ask (asks.Check 4) ∷ []) ∷
      Ok (sends 4 6 1 ∷ []) ∷
      Ok [] ∷
      Ok [] ∷
      Ok [] ∷
      Ok [] ∷
      Ok [] ∷
      Ok [] ∷
      Ok (Deliver 0 (handed 0 1 ((10, 7) ∷ [])) (104 ∷ 105 ∷ []) ∷ []) ∷
      Ok [] ∷
      []
  pub left : (after (opens (Some 9) 50 10) (take 9 hostile_late_stale_foreign)).rows ≡ (1, record { subscribers = ((10, 7) ∷ []); targets = None; retries = 1; phase = Waits (retry_at 60) }) ∷ []
  pub wakes : wake_up numbers (after (opens (Some 9) 50 10) (take 9 hostile_late_stale_foreign)) ≡ Some 60

-- hostile dead verdicts

abbrev hostile_dead_verdicts : Run
hostile_dead_verdicts =
    (0, Happens (PeerSet 1 (4 ∷ []))) ∷
    (0, fetch 1 10 7) ∷
    (0, Answers (Drawn 0)) ∷
    (0, Answers (Drawn 0)) ∷
    (0, Answers (Checked Clear)) ∷
    (0, Answers (Drawn 5)) ∷
    (0, Answers (Sent true)) ∷
    (20, Happens (Net 4 (Some (has 5 (104 ∷ 105 ∷ []))))) ∷
    (20, drop_key 1) ∷
    (20, Happens (Verdict 0 (Some Invalid))) ∷
    (20, Happens (Verdict 0 (Some Invalid))) ∷
    (20, Happens (Verdict 7 (Some (Resolved Complete)))) ∷
    []

pub record VerdictsRepeated : Type 0 where
  pub answered : answers (opens (Some 9) 50 10) hostile_dead_verdicts ≡
      Ok [] ∷
      Ok (Ask (asks.Draw 4) ∷ []) ∷
      Ok (Ask (asks.Draw 1) ∷ []) ∷
      Ok (Ask (asks.Check 4) ∷ []) ∷
      Ok (Ask (asks.Draw (2 ^ 64)) ∷ []) ∷
      Ok (sends 4 5 1 ∷ []) ∷
      Ok [] ∷
      Ok (Deliver 0 (handed 0 1 ((10, 7) ∷ [])) (104 ∷ 105 ∷ []) ∷ []) ∷
      Ok (Cancel 0 ∷ []) ∷
      Ok (Block 0 4 ∷ []) ∷
      Ok [] ∷
      Ok [] ∷
      []
  pub left : (after (opens (Some 9) 50 10) hostile_dead_verdicts).rows ≡ []
  pub wakes : wake_up numbers (after (opens (Some 9) 50 10) hostile_dead_verdicts) ≡ None

-- A limit of one request to a peer

abbrev limited : 0 < 1 → Machine ℕ ℕ ℕ
limited some = opening (record { me = None; fetch_timeout = 50; retry_delay = 10; peer_limit = Some (record { value = 1; ok = some }); priority_requests = false }) false

-- the peer 4 is asked for the key 1, and is full
abbrev full : Run
full =
    (0, Happens (PeerSet 1 (4 ∷ []))) ∷
    (0, fetch 1 10 7) ∷
    (0, Answers (Drawn 0)) ∷
    (0, Answers (Drawn 0)) ∷
    (0, Answers (Checked Clear)) ∷
    (0, Answers (Drawn 5)) ∷
    (0, Answers (Sent true)) ∷
    []

-- a response frees its peer

abbrev limit_one_peer : Run
limit_one_peer =
    (20, Happens (Net 4 (Some (has 5 (104 ∷ 105 ∷ []))))) ∷
    (20, Answers (Drawn 0)) ∷
    (20, Answers (Drawn 0)) ∷
    (20, Answers (Checked Clear)) ∷
    (20, Answers (Sent true)) ∷
    (20, Happens (Verdict 0 (Some (Resolved Complete)))) ∷
    (20, fetch 3 10 9) ∷
    []

pub record LimitOnePeer : Type 0 where
  pub waits : (some : 0 < 1) → answers (after (limited some) full) ((0, fetch 2 10 8) ∷ []) ≡ Ok [] ∷ []
  pub rows : (some : 0 < 1) → (after (after (limited some) full) ((0, fetch 2 10 8) ∷ [])).rows ≡
      (1, record { subscribers = ((10, 7) ∷ []); targets = None; retries = 0; phase = Asked 5 (record { key = 1; peer = 4; start = 0; deadline = 50 }) }) ∷
      (2, record { subscribers = ((10, 8) ∷ []); targets = None; retries = 0; phase = Waits (fresh_at 0) }) ∷
      []
  pub wakes : (some : 0 < 1) → wake_up numbers (after (after (limited some) full) ((0, fetch 2 10 8) ∷ [])) ≡ Some (2 ^ 128 - 1)
  pub answered : (some : 0 < 1) → answers (after (after (limited some) full) ((0, fetch 2 10 8) ∷ [])) limit_one_peer ≡
      Ok (Deliver 0 (handed 0 1 ((10, 7) ∷ [])) (104 ∷ 105 ∷ []) ∷ Ask (asks.Draw 4) ∷ []) ∷
      Ok (Ask (asks.Draw 1) ∷ []) ∷
      Ok (Ask (asks.Check 4) ∷ []) ∷
      Ok (sends 4 6 2 ∷ []) ∷
      Ok [] ∷
      Ok (Credit 0 (source 4 20 2) ∷ []) ∷
      Ok [] ∷
      []

-- the end of its time frees a peer

abbrev limit_timeout : Run
limit_timeout =
    (0, fetch 2 10 8) ∷
    (50, Happens ActiveDue) ∷
    (50, Answers (Drawn 0)) ∷
    (50, Answers (Drawn 0)) ∷
    (50, Answers (Checked Clear)) ∷
    []

pub record LimitTimeout : Type 0 where
  pub answered : (some : 0 < 1) → answers (after (limited some) full) limit_timeout ≡
      Ok [] ∷
      Ok (Ask (asks.Draw 4) ∷ []) ∷
      Ok (Ask (asks.Draw 1) ∷ []) ∷
      Ok (Ask (asks.Check 4) ∷ []) ∷
      Ok (sends 4 6 2 ∷ []) ∷
      []

-- a peer that leaves and comes back is as full as before

abbrev limit_peer_returns : Run
limit_peer_returns = (0, Happens (PeerSet 2 (3 ∷ []))) ∷ (0, Happens (PeerSet 3 (4 ∷ []))) ∷ (0, fetch 2 10 8) ∷ []

pub record LimitPeerReturns : Type 0 where
  pub answered : (some : 0 < 1) → answers (after (limited some) full) limit_peer_returns ≡ Ok [] ∷ Ok [] ∷ Ok [] ∷ []
