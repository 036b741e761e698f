-- What single inputs of a peer machine do, and what they don't.
use Rattle.std.specs.Prelude.{◌≡◌, ◌≢◌, ◌≤◌, ◌<◌, ◌^◌, ℕ, Bool, true, false, ◌&&◌, ◌==◌, List, [], ◌∷◌, ◌++◌, Option, None, Some, Result, Ok, filter, length, map}
use Rattle.std.specs.Map.{lookup}
use Rattle.std.specs.BTreeMap.{is_at}
use Rattle.std.specs.Ordering.{nat_cmp}
use Rattle.resolver_base.specs.declared.fault.Fault.{Fault}
use Rattle.resolver_types.specs.declared.outcome.Outcome.{Outcome}
use Rattle.resolver_types.specs.Demand.{Pair}
use Rattle.resolver_fetch_requests.specs.declared.requests.request.Request.{Request}
use Rattle.resolver_wire.specs.declared.wire.Payload.TheVariants as payloads
use Rattle.resolver_sampling.specs.Times.{never}
use Rattle.resolver_fetch_scan.specs.declared.config.Config.{Config}
use Rattle.resolver_fetch_scan.specs.declared.scan.Answer.{Answer}
use Rattle.resolver_fetch_scan.specs.Scan.{is_over}
use Rattle.resolver_fetch_scan.specs.FetcherLaws.{AllAre, IsLaterLimit}
use Rattle.resolver_fetch_scan.specs.TrailLaws.{is_accepted}
use Rattle.resolver_model.specs.Account.{Account, Handed, Watched, account_of, conflicts, nothing_asked, pairs}
use Rattle.resolver_model_peer.specs.declared.named.Serve.{Serve}
use Rattle.resolver_model_peer.specs.Parties.{Parties, names_of}
use Rattle.resolver_model_peer.specs.PeerLaws.{AllLawful, taken}
use Rattle.resolver_model_peer.specs.PeerRows.{Row, Phase, Judged}
use Rattle.resolver_model_peer.specs.PeerRun.{Fed, effects_of}
use Rattle.resolver_model_peer.specs.PeerStanding.{standing_of}
use Rattle.resolver_model_peer.specs.PeerSteps.{Runs, is_passed_over}
use Rattle.resolver_model.specs.declared.status.Status.{Status}
use Rattle.resolver_model.specs.declared.status.Status.TheVariants.{Running, Failed}
use Rattle.resolver_model_peer.specs.Peer.{Machine, Open, Effect, Ask, Deliver, Cancel, Produce, Reply, Credit, Block, Event, PendingDue, Verdict, Served, Net, Input, Happens, Answers, answered, opening, payload_of, row_of, step}

abbrev pub is_running : Status → Bool
is_running Running = true
is_running status = false

-- whether a key is judged under this number
abbrev pub is_judged_as : {K P : Type 0} → (number : ℕ) → Phase K P → Bool
is_judged_as number (Judged j) = number == j.number
is_judged_as number phase = false

module _ {K S P : Type 0} where
  abbrev pub is_reply : Effect K S P → Bool
  is_reply (Reply peer message priority) = true
  is_reply (Ask question) = false
  is_reply (Deliver number handed value) = false
  is_reply (Cancel number) = false
  is_reply (Produce serve key) = false
  is_reply (Credit response source) = false
  is_reply (Block response peer) = false

  abbrev pub is_delivery : Effect K S P → Bool
  is_delivery (Deliver number handed value) = true
  is_delivery (Ask question) = false
  is_delivery (Cancel number) = false
  is_delivery (Produce serve key) = false
  is_delivery (Reply peer message priority) = false
  is_delivery (Credit response source) = false
  is_delivery (Block response peer) = false

  -- a credit or a block
  abbrev pub is_payment : Effect K S P → Bool
  is_payment (Credit response source) = true
  is_payment (Block response peer) = true
  is_payment (Ask question) = false
  is_payment (Deliver number handed value) = false
  is_payment (Cancel number) = false
  is_payment (Produce serve key) = false
  is_payment (Reply peer message priority) = false

  -- whether events are taken: it runs, and no scan expects an answer
  abbrev pub takes_events : Machine K S P → Bool
  takes_events m = is_running m.status && is_over m.scan

  -- what bytes, or the want of them, are to whoever asked for them by a serve that is open
  abbrev pub replies_as : Machine K S P → Option (List ℕ) → Option (Serve P) → List (Effect K S P)
  replies_as m bytes None = []
  replies_as m bytes (Some s) = Reply s.peer (record { id = s.id; payload = payload_of bytes }) m.priority_responses ∷ []

  abbrev pub replies_if : (takes : Bool) → Machine K S P → Input K S P → List (Effect K S P)
  replies_if true m (Happens (Served serve bytes)) = replies_as m bytes (lookup (λ n. serve == n) m.serves)
  replies_if takes m input = []

  -- the replies that are due at an input
  abbrev pub replies_to : Machine K S P → Input K S P → List (Effect K S P)
  replies_to m input = replies_if (takes_events m) m input

  abbrev pub row_judged_as : (number : ℕ) → Option (Row K S P) → Bool
  row_judged_as number None = false
  row_judged_as number (Some row) = is_judged_as number row.phase

module _ {K S P : Type 0} (a : Parties K S P) where
  -- A Served of an open serve gives one reply in that step, to the peer and under the id of its request: the bytes, or that they are missed. No other input gives a reply.
  abbrev pub RepliesOnce : Type 0
  RepliesOnce = (m : Machine K S P) (now : ℕ) (input : Input K S P) → filter is_reply (effects_of (step a m now input).0) ≡ replies_to m input

  -- What is passed over changes nothing by itself: the step is the same as at a wake-up. So it is with a response or an error that answers no request, and with bytes that are no message.
  abbrev pub PassedOverPass : Type 0
  PassedOverPass = (m : Machine K S P) (now : ℕ) (event : Event K S P) → is_passed_over a m now event ≡ true
      → step a m now (Happens event) ≡ step a m now (Happens PendingDue)

  abbrev pub is_live_as : Machine K S P → (number : ℕ) → Option (Open K S P) → Bool
  is_live_as m number None = false
  is_live_as m number (Some h) = row_judged_as number (row_of a m h.handed.key)

  -- whether a number is open, and its key is judged under it
  abbrev pub is_live : Machine K S P → (number : ℕ) → Bool
  is_live m number = is_live_as m number (lookup (λ n. number == n) m.deliveries)

  -- A verdict that is not live retires no pair, changes no phase and hands out nothing. It gives at most one credit or block.
  abbrev pub DeadVerdictsPass : Type 0
  DeadVerdictsPass = (m : Machine K S P) (now number : ℕ) (outcome : Option Outcome) → is_live m number ≡ false
      → let answer = step a m now (Happens (Verdict number outcome)) in
      (answer.1.rows ≡ m.rows) × (filter is_delivery (effects_of answer.0) ≡ []) × (length (filter is_payment (effects_of answer.0)) ≤ 1)

  -- A response that answers a request is delivered in that step, to exactly the subscribers that its key has, in order.
  abbrev pub ResponsesAreDelivered : Type 0
  ResponsesAreDelivered = (m : Machine K S P) (now : ℕ) (peer : P) (id : ℕ) (value : List ℕ) (r : Request K P) (row : Row K S P)
      → takes_events m ≡ true → answered a m peer id ≡ Some r → row_of a m r.key ≡ Some row → m.next_delivery < 2 ^ 64
      → filter is_delivery (effects_of (step a m now (Happens (Net peer (Some (record { id = id; payload = payloads.Response value }))))).0)
      ≡ Deliver m.next_delivery (record { response = m.next_delivery; key = r.key; subscribers = row.subscribers }) value ∷ []

module _ {K S P : Type 0} where
  -- the serves that an input gave a reply to
  abbrev pub served_at : Input K S P → List (Effect K S P) → List ℕ
  served_at (Happens (Served serve bytes)) effects = map (λ reply. serve) (filter is_reply effects)
  served_at input effects = []

  -- the serves that were replied to, in order
  abbrev pub all_served : List (Fed K S P) → List (Result (List (Effect K S P)) Fault) → List ℕ
  all_served (fed ∷ inputs) (answer ∷ answers) = served_at fed.input (effects_of answer) ++ all_served inputs answers
  all_served inputs answers = []

-- In a run from the opening state no serve is replied to twice, also where the run failed.
abbrev pub NoSecondReply : {K S P : Type 0} → Parties K S P → Type 0
NoSecondReply {K} {S} {P} a =
    (old : Machine K S P) (inputs : List (Fed K S P)) (answers : List (Result (List (Effect K S P)) Fault)) (new : Machine K S P)
    → Runs a old inputs answers new → (configuration : Config P) (priority_responses : Bool) → old ≡ opening configuration priority_responses
    → (serve : ℕ) → length (filter (λ n. serve == n) (all_served inputs answers)) ≤ 1

module _ {K S : Type 0} where
  -- what is handed out and open by an account
  abbrev pub handed_in : List (ℕ × Watched K S) → List (ℕ × Handed K S)
  handed_in deliveries = map (λ w. (w.0, w.1.handed)) deliveries

  abbrev pub is_watched_live : Option (Watched K S) → Bool
  is_watched_live None = false
  is_watched_live (Some w) = w.live

module _ {K S P : Type 0} (a : Parties K S P) where
  -- The machine's table of open deliveries means what the account of a run does: the same numbers are open, a number is live to the machine where it is live by the account, and a response was accepted where the account has a Complete for it.
  pub record JudgesBy (m : Machine K S P) (c : Account K S (List (Pair K S))) : Type 0 where
    pub handed : (standing_of m).deliveries ≡ handed_in c.deliveries
    pub live : (number : ℕ) → is_live a m number ≡ is_watched_live (lookup (is_at (nat_cmp number)) c.deliveries)
    pub accepted : (number : ℕ) (h : Open K S P) → lookup (λ n. number == n) m.deliveries ≡ Some h → h.accepted ≡ conflicts c.completed h.handed

  -- So it is after each run of lawful inputs from the opening state that did not fail, by the inputs taken and what they handed out alone.
  abbrev pub JudgesByTheRun : Type 0
  JudgesByTheRun =
      (old : Machine K S P) (inputs : List (Fed K S P)) (answers : List (Result (List (Effect K S P)) Fault)) (new : Machine K S P)
      → AllLawful a inputs → Runs a old inputs answers new → (configuration : Config P) (priority_responses : Bool) → old ≡ opening configuration priority_responses → new.status ≢ Failed
      → JudgesBy new (account_of (pairs (names_of a)) (nothing_asked (pairs (names_of a))) (taken inputs answers))

module _ {K S P : Type 0} (a : Parties K S P) where
  -- a wake-up at this moment begins no scan
  abbrev pub RestsAt : Machine K S P → (now : ℕ) → Type 0
  RestsAt m now = step a m now (Happens PendingDue) ≡ (Ok [], record m { moment = now })

  -- No event leaves a scan to begin at its moment. Nor does a scan that ended without an accepted request and met no limit at or before its moment.
  pub record RestsAfterScans : Type 0 where
    pub after_event : (m new : Machine K S P) (now : ℕ) (event : Event K S P) (effects : List (Effect K S P)) → step a m now (Happens event) ≡ (Ok effects, new)
        → new.status ≡ Running → is_over new.scan ≡ true → 0 < new.configuration.retry_delay → now < never → RestsAt new now
    pub after_answer : (m new : Machine K S P) (now : ℕ) (answer : Answer) (effects : List (Effect K S P)) → step a m now (Answers answer) ≡ (Ok effects, new)
        → is_over new.scan ≡ true → is_accepted answer ≡ false → 0 < new.configuration.retry_delay → new.scan.moment < never
        → AllAre (λ t. IsLaterLimit new.scan.moment t.reason) new.scan.trail → RestsAt new new.scan.moment
