-- Worked runs of the peer machine: the pairs that its rows have, and the demand of what it took.
use Rattle.std.specs.Prelude.{◌≡◌, ℕ, not, ◌==◌, true, false, List, [], ◌∷◌, ◌++◌, Option, None, Some}
use Rattle.std.specs.Ordering.{nat_cmp}
use Rattle.resolver_base.specs.declared.check.Check.TheVariants.{Clear}
use Rattle.resolver_types.specs.declared.outcome.Outcome.{Outcome}
use Rattle.resolver_types.specs.declared.outcome.Outcome.TheVariants.{Resolved, Invalid, Ignored, Unresolved}
use Rattle.resolver_types.specs.declared.outcome.Resolution.TheVariants.{Complete}
use Rattle.resolver_types.specs.Demand.{Pair, all_pairs_of}
use Rattle.resolver_wire.specs.declared.wire.Payload.TheVariants as payloads
use Rattle.resolver_fetch_scan.specs.declared.scan.Answer.TheVariants.{Drawn, Checked, Sent}
use Rattle.resolver_model.specs.Account.{pairs, nothing_asked, account_of}
use Rattle.resolver_model_peer.specs.Parties.{Parties, parties, names_of}
use Rattle.resolver_model_peer.specs.Peer.{Machine, Event, Happens, Answers, Fetch, Retain, PeerSet, ActiveDue, PendingDue, Verdict, Net, End, opening}
use Rattle.resolver_model_peer.specs.PeerRun.{Fed, answers, after, demanded}
use Rattle.resolver_model_peer.specs.PeerSteps.{takes_no_memory}
use Rattle.resolver_model_peer.specs.PeerLaws.{taken}

abbrev numbers : Parties ℕ ℕ ℕ
numbers = parties nat_cmp nat_cmp nat_cmp

abbrev opened : Machine ℕ ℕ ℕ
opened = opening (record { me = Some 9; fetch_timeout = 50; retry_delay = 10; peer_limit = None; priority_requests = false }) false

abbrev at : ℕ → Event ℕ ℕ ℕ → Fed ℕ ℕ ℕ
at now event = record { now = now; input = Happens event }

abbrev fetch : (key subscriber mark : ℕ) → Event ℕ ℕ ℕ
fetch key subscriber mark = Fetch (record { key = key; subscribers = (subscriber, mark) ∷ []; targets = None } ∷ [])

-- the key 1 is asked for of the peer 4
abbrev asked : List (Fed ℕ ℕ ℕ)
asked =
    at 0 (PeerSet 1 (4 ∷ [])) ∷ at 0 (fetch 1 10 7) ∷
    record { now = 0; input = Answers (Drawn 0) } ∷
    record { now = 0; input = Answers (Drawn 0) } ∷
    record { now = 0; input = Answers (Checked Clear) } ∷
    record { now = 0; input = Answers (Drawn 5) } ∷
    record { now = 0; input = Answers (Sent true) } ∷ []

-- its response
abbrev response : List (Fed ℕ ℕ ℕ)
response = at 20 (Net 4 (Some (record { id = 5; payload = payloads.Response (0x68 ∷ 0x69 ∷ []) }))) ∷ []

abbrev verdict : ℕ → Option Outcome → List (Fed ℕ ℕ ℕ)
verdict number outcome = at 20 (Verdict number outcome) ∷ []

abbrev pair : (key subscriber mark : ℕ) → Pair ℕ ℕ
pair key subscriber mark = record { key = key; subscriber = subscriber; mark = mark }

-- the pairs that the rows have after a run, and the demand of it
pub record Shows (inputs : List (Fed ℕ ℕ ℕ)) (wanted : List (Pair ℕ ℕ)) : Type 0 where
  pub rows : all_pairs_of (demanded (after numbers opened inputs).rows) ≡ wanted
  pub demand : (account_of (pairs (names_of numbers)) (nothing_asked (pairs (names_of numbers))) (taken inputs (answers numbers opened inputs))).demand ≡ wanted

-- a subscriber that comes while a response is judged: a Complete leaves it, and its Invalid conflicts then
abbrev late : List (Fed ℕ ℕ ℕ)
late = asked ++ response ++ (at 20 (fetch 1 11 8) ∷ []) ++ verdict 0 (Some (Resolved Complete))

-- a key that was dropped and is fetched again
abbrev dropped : List (Fed ℕ ℕ ℕ)
dropped = asked ++ response ++ (at 20 (Retain (λ k s. not (k == 1))) ∷ at 20 (PeerSet 2 []) ∷ at 20 (fetch 1 12 9) ∷ [])

pub record PeerDemand : Type 0 where
  pub begun : Shows (asked ++ response) (pair 1 10 7 ∷ [])
  pub served : Shows (asked ++ response ++ verdict 0 (Some (Resolved Complete))) []
  pub gone : Shows (asked ++ response ++ verdict 0 None) []
  pub ignored : Shows (asked ++ response ++ (at 20 (fetch 1 11 8) ∷ []) ++ verdict 0 (Some Ignored)) []
  pub invalid : Shows (asked ++ response ++ verdict 0 (Some Invalid)) (pair 1 10 7 ∷ [])
  pub timed_out : Shows (asked ++ at 50 ActiveDue ∷ []) (pair 1 10 7 ∷ [])
  pub late_stays : Shows late (pair 1 11 8 ∷ [])
  pub late_conflicts : Shows (late ++ verdict 1 (Some Invalid)) []
  pub late_waits : Shows (late ++ verdict 1 (Some Unresolved)) (pair 1 11 8 ∷ [])
  pub dropped_stays : Shows (dropped ++ verdict 0 (Some (Resolved Complete))) (pair 1 12 9 ∷ [])
  pub dropped_ignored : Shows (dropped ++ verdict 0 (Some Ignored)) (pair 1 12 9 ∷ [])
  pub ended : Shows (asked ++ response ++ at 20 End ∷ []) []
  -- where memory may not be wanting
  pub calm : takes_no_memory numbers (after numbers opened asked) 20 (Happens PendingDue) ≡ true
  pub unknown : takes_no_memory numbers (after numbers opened asked) 20 (Happens (Verdict 3 None)) ≡ true
  pub begins : takes_no_memory numbers (after numbers opened (asked ++ at 50 ActiveDue ∷ at 50 (PeerSet 2 (3 ∷ [])) ∷ [])) 60 (Happens PendingDue) ≡ false
