-- Worked runs of the opaque machine, with keys, subscribers and values that are numbers or lists of numbers.
use Rattle.std.specs.Prelude.{◌≡◌, ℕ, not, ◌==◌, List, [], ◌∷◌, Option, None, Some, Result, Ok, Err}
use Rattle.std.specs.Ordering.{nat_cmp}
use Rattle.resolver_base.specs.declared.fault.Fault.{Fault}
use Rattle.resolver_base.specs.declared.fault.Fault.TheVariants as faults
use Rattle.resolver_types.specs.declared.outcome.Outcome.{Outcome}
use Rattle.resolver_types.specs.declared.outcome.Outcome.TheVariants.{Invalid, Resolved, Unresolved, Ignored}
use Rattle.resolver_types.specs.declared.outcome.Resolution.TheVariants.{Complete, Partial}
use Rattle.resolver_types.specs.Names.{Names, names}
use Rattle.resolver_types.specs.Demand.{Pair}
use Rattle.resolver_model_opaque.specs.declared.effects.Effect.{Effect}
use Rattle.resolver_model_opaque.specs.declared.effects.Effect.TheVariants.{Start, Abort, Deliver, Cancel}
use Rattle.resolver_model.specs.Account.{pairs, nothing_asked, account_of}
use Rattle.resolver_model_opaque.specs.Opaque.{Machine, Row, Event, Fetch, Retain, Fetched, Verdict, RetriesDue, End, opening, step, next_retry}
use Rattle.resolver_model_opaque.specs.OpaquePhases.{Asked, Waiting}
use Rattle.resolver_model_opaque.specs.OpaqueSteps.{Input}
use Rattle.resolver_model_opaque.specs.OpaqueLaws.{taken}

abbrev numbers : Names ℕ ℕ
numbers = names nat_cmp nat_cmp

abbrev Value : Type 0
Value = List ℕ

abbrev pub Answer : Type 0
Answer = Result (List (Effect ℕ Value ℕ)) Fault

abbrev pub answers : Machine ℕ Value ℕ → List (Input ℕ Value ℕ) → List Answer
answers m [] = []
answers m (i ∷ is) = (step numbers m i.now i.event).0 ∷ answers (step numbers m i.now i.event).1 is

abbrev pub after : Machine ℕ Value ℕ → List (Input ℕ Value ℕ) → Machine ℕ Value ℕ
after m [] = m
after m (i ∷ is) = after (step numbers m i.now i.event).1 is

-- what a run with the delay 100 answers, and what it leaves: rows, the next retry, and the demand
pub record Shows (inputs : List (Input ℕ Value ℕ)) (told : List Answer) (rows : List (ℕ × Row Value ℕ)) (wake : Option ℕ) (demand : List (Pair ℕ ℕ)) : Type 0 where
  pub answered : answers (opening 100) inputs ≡ told
  pub left : (after (opening 100) inputs).rows ≡ rows
  pub next : next_retry (after (opening 100) inputs).rows ≡ wake
  pub wanted : (account_of (pairs numbers) (nothing_asked (pairs numbers)) (taken inputs (answers (opening 100) inputs))).demand ≡ demand

abbrev at : ℕ → Event ℕ Value ℕ → Input ℕ Value ℕ
at now event = record { now = now; event = event }

abbrev fetch : (key subscriber mark : ℕ) → Event ℕ Value ℕ
fetch key subscriber mark = Fetch (record { key = key; subscribers = (subscriber, mark) ∷ [] } ∷ [])

abbrev start : (attempt key : ℕ) → Effect ℕ Value ℕ
start attempt key = Start attempt key

abbrev deliver : (number response key : ℕ) → List (ℕ × ℕ) → Effect ℕ Value ℕ
deliver number response key subscribers = Deliver number response (record { key = key; subscribers = subscribers }) (0x68 ∷ 0x69 ∷ [])

abbrev hi : Option Value
hi = Some (0x68 ∷ 0x69 ∷ [])

abbrev complete : Option Outcome
complete = Some (Resolved Complete)

abbrev pair : (key subscriber mark : ℕ) → Pair ℕ ℕ
pair key subscriber mark = record { key = key; subscriber = subscriber; mark = mark }

-- a fetch, its value, and a Complete
abbrev pub OpaqueFirstRun : Type 0
OpaqueFirstRun =
    Shows (at 0 (fetch 1 10 7) ∷ at 0 (Fetched 0 hi) ∷ at 0 (Verdict 0 complete) ∷ [])
    (Ok (start 0 1 ∷ []) ∷ Ok (deliver 0 0 1 ((10, 7) ∷ []) ∷ []) ∷ Ok [] ∷ [])
    [] None []

-- a source without a value: the key waits
abbrev waits : List (Input ℕ Value ℕ)
waits = at 0 (fetch 1 10 7) ∷ at 0 (Fetched 0 None) ∷ []

abbrev pub OpaqueWaits : Type 0
OpaqueWaits =
    Shows waits (Ok (start 0 1 ∷ []) ∷ Ok [] ∷ [])
    ((1, record { subscribers = (10, 7) ∷ []; phase = Waiting 100 }) ∷ []) (Some 100) (pair 1 10 7 ∷ [])

-- it is asked for again when it is due, an old attempt is passed over, and the mark stays
abbrev pub OpaqueRetry : Type 0
OpaqueRetry =
    Shows (at 0 (fetch 1 10 7) ∷ at 0 (Fetched 0 None) ∷ at 99 RetriesDue ∷ at 100 RetriesDue ∷ at 100 (Fetched 0 (Some (0xaa ∷ []))) ∷ at 100 (fetch 1 10 9) ∷ [])
    (Ok (start 0 1 ∷ []) ∷ Ok [] ∷ Ok [] ∷ Ok (start 1 1 ∷ []) ∷ Ok [] ∷ Ok [] ∷ [])
    ((1, record { subscribers = (10, 7) ∷ []; phase = Asked 1 }) ∷ []) None (pair 1 10 7 ∷ [])

-- a subscriber that comes while the response is judged gets the same response, and its Invalid conflicts with the Complete before
abbrev pub LateSubscriber : Type 0
LateSubscriber =
    Shows (at 0 (fetch 1 10 7) ∷ at 0 (Fetched 0 hi) ∷ at 0 (fetch 1 11 8) ∷ at 0 (Verdict 0 complete) ∷ at 0 (Verdict 1 (Some Invalid)) ∷ [])
    (Ok (start 0 1 ∷ []) ∷ Ok (deliver 0 0 1 ((10, 7) ∷ []) ∷ []) ∷ Ok [] ∷ Ok (deliver 1 0 1 ((11, 8) ∷ []) ∷ []) ∷ Ok [] ∷ [])
    [] None []

-- a verdict that is not live retires no pair
abbrev pub DroppedThenFetchedAgain : Type 0
DroppedThenFetchedAgain =
    Shows (at 0 (fetch 1 10 7) ∷ at 0 (Fetched 0 hi) ∷ at 0 (Retain (λ k s. not (k == 1))) ∷ at 0 (fetch 1 12 9) ∷ at 0 (Verdict 0 complete) ∷ [])
    (Ok (start 0 1 ∷ []) ∷ Ok (deliver 0 0 1 ((10, 7) ∷ []) ∷ []) ∷ Ok (Cancel 0 ∷ []) ∷ Ok (start 1 1 ∷ []) ∷ Ok [] ∷ [])
    ((1, record { subscribers = (12, 9) ∷ []; phase = Asked 1 }) ∷ []) None (pair 1 12 9 ∷ [])

-- a subscriber that was pruned and came again is retired by the older Complete, which names it
abbrev pub PrunedThenFetchedAgain : Type 0
PrunedThenFetchedAgain =
    Shows (at 0 (fetch 1 10 7) ∷ at 0 (fetch 1 11 8) ∷ at 0 (Fetched 0 hi) ∷ at 0 (Retain (λ k s. s == 11)) ∷ at 0 (fetch 1 10 9) ∷ at 0 (Verdict 0 complete) ∷ [])
    (Ok (start 0 1 ∷ []) ∷ Ok [] ∷ Ok (deliver 0 0 1 ((10, 7) ∷ (11, 8) ∷ []) ∷ []) ∷ Ok [] ∷ Ok [] ∷ Ok [] ∷ [])
    [] None []

-- each outcome on a delivery whose named subscribers are all there is: the key waits, or is retired
abbrev pub judged : Option Outcome → List (Input ℕ Value ℕ)
judged outcome = at 0 (fetch 1 10 7) ∷ at 0 (Fetched 0 hi) ∷ at 5 (Verdict 0 outcome) ∷ []

abbrev judged_answers : List Answer
judged_answers = Ok (start 0 1 ∷ []) ∷ Ok (deliver 0 0 1 ((10, 7) ∷ []) ∷ []) ∷ Ok [] ∷ []

abbrev Retries : Option Outcome → Type 0
Retries outcome = Shows (judged outcome) judged_answers ((1, record { subscribers = (10, 7) ∷ []; phase = Waiting 105 }) ∷ []) (Some 105) (pair 1 10 7 ∷ [])

abbrev Retires : Option Outcome → Type 0
Retires outcome = Shows (judged outcome) judged_answers [] None []

abbrev pub Outcomes : Type 0
Outcomes =
    Retires complete × Retires None × Retires (Some Ignored) × Retries (Some (Resolved Partial)) × Retries (Some Unresolved) × Retries (Some Invalid)

-- an end calls off what was asked and what was judged, by key, and nothing is taken after it
abbrev pub Ends : Type 0
Ends =
    Shows (at 0 (fetch 2 20 0) ∷ at 0 (fetch 1 10 0) ∷ at 0 (Fetched 0 hi) ∷ at 0 End ∷ at 0 (fetch 3 30 0) ∷ [])
    (Ok (start 0 2 ∷ []) ∷ Ok (start 1 1 ∷ []) ∷ Ok (deliver 0 0 2 ((20, 0) ∷ []) ∷ []) ∷ Ok (Abort 1 ∷ Cancel 0 ∷ []) ∷ Err faults.Ended ∷ [])
    [] None []
