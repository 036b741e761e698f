-- Runs of the peer machine: what it answers, what was taken, and what it came to.
use Rattle.std.specs.Prelude.{ℕ, ◌++◌, List, [], ◌∷◌, Option, None, Some, Result, Ok, Err, filter_map, map}
use Rattle.resolver_base.specs.declared.fault.Fault.{Fault}
use Rattle.resolver_types.specs.Demand.{Pair}
use Rattle.resolver_model.specs.Account.{Handed, Change, Adds, Keeps, Judges, Empties, Leaves, pairs, account_of, nothing_asked}
use Rattle.resolver_model_peer.specs.Parties.{Parties, names_of}
use Rattle.resolver_model_peer.specs.PeerRows.{Row}
use Rattle.resolver_model_peer.specs.Peer.{Machine, Fetch, Retain, PeerSet, Blocked, ActiveDue, PendingDue, Verdict, Served, Net, End, Input, Happens, Answers, Effect, Ask, Deliver, Cancel, Produce, Reply, Credit, Block, step}

-- an input, and its moment
pub record Fed (K S P : Type 0) : Type 0 where
  pub now : ℕ
  pub input : Input K S P

module _ {K S P : Type 0} where
  -- the effects of an answer
  abbrev pub effects_of : Result (List (Effect K S P)) Fault → List (Effect K S P)
  effects_of (Ok effects) = effects
  effects_of (Err fault) = []

  abbrev pub all_effects : List (Result (List (Effect K S P)) Fault) → List (Effect K S P)
  all_effects [] = []
  all_effects (a ∷ answers) = effects_of a ++ all_effects answers

  -- what an input says of the demand
  abbrev pub change_of : Input K S P → Change K S
  change_of (Happens (Fetch items)) = Adds (map (λ item. (item.key, item.subscribers)) items)
  change_of (Happens (Retain keep)) = Keeps keep
  change_of (Happens (Verdict number outcome)) = Judges number outcome
  change_of (Happens End) = Empties
  change_of (Happens (PeerSet index peers)) = Leaves
  change_of (Happens (Blocked peers)) = Leaves
  change_of (Happens ActiveDue) = Leaves
  change_of (Happens PendingDue) = Leaves
  change_of (Happens (Served serve bytes)) = Leaves
  change_of (Happens (Net peer message)) = Leaves
  change_of (Answers answer) = Leaves

  abbrev pub delivery_in : Effect K S P → Option (ℕ × Handed K S)
  delivery_in (Deliver number handed value) = Some (number, handed)
  delivery_in (Ask question) = None
  delivery_in (Cancel number) = None
  delivery_in (Produce serve key) = None
  delivery_in (Reply peer message priority) = None
  delivery_in (Credit response source) = None
  delivery_in (Block response peer) = None

  -- an input that was refused is not taken
  abbrev pub taken_if : Input K S P → Result (List (Effect K S P)) Fault → List (Change K S × List (ℕ × Handed K S))
  taken_if input (Ok effects) = (change_of input, filter_map delivery_in effects) ∷ []
  taken_if input (Err fault) = []

  -- who is asked for, as the rows have it
  abbrev pub demanded : List (K × Row K S P) → List (K × List (S × ℕ))
  demanded rows = map (λ r. (r.0, r.1.subscribers)) rows

module _ {K S P : Type 0} (a : Parties K S P) where
  abbrev pub answers : Machine K S P → List (Fed K S P) → List (Result (List (Effect K S P)) Fault)
  answers m [] = []
  answers m (i ∷ is) = (step a m i.now i.input).0 ∷ answers (step a m i.now i.input).1 is

  abbrev pub after : Machine K S P → List (Fed K S P) → Machine K S P
  after m [] = m
  after m (i ∷ is) = after (step a m i.now i.input).1 is

  abbrev pub taken : Machine K S P → List (Fed K S P) → List (Change K S × List (ℕ × Handed K S))
  taken m [] = []
  taken m (i ∷ is) = taken_if i.input (step a m i.now i.input).0 ++ taken (step a m i.now i.input).1 is

  -- who asked and was not served since
  abbrev pub demand : Machine K S P → List (Fed K S P) → List (Pair K S)
  demand m is = (account_of (pairs (names_of a)) (nothing_asked (pairs (names_of a))) (taken m is)).demand
