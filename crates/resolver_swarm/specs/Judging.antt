-- What a judge says of a node.
use Rattle.std.specs.Prelude.{ℕ, ◌≡◌, ◌≢◌, ◌↔◌, ◌+◌, ◌-◌, ◌^◌, ◌<◌, All, Any, Bool, true, false, List, length, count_by, min, Option, None, Some, IfSome, IsSome, IsSomeAnd, IsTrue, unwrap_or, slice_get}
use Rattle.std.specs.BTreeMap.{BTreeMap, get, values}
use Rattle.std.specs.BTreeSet.{contains}
use Rattle.std.specs.List.{AllZip}
use Rattle.std.specs.Option.{option_map}
use Rattle.std.specs.Ordering.{nat_cmp}
use Rattle.resolver_base.specs.declared.check.Check.{Check}
use Rattle.resolver_base.specs.declared.check.Check.TheVariants.{Clear, Until}
use Rattle.resolver_core.specs.declared.p2p.counts.Phases.{Phases}
use Rattle.resolver_core.specs.declared.p2p.rows.Phase.{Phase}
use Rattle.resolver_core.specs.declared.p2p.rows.Phase.TheVariants.{Waiting, Asked, Judged}
use Rattle.resolver_core.specs.declared.p2p.rows.Row.{Row}
use Rattle.resolver_core.specs.declared.p2p.effects.Effect.{Effect}
use Rattle.resolver_core.specs.declared.p2p.effects.Effect.TheVariants.{Deliver, Credit, Block}
use Rattle.resolver_swarm.specs.Height.{number_of}
use Rattle.resolver_swarm.specs.declared.height.Height.{Height}
use Rattle.resolver_swarm.specs.declared.judging.judge.Judge.{Judge}
use Rattle.resolver_swarm.specs.declared.judging.requests.Asked.{Asked as Request}
use Rattle.resolver_swarm.specs.declared.judging.requests.Requests.{Requests}

-- of two things that are wrong, what was found first
abbrev pub first_found : {C : Type 0} → Option C → C → Option C
first_found None later = Some later
first_found (Some first) later = Some first

-- Unless this holds there is a complaint, and one that was there stays.
pub record ComplainsUnless {C : Type 0} (old new : Option C) (holds : Type 0) : Type 0 where
  pub silent : (new ≡ None) ↔ ((old ≡ None) × holds)
  pub stays : IsSome old → new ≡ old

-- that a node is woken later than now, if it is woken
abbrev pub IsLater : ℕ → Option ℕ → Type 0
IsLater now wake = IfSome wake (λ moment. now < moment)

-- how many requests a peer has
abbrev pub load_of : BTreeMap ℕ ℕ → ℕ → ℕ
load_of loads peer = unwrap_or (get nat_cmp loads peer) 0

-- that a peer with so many requests may have one more, by a limit of which 0 says that there is none
abbrev pub IsBelow : ℕ → ℕ → Type 0
IsBelow limit load = limit ≢ 0 → load < limit

-- A peer may be asked: it is of the last set, neither the node itself nor blocked, and has fewer requests than it may have.
pub record IsEligible (judge : Judge) (peer : ℕ) : Type 0 where
  pub listed : IsTrue (contains nat_cmp judge.peers peer)
  pub other : peer ≢ judge.me
  pub unblocked : contains nat_cmp judge.blocked peer ≡ false
  pub below : IsBelow judge.limit (load_of judge.asked.loads peer)

-- the peer that may be sent to, as a check of it says
abbrev pub clear_of : ℕ → Check → Option ℕ
clear_of peer Clear = Some peer
clear_of peer (Until moment) = None

-- when the time of the first request is over, of deadlines in their order, each with the id of its request
abbrev pub first_deadline : List (ℕ × ℕ) → Option ℕ
first_deadline deadlines = option_map (λ deadline. deadline.0) (slice_get deadlines 0)

-- that a key is demanded
abbrev pub IsDemanded : Judge → Height → Type 0
IsDemanded judge key = IsTrue (contains nat_cmp judge.demand (number_of key))

-- that no open request has a key
abbrev pub IsUnasked : Requests → Height → Type 0
IsUnasked asked key = contains nat_cmp asked.keys (number_of key) ≡ false

-- that no delivery without a verdict has a key: each has another
abbrev pub IsUnjudged : BTreeMap ℕ Height → Height → Type 0
IsUnjudged judged key = All (λ other. other ≢ key) (values judged)

-- A key may be asked for under an id: it is wanted, neither asked for nor judged, and the id is free.
pub record MayRequest (judge : Judge) (key : Height) (id : ℕ) : Type 0 where
  pub demanded : IsDemanded judge key
  pub unasked : IsUnasked judge.asked key
  pub unjudged : IsUnjudged judge.judged key
  pub free : get nat_cmp judge.asked.by_id id ≡ None

-- when the time of a request is over that is sent now
abbrev pub deadline_of : Judge → ℕ
deadline_of judge = min (judge.now + judge.timeout) (2 ^ 128 - 1)

-- that a request was answered, and is for this key
abbrev pub IsAnswer : Option Request → Height → Type 0
IsAnswer answered key = IsSomeAnd answered (λ request. request.key ≡ key)

-- A row's request, or its delivery, is one that was noted: what was asked for under each id, and which key was handed out under each number.
-- The key of a row that waits has neither.
abbrev pub IsNoted : Requests → BTreeMap ℕ Height → Height → Phase ℕ → Type 0
IsNoted asked judged key (Waiting is_retry due) = IsUnasked asked key × IsUnjudged judged key
IsNoted asked judged key (Asked id peer deadline) = get nat_cmp asked.by_id id ≡ Some (record { key = key; peer = peer; deadline = deadline })
IsNoted asked judged key (Judged number) = get nat_cmp judged number ≡ Some key

-- What is told is right: a value that is handed out is an answer, and a response earns once, for its sender.
abbrev pub IsTold : Judge → Effect Height ℕ ℕ → Type 0
IsTold judge (Deliver number response delivery value) = IsAnswer judge.answered delivery.key
IsTold judge (Credit response source) = get nat_cmp judge.senders response ≡ Some source.peer
IsTold judge (Block response peer) = get nat_cmp judge.senders response ≡ Some peer
IsTold judge _ = Unit {0}

-- A core counts right: the demanded keys in all phases, those that are asked for and those that are judged.
pub record AreCounted (judge : Judge) (phases : Phases) : Type 0 where
  pub demanded : phases.waiting + phases.asked + phases.judged ≡ length judge.demand.keys
  pub asked : phases.asked ≡ length judge.asked.by_id.entries
  pub judged : phases.judged ≡ length judge.judged.entries

-- A key is listed right: it has no row if it isn't demanded, and else one of its own, whose request or delivery was noted.
abbrev pub IsListed : Judge → Height → Option (Row Height ℕ ℕ) → Type 0
IsListed judge key None = ¬ IsDemanded judge key
IsListed judge key (Some row) = IsDemanded judge key × (row.key ≡ key) × IsNoted judge.asked judge.judged key row.phase

-- whether a key is asked for
abbrev pub is_asked : Phase ℕ → Bool
is_asked (Waiting is_retry due) = false
is_asked (Asked id peer deadline) = true
is_asked (Judged number) = false

-- that rows have the keys of these numbers, each in its place
abbrev pub AreRowsOf : List ℕ → List (Row Height ℕ ℕ) → Type 0
AreRowsOf numbers rows = AllZip (λ row number. number_of row.key ≡ number) rows numbers

-- as many rows are asked for as there are open requests, and the request or the delivery of each was noted
pub record HaveRequests (judge : Judge) (rows : List (Row Height ℕ ℕ)) : Type 0 where
  pub counted : count_by (λ row. is_asked row.phase) rows ≡ length judge.asked.by_id.entries
  pub noted : All (λ row. IsNoted judge.asked judge.judged row.key row.phase) rows

-- that a demanded key waits, and a peer may be asked
abbrev pub HasWork : Judge → Type 0
HasWork judge = (length judge.asked.by_id.entries + length judge.judged.entries < length judge.demand.keys) × Any (IsEligible judge) judge.peers.keys

-- that a node with work is woken for it at some time: the last moment is none
abbrev pub IsAwake : Judge → Option ℕ → Type 0
IsAwake judge wake = HasWork judge → IsSomeAnd wake (λ moment. moment < 2 ^ 128 - 1)
