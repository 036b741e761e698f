-- What an event makes of a judge's model of a node.
use Rattle.std.specs.Prelude.{ℕ, zero, suc, ◌≡◌, ◌≤◌, ◌<◌, ◌==◌, ◌||◌, Bool, true, false, List, Option, None, Some, IfSome, MatchOption, slice_get, if◌then◌else◌}
use Rattle.std.specs.Bool.{MatchBool}
use Rattle.std.specs.BTreeMap as maps
use Rattle.std.specs.BTreeMap.{BTreeMap, get}
use Rattle.std.specs.BTreeSet as sets
use Rattle.std.specs.BTreeSet.{BTreeSet, contains}
use Rattle.std.specs.Int.{w64, from_be_bytes}
use Rattle.std.specs.List.{list_any}
use Rattle.std.specs.Ordering.{nat_cmp}
use Rattle.resolver_core.specs.declared.Outcome.{Outcome}
use Rattle.resolver_core.specs.declared.Outcome.TheVariants.{Invalid, Resolved, Unresolved, Ignored}
use Rattle.resolver_core.specs.declared.Resolution.TheVariants.{Complete, Partial}
use Rattle.resolver_core.specs.declared.ingress.FetchKey.{FetchKey}
use Rattle.resolver_core.specs.declared.p2p.inputs.Event.{Event}
use Rattle.resolver_core.specs.declared.p2p.inputs.Event.TheVariants as events
use Rattle.resolver_swarm.specs.Height.{number_of}
use Rattle.resolver_swarm.specs.declared.height.Height.{Height}
use Rattle.resolver_swarm.specs.declared.judging.judge.Judge.{Judge}
use Rattle.resolver_swarm.specs.declared.judging.requests.Asked.{Asked as Request}
use Rattle.resolver_swarm.specs.declared.judging.requests.Requests.{Requests}
use Rattle.resolver_swarm.specs.declared.judging.said.Said.{Said}
use Rattle.resolver_swarm.specs.declared.judging.said.Said.TheVariants as says

-- that a set has the peers of a list, and no others
abbrev pub AreThose : List ℕ → BTreeSet ℕ → Type 0
AreThose peers set = (peer : ℕ) → contains nat_cmp set peer ≡ list_any (λ other. other == peer) peers

-- that a set is newer than the last one, if there was one
abbrev pub IsNewer : Option ℕ → ℕ → Type 0
IsNewer last index = IfSome last (λ old. old < index)

-- A set takes the place of the last one where it is newer, and else that one stays.
pub record Replaces (index : ℕ) (peers : List ℕ) (old new : Judge) : Type 0 where
  pub newer : IsNewer old.index index → (new.index ≡ Some index) × AreThose peers new.peers
  pub older : ¬ IsNewer old.index index → (new.index ≡ old.index) × (new.peers ≡ old.peers)

-- whether an item is for the key of a number
abbrev pub is_wanted : {S M : Type 0} → List (FetchKey Height S M) → ℕ → Bool
is_wanted items number = list_any (λ item. number_of item.key == number) items

-- that the keys of items are demanded beside those that were, and no others
abbrev pub Joins : {S M : Type 0} → List (FetchKey Height S M) → BTreeSet ℕ → BTreeSet ℕ → Type 0
Joins items old new = (number : ℕ) → contains nat_cmp new number ≡ (contains nat_cmp old number || is_wanted items number)

-- whether a verdict retires its key, where one subscriber wants it
abbrev pub retires : Option Outcome → Bool
retires None = true
retires (Some Invalid) = false
retires (Some (Resolved Complete)) = true
retires (Some (Resolved Partial)) = false
retires (Some Unresolved) = false
retires (Some Ignored) = true

-- that the key of a delivery, if it was one, is demanded no more where its verdict retires it, and nothing else changes
abbrev pub IsRuled : Option Outcome → Option Height → BTreeSet ℕ → BTreeSet ℕ → Type 0
IsRuled outcome None old new = new ≡ old
IsRuled outcome (Some key) old new = MatchBool (retires outcome) (sets.Updates nat_cmp old new (number_of key) false) (new ≡ old)

-- that the request of an id is over, and no other
abbrev pub Ends : ℕ → Requests → Requests → Type 0
Ends id old new = maps.Updates nat_cmp old.by_id new.by_id id None

-- that of requests the first is over where its time is, and no other
abbrev pub TimesOut : ℕ → Requests → Requests → Type 0
TimesOut now old new = MatchOption (slice_get old.deadlines.keys 0) (new ≡ old) (λ first. (first.0 ≤ now → Ends first.1 old new) × (now < first.0 → new ≡ old))

-- what a tag says, of a message with this id
abbrev pub said_by : ℕ → ℕ → Option Said
said_by id zero = Some says.Request
said_by id (suc zero) = Some (says.Response id)
said_by id (suc (suc zero)) = Some (says.Missing id)
said_by id (suc (suc (suc tag))) = None

abbrev pub said_of : ℕ → Option ℕ → Option Said
said_of id None = None
said_of id (Some tag) = said_by id tag

-- what bytes say: the first eight are an id, and a tag follows
abbrev pub said_in : List ℕ → Option Said
said_in bytes = said_of (from_be_bytes w64 bytes) (slice_get bytes 8)

-- a request, if it went to this peer
abbrev pub sent_to : ℕ → Option Request → Option Request
sent_to peer None = None
sent_to peer (Some asked) = if asked.peer == peer then Some asked else None

-- that the request of an id is over if it went to this peer, and else none is
abbrev pub IsAnswered : ℕ → ℕ → Requests → Requests → Type 0
IsAnswered peer id old new = MatchOption (sent_to peer (get nat_cmp old.by_id id)) (new ≡ old) (λ _. Ends id old new)

-- what a peer makes of requests by what it says
abbrev pub Hears : ℕ → Option Said → Requests → Requests → Type 0
Hears peer (Some (says.Response id)) old new = IsAnswered peer id old new
Hears peer (Some (says.Missing id)) old new = IsAnswered peer id old new
Hears peer _ old new = new ≡ old

-- the request to a peer that it answers with a value, by what it says
abbrev pub answer_in : ℕ → Option Said → Requests → Option Request
answer_in peer (Some (says.Response id)) asked = sent_to peer (get nat_cmp asked.by_id id)
answer_in peer _ asked = None

module _ {Q : Type 0} where
  -- the demand after an event
  abbrev pub IsDemandAfter : Event Height ℕ ℕ Q → Judge → BTreeSet ℕ → Type 0
  IsDemandAfter (events.Fetch items) old new = Joins items.items old.demand new
  IsDemandAfter (events.Verdict number outcome) old new = IsRuled outcome (get nat_cmp old.judged number) old.demand new
  IsDemandAfter _ old new = new ≡ old.demand

  -- the deliveries without a verdict after an event
  abbrev pub AreJudgedAfter : Event Height ℕ ℕ Q → BTreeMap ℕ Height → BTreeMap ℕ Height → Type 0
  AreJudgedAfter (events.Verdict number outcome) old new = maps.Updates nat_cmp old new number None
  AreJudgedAfter _ old new = new ≡ old

  -- the set of peers after an event, and its index
  abbrev pub ArePeersAfter : Event Height ℕ ℕ Q → Judge → Judge → Type 0
  ArePeersAfter (events.PeerSet index peers) old new = Replaces index peers.items old new
  ArePeersAfter _ old new = (new.index ≡ old.index) × (new.peers ≡ old.peers)

  -- the blocked peers after an event
  abbrev pub AreBlockedAfter : Event Height ℕ ℕ Q → BTreeSet ℕ → BTreeSet ℕ → Type 0
  AreBlockedAfter (events.Blocked peers) old new = AreThose peers.items new
  AreBlockedAfter _ old new = new ≡ old

  -- the requests without an answer after an event at a moment
  abbrev pub AreAskedAfter : Event Height ℕ ℕ Q → ℕ → Requests → Requests → Type 0
  AreAskedAfter events.ActiveDue now old new = TimesOut now old new
  AreAskedAfter (events.Net peer bytes) now old new = Hears peer (said_in bytes) old new
  AreAskedAfter _ now old new = new ≡ old

  -- the request that an event answers with a value
  abbrev pub answered_by : Event Height ℕ ℕ Q → Requests → Option Request
  answered_by (events.Net peer bytes) asked = answer_in peer (said_in bytes) asked
  answered_by _ asked = None

-- What an event makes of a judge.
pub record Follows {Q : Type 0} (event : Event Height ℕ ℕ Q) (old new : Judge) : Type 0 where
  pub demand : IsDemandAfter event old new.demand
  pub judged : AreJudgedAfter event old.judged new.judged
  pub peers : ArePeersAfter event old new
  pub blocked : AreBlockedAfter event old.blocked new.blocked
  pub asked : AreAskedAfter event new.now old.asked new.asked
  pub answered : new.answered ≡ answered_by event old.asked
