-- What waits while a mailbox is full: tests of subscribers, and then fetches as one batch.
use Rattle.std.specs.Prelude.{◌≡◌, ℕ, Bool, false, List, [], ◌∷◌, ◌++◌, if◌then◌else◌, filter, map, length, nat_lt, ◌-◌, Option, None, Some, IfSome, set, take}
use Rattle.std.specs.declared.cmp.Ordering.{Ordering}
use Rattle.std.specs.List.{FoldsTo, list_any}
use Rattle.resolver_messages.specs.declared.message.FetchKey.{FetchKey}
use Rattle.resolver_messages.specs.declared.message.Message.{Message}
use Rattle.resolver_messages.specs.declared.message.Message.TheVariants as messages
use Rattle.resolver_types.specs.Names.{Names, same_key}
use Rattle.resolver_types.specs.Subscribers.{joined_subscribers}
use Rattle.resolver_types.specs.Demand.{Act, Adds, Keeps, Pair, acts, pairs_of, IsSameDemand}
use Rattle.resolver_messages.specs.Places.{IsPlaced}
use Rattle.resolver_messages.specs.Draining as draining

-- a fetch of one key
pub record Item (K S M : Type 0) : Type 0 where
  pub key : K
  pub subscribers : List (S × ℕ)
  pub metadata : M

pub record Backlog (K S M Q : Type 0) : Type 0 where
  pub retains : List Q
  pub batch : List (Item K S M)

-- a message, as a list sees it
pub data Told (K S M Q : Type 0) : Type 0 where
  Fetches : List (Item K S M) → Told K S M Q
  Retains : Q → Told K S M Q

module _ {K S M : Type 0} where
  abbrev pub item_of : FetchKey K S M → Item K S M
  item_of fetch = record { key = fetch.key; subscribers = fetch.subscribers; metadata = fetch.metadata }

  abbrev pub told_of : {Q : Type 0} → Message K S M Q → Told K S M Q
  told_of (messages.Fetch items) = Fetches (map item_of items.items)
  told_of (messages.Retain test) = Retains test

  abbrev pub backlog_of : {Q : Type 0} → List Q → List (FetchKey K S M) → Backlog K S M Q
  backlog_of retains fetches = record { retains = retains; batch = map item_of fetches }

  abbrev pub no_backlog : {Q : Type 0} → Backlog K S M Q
  no_backlog = record { retains = []; batch = [] }

  abbrev pub keys_of_items : List (FetchKey K S M) → List K
  keys_of_items fetches = map (λ fetch. fetch.key) fetches

  -- a batch as it was before its last change: the last item goes, or an item is as it was
  abbrev pub undone : Option (ℕ × FetchKey K S M) → List (FetchKey K S M) → List (FetchKey K S M)
  undone None batch = take (length batch - 1) batch
  undone (Some (place, was)) batch = set batch place was

  -- before some changes, of which the last is undone first
  abbrev pub undone_all : List (Option (ℕ × FetchKey K S M)) → List (FetchKey K S M) → List (FetchKey K S M)
  undone_all [] batch = batch
  undone_all (change ∷ changes) batch = undone change (undone_all changes batch)

  -- the batch as one message, if it has any item
  abbrev pub batch_told : {Q : Type 0} → List (Item K S M) → List (Told K S M Q)
  batch_told [] = []
  batch_told (item ∷ items) = Fetches (item ∷ items) ∷ []

  -- the messages that wait, in their order
  abbrev pub waiting : {Q : Type 0} → Backlog K S M Q → List (Told K S M Q)
  waiting backlog = map Retains backlog.retains ++ batch_told backlog.batch

  -- what waits behind the first message
  abbrev pub behind_first : {Q : Type 0} → Backlog K S M Q → Backlog K S M Q
  behind_first {Q = Q} backlog = rest backlog.retains where
    rest : List Q → Backlog K S M Q
    rest [] = no_backlog
    rest (test ∷ retains) = record backlog { retains = retains }

  -- what is drained of such messages
  abbrev pub HandsBack : {Q F : Type 0} → (F → Message K S M Q → Option (Message K S M Q) → F → Type 0) → Type 0
  HandsBack step = draining.HandsBack told_of step

  abbrev pub Takes : {Q F : Type 0} → (F → Message K S M Q → Option (Message K S M Q) → F → Type 0) → F → F → List (Told K S M Q) → List (Told K S M Q) → Type 0
  Takes step push last was left = draining.Takes told_of step push last was left

  abbrev pub Drains : {Q F : Type 0} → (F → Message K S M Q → Option (Message K S M Q) → F → Type 0) → F → List (Told K S M Q) → List (Told K S M Q) → Type 0
  Drains step push was left = draining.Drains told_of step push was left

  -- the pairs of some fetches
  abbrev pub asked_by : List (Item K S M) → List (Pair K S)
  asked_by [] = []
  asked_by (item ∷ items) = pairs_of item.key item.subscribers ++ asked_by items

  -- what a message does to a demand
  abbrev pub act_of : {Q : Type 0} → (Q → K → S → Bool) → Told K S M Q → Act K S
  act_of keeps (Fetches items) = Adds (asked_by items)
  act_of keeps (Retains test) = Keeps (keeps test)

  abbrev pub pruned : (K → S → Bool) → Item K S M → Item K S M
  pruned keep item = record item { subscribers = filter (λ s. keep item.key s.0) item.subscribers }

  abbrev pub has_subscribers : Item K S M → Bool
  has_subscribers item = nat_lt 0 (length item.subscribers)

  -- only the subscribers that are kept, and the fetches that have any then
  abbrev pub kept : (K → S → Bool) → List (Item K S M) → List (Item K S M)
  kept keep batch = filter has_subscribers (map (pruned keep) batch)

module _ {K S M : Type 0} where
  -- the keys of the fetches that have a subscriber that is kept
  abbrev pub keys_kept : (K → S → Bool) → List (FetchKey K S M) → List K
  keys_kept keep fetches = map (λ item. item.key) (kept keep (map item_of fetches))

module _ {K S M : Type 0} (subscriber : S → S → Ordering) (merged : M → M → M) where
  -- a fetch with what a later one of its key asks for
  abbrev pub merged_item : Item K S M → Item K S M → Item K S M
  merged_item item later = record item {
    subscribers = joined_subscribers subscriber item.subscribers later.subscribers;
    metadata = merged item.metadata later.metadata;
  }

module _ {K S M : Type 0} (n : Names K S) (merged : M → M → M) where
  -- A fetch joins the one of its key, or goes last.
  abbrev pub queued : List (Item K S M) → Item K S M → List (Item K S M)
  queued [] later = later ∷ []
  queued (item ∷ batch) later = if same_key n later.key item.key then merged_item n.subscriber merged item later ∷ batch else item ∷ queued batch later

  abbrev pub queued_all : List (Item K S M) → List (Item K S M) → List (Item K S M)
  queued_all batch [] = batch
  queued_all batch (later ∷ items) = queued_all (queued batch later) items

  -- what waits once a message is taken
  abbrev pub handled : {Q : Type 0} → (Q → K → S → Bool) → Backlog K S M Q → Told K S M Q → Backlog K S M Q
  handled keeps backlog (Fetches items) = record backlog { batch = queued_all backlog.batch items }
  handled keeps backlog (Retains test) = record {
    retains = backlog.retains ++ test ∷ [];
    batch = kept (keeps test) backlog.batch;
  }

module _ {K S M : Type 0} (n : Names K S) where
  -- no key stands twice
  abbrev pub IsApart : List (Item K S M) → Type 0
  IsApart [] = Unit {0}
  IsApart (item ∷ batch) = (list_any (λ other. same_key n item.key other.key) batch ≡ false) × IsApart batch

  -- On every demand the messages left do what those that were there do.
  abbrev pub IsRight : {Q : Type 0} → (Q → K → S → Bool) → List (Told K S M Q) → List (Told K S M Q) → Type 0
  IsRight keeps was left = (d : List (Pair K S)) → IsSameDemand n (acts n (map (act_of keeps) left) d) (acts n (map (act_of keeps) was) d)

  -- each key stands once, and is found at its place
  pub record IsFiled (places : List (K × ℕ)) (fetches : List (FetchKey K S M)) : Type 0 where
    pub placed : IsPlaced n.key places (keys_of_items fetches)
    pub apart : IsApart (map item_of fetches)
