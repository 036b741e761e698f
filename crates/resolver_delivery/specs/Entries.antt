-- Tracked keys and their deliveries, which are numbered.
use Rattle.std.specs.Prelude.{ℕ, ◌+◌, Bool, true, false, List, filter, Option, None, Some, is_some, option_map, option_and_then, Result, Ok, Err, if◌then◌else◌, ◌==◌, ◌^◌, nat_lt}
use Rattle.resolver_base.specs.declared.fault.Fault.{Fault}
use Rattle.resolver_base.specs.declared.fault.Fault.TheVariants.{OutOfMemory, Exhausted}
use Rattle.std.specs.Option.{option_map_or}
use Rattle.std.specs.Map.{lookup, set_value, remove_entry}
use Rattle.std.specs.BTreeMap.{insert_entry, is_at}
use Rattle.std.specs.Ordering.{nat_cmp}
use Rattle.std.specs.declared.cmp.Ordering.{Ordering}
use Rattle.resolver_types.specs.declared.delivery.Delivery.{Delivery}
use Rattle.resolver_types.specs.declared.outcome.Outcome.{Outcome}
use Rattle.resolver_delivery.specs.declared.entry.Response.{Response}
use Rattle.resolver_delivery.specs.declared.entry.Entry.{Entry}
use Rattle.resolver_delivery.specs.declared.entry.Open.{Open}
use Rattle.resolver_delivery.specs.declared.completion.Completion.{Completion}
use Rattle.resolver_delivery.specs.declared.completion.Aborted.{Aborted}

-- the tracked keys, the deliveries that are open by their numbers, and the number that is given next
pub record Numbered (K S V C State : Type 0) : Type 0 where
  pub keys : List (K × Entry V C State)
  pub going : List (ℕ × Open K S C)
  pub next : ℕ

-- a key that is tracked from now on
abbrev pub fresh : {V C State : Type 0} → State → Entry V C State
fresh state = record { number = None; response = None; state = state }

-- the value that a test finds is changed
abbrev pub changed_at : {K X : Type 0} → (K → Bool) → Option X → (X → X) → List (K × X) → List (K × X)
changed_at test None change es = es
changed_at test (Some x) change es = set_value test es (change x)

-- why a delivery has no number: none is left, or memory is wanting
abbrev pub refusal_at : ℕ → Fault
refusal_at next = if nat_lt next (2 ^ 64) then OutOfMemory else Exhausted

-- whether this is the number
abbrev pub is_number : Option ℕ → ℕ → Bool
is_number None n = false
is_number (Some m) n = m == n

module _ {V C State : Type 0} where
  abbrev pub numbered : ℕ → Entry V C State → Entry V C State
  numbered n e = record e { number = Some n }

  abbrev pub ended : Entry V C State → Entry V C State
  ended e = record e { number = None }

  abbrev pub with_response : Option (Response V C) → Entry V C State → Entry V C State
  with_response r e = record e { response = r }

  abbrev pub with_state : State → Entry V C State → Entry V C State
  with_state state e = record e { state = state }

abbrev pub accepted : {V C : Type 0} → Response V C → Response V C
accepted r = record r { accepted = true }

-- only the keys that pass
abbrev pub retained : {K S V C State : Type 0} → (K → Bool) → Numbered K S V C State → Numbered K S V C State
retained test d = record d { keys = filter (λ e. test e.0) d.keys }

module _ {K S V C State : Type 0} (cmp : K → K → Ordering) where
  abbrev pub entry_of : Numbered K S V C State → K → Option (Entry V C State)
  entry_of d key = lookup (is_at (cmp key)) d.keys

  abbrev pub is_tracked : Numbered K S V C State → K → Bool
  is_tracked d key = is_some (entry_of d key)

  -- the number of a key's delivery in progress
  abbrev pub number_of : Numbered K S V C State → K → Option ℕ
  number_of d key = option_and_then (λ e. e.number) (entry_of d key)

  -- a key's cached response
  abbrev pub response_of : Numbered K S V C State → K → Option (Response V C)
  response_of d key = option_and_then (λ e. e.response) (entry_of d key)

  abbrev pub state_of : Numbered K S V C State → K → Option State
  state_of d key = option_map (λ e. e.state) (entry_of d key)

  -- A key that is there stays as it is.
  abbrev pub inserted : K → State → Numbered K S V C State → Numbered K S V C State
  inserted key state d = if is_tracked d key then d else record d { keys = insert_entry cmp d.keys key (fresh state) }

  abbrev pub removed : K → Numbered K S V C State → Numbered K S V C State
  removed key d = record d { keys = remove_entry (is_at (cmp key)) d.keys }

  -- a key's entry is changed, if there is one
  abbrev pub changed : K → (Entry V C State → Entry V C State) → Numbered K S V C State → Numbered K S V C State
  changed key change d = record d { keys = changed_at (is_at (cmp key)) (entry_of d key) change d.keys }

  -- a delivery of the response with this name takes the next number, and its key's entry is changed
  abbrev pub begun : Delivery K S → (name : ℕ) → C → Bool → (Entry V C State → Entry V C State) → Numbered K S V C State → Numbered K S V C State
  begun delivery name context accepted change d = record (changed delivery.key (λ e. numbered d.next (change e)) d) {
    going = insert_entry nat_cmp d.going d.next (record { response = name; delivery = delivery; context = context; accepted = accepted });
    next = d.next + 1;
  }

  -- a new response, named by the number of its first delivery
  abbrev pub delivered : Delivery K S → C → V → Numbered K S V C State → Numbered K S V C State
  delivered delivery context value d =
      begun delivery d.next context false (with_response (Some (record { name = d.next; value = value; context = context; accepted = false }))) d

  abbrev pub begun_again : Delivery K S → Option (Response V C) → Numbered K S V C State → Numbered K S V C State
  begun_again delivery None d = d
  begun_again delivery (Some r) d = begun delivery r.name r.context r.accepted (λ e. e) d

  -- the cached response once more
  abbrev pub redelivered : Delivery K S → Numbered K S V C State → Numbered K S V C State
  redelivered delivery d = begun_again delivery (response_of d delivery.key) d

  abbrev pub is_accepted : Numbered K S V C State → K → Bool
  is_accepted d key = option_map_or (λ r. r.accepted) (response_of d key) false

  -- the key's cached response is changed
  abbrev pub response_changed : K → (Response V C → Response V C) → Numbered K S V C State → Numbered K S V C State
  response_changed key change d = changed key (λ e. with_response (option_map change e.response) e) d

  -- whether the key of an open delivery still holds its number
  abbrev pub is_live : Numbered K S V C State → ℕ → Open K S C → Bool
  is_live d n o = is_number (number_of d o.delivery.key) n

  -- a number is open no more, nor in progress
  abbrev pub closed : ℕ → Open K S C → Numbered K S V C State → Numbered K S V C State
  closed n o d = record (if is_live d n o then changed o.delivery.key ended d else d) { going = remove_entry (is_at (nat_cmp n)) d.going }

-- what is said of a delivery
abbrev pub completion : {K S C : Type 0} → Open K S C → Option Outcome → Bool → Completion K S C
completion o verdict canceled = record { response = o.response; context = o.context; delivery = o.delivery; outcome = verdict; canceled = canceled; previously_accepted = o.accepted }

-- A canceled delivery without a verdict is aborted.
abbrev pub completion_of : {K S C : Type 0} → Open K S C → Option Outcome → Bool → Result (Completion K S C) Aborted
completion_of o None false = Err (record {})
completion_of o (Some verdict) false = Ok (completion o (Some verdict) true)
completion_of o verdict true = Ok (completion o verdict false)

module _ {K S V C State : Type 0} (cmp : K → K → Ordering) where
  abbrev pub completed_from : Numbered K S V C State → ℕ → Option Outcome → Option (Open K S C) → Result (Completion K S C) Aborted × Numbered K S V C State
  completed_from d n verdict None = (Err (record {}), d)
  completed_from d n verdict (Some o) = (completion_of o verdict (is_live cmp d n o), closed cmp n o d)

  -- what is answered for a number and its verdict, and what is left
  abbrev pub completed : Numbered K S V C State → ℕ → Option Outcome → Result (Completion K S C) Aborted × Numbered K S V C State
  completed d n verdict = completed_from d n verdict (lookup (is_at (nat_cmp n)) d.going)
