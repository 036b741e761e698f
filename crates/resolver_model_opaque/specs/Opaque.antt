-- The opaque machine: one map from key to row.
use Rattle.std.specs.Prelude.{ℕ, ◌+◌, ◌^◌, Bool, false, not, ◌==◌, nat_lt, nat_le, List, [], ◌∷◌, ◌++◌, Option, None, Some, if◌then◌else◌, option_and_then, filter, map, find, length}
use Rattle.std.specs.Map.{lookup, set_value, remove_entry}
use Rattle.std.specs.Prelude.{Result, Ok, Err}
use Rattle.std.specs.Ordering.{nat_cmp}
use Rattle.std.specs.BTreeMap.{insert_entry, is_at}
use Rattle.resolver_base.specs.declared.fault.Fault.{Fault}
use Rattle.resolver_base.specs.declared.fault.Fault.TheVariants as faults
use Rattle.resolver_types.specs.declared.outcome.Outcome.{Outcome}
use Rattle.resolver_model.specs.declared.ruling.Ruling.{Ruling}
use Rattle.resolver_model.specs.declared.ruling.Ruling.TheVariants.{Serve, Retry, Retire}
use Rattle.resolver_model.specs.Verdicts.{ruling}
use Rattle.resolver_model_opaque.specs.declared.effects.Effect.{Effect}
use Rattle.resolver_model_opaque.specs.declared.effects.Effect.TheVariants.{Start, Abort, Deliver, Cancel}
use Rattle.resolver_types.specs.Names.{Names, same_key}
use Rattle.resolver_types.specs.Subscribers.{attached_all, without}
use Rattle.resolver_model.specs.Account.{Handed}
use Rattle.resolver_model.specs.declared.status.Status.{Status}
use Rattle.resolver_model.specs.declared.status.Status.TheVariants.{Running, Ended, Failed}
use Rattle.resolver_model_opaque.specs.OpaquePhases.{Judging, Phase, Waiting, Asked, Judged, is_asked_by, least_due}

pub record Row (V S : Type 0) : Type 0 where
  -- in their order, with their marks
  pub subscribers : List (S × ℕ)
  pub phase : Phase V

pub record Machine (K V S : Type 0) : Type 0 where
  -- in the order of the keys
  pub rows : List (K × Row V S)
  -- by number, open
  pub deliveries : List (ℕ × Handed K S)
  pub next_attempt : ℕ
  pub next_number : ℕ
  pub delay : ℕ
  pub status : Status

-- where every machine begins
abbrev pub opening : {K V S : Type 0} → (delay : ℕ) → Machine K V S
opening delay = record { rows = []; deliveries = []; next_attempt = 0; next_number = 0; delay = delay; status = Running }

-- a key to fetch, and its subscribers with their marks
pub record Item (K S : Type 0) : Type 0 where
  pub key : K
  pub subscribers : List (S × ℕ)

-- what the machine takes
pub data Event (K V S : Type 0) : Type 0 where
  Fetch : List (Item K S) → Event K V S
  Retain : (K → S → Bool) → Event K V S
  Fetched : (attempt : ℕ) → Option V → Event K V S
  Verdict : (number : ℕ) → Option Outcome → Event K V S
  RetriesDue : Event K V S
  End : Event K V S

-- a machine, and the effects on the way to it
pub record Done (K V S : Type 0) : Type 0 where
  pub machine : Machine K V S
  pub effects : List (Effect K V S)

module _ {K V S : Type 0} where
  -- nothing happens. (Where a number is needed and none is left, the answer is `None`.)
  abbrev pub quiet : Machine K V S → Option (Done K V S)
  quiet m = Some (record { machine = m; effects = [] })

  -- one after another
  abbrev pub and_then : Option (Done K V S) → (Machine K V S → Option (Done K V S)) → Option (Done K V S)
  and_then first next = option_and_then (λ d. option_and_then (λ e. Some (record { machine = e.machine; effects = d.effects ++ e.effects })) (next d.machine)) first

  -- what is called off where a key ends
  abbrev pub called_off : Phase V → List (Effect K V S)
  called_off (Waiting due) = []
  called_off (Asked attempt) = Abort attempt ∷ []
  called_off (Judged j) = Cancel j.number ∷ []

  abbrev pub all_called_off : List (K × Row V S) → List (Effect K V S)
  all_called_off [] = []
  all_called_off (r ∷ rs) = called_off r.1.phase ++ all_called_off rs

  -- a row with the subscribers that are kept
  abbrev pub pruned : (K → S → Bool) → K × Row V S → K × Row V S
  pruned keep r = (r.0, record r.1 { subscribers = filter (λ s. keep r.0 s.0) r.1.subscribers })

  abbrev pub has_subscribers : K × Row V S → Bool
  has_subscribers r = nat_lt 0 (length r.1.subscribers)

  -- the rows that a subscriber is kept of
  abbrev pub kept : (K → S → Bool) → List (K × Row V S) → List (K × Row V S)
  kept keep rows = filter has_subscribers (map (pruned keep) rows)

  -- the rows that no subscriber is kept of
  abbrev pub unkept : (K → S → Bool) → List (K × Row V S) → List (K × Row V S)
  unkept keep rows = filter (λ r. not (has_subscribers r)) (map (pruned keep) rows)

  abbrev pub retain : Machine K V S → (K → S → Bool) → Done K V S
  retain m keep = record { machine = record m { rows = kept keep m.rows }; effects = all_called_off (unkept keep m.rows) }

  abbrev pub closed : Machine K V S → ℕ → Machine K V S
  closed m number = record m { deliveries = remove_entry (is_at (nat_cmp number)) m.deliveries }

  -- a waiting row that is due, before those that are due later; of two that are due together the one with the smaller key
  abbrev pub placed : (due : ℕ) → K × Row V S → List (ℕ × (K × Row V S)) → List (ℕ × (K × Row V S))
  placed due r [] = (due, r) ∷ []
  placed due r (q ∷ qs) = if nat_le due q.0 then (due, r) ∷ q ∷ qs else q ∷ placed due r qs

  abbrev pub placed_if_due : (now : ℕ) → Phase V → K × Row V S → List (ℕ × (K × Row V S)) → List (ℕ × (K × Row V S))
  placed_if_due now (Waiting due) r qs = if nat_le due now then placed due r qs else qs
  placed_if_due now phase r qs = qs

  abbrev pub waiting_by_due : (now : ℕ) → List (K × Row V S) → List (ℕ × (K × Row V S))
  waiting_by_due now [] = []
  waiting_by_due now (r ∷ rs) = placed_if_due now r.1.phase r (waiting_by_due now rs)

  abbrev pub end : Machine K V S → Done K V S
  end m = record { machine = record m { rows = []; deliveries = []; status = Ended }; effects = all_called_off m.rows }

  abbrev pub step_done : Machine K V S → Option (Done K V S) → Result (List (Effect K V S)) Fault × Machine K V S
  step_done m None = (Err faults.Exhausted, record m { status = Failed })
  step_done m (Some d) = (Ok d.effects, d.machine)

module _ {K V S : Type 0} (n : Names K S) where
  abbrev pub row_of : Machine K V S → K → Option (Row V S)
  row_of m key = lookup (same_key n key) m.rows

  abbrev pub with_new_row : Machine K V S → K → Row V S → Machine K V S
  with_new_row m key row = record m { rows = insert_entry n.key m.rows key row }

  -- with this row in place of the key's
  abbrev pub with_row : Machine K V S → K → Row V S → Machine K V S
  with_row m key row = record m { rows = set_value (same_key n key) m.rows row }

  abbrev pub without_row : Machine K V S → K → Machine K V S
  without_row m key = record m { rows = remove_entry (same_key n key) m.rows }

  -- a key is asked for under the next attempt
  abbrev pub start : Machine K V S → (placing : Row V S → Machine K V S) → K → List (S × ℕ) → Option (Done K V S)
  start m placing key subscribers =
      if nat_lt m.next_attempt (2 ^ 64)
      then Some (record {
        machine = record (placing (record { subscribers = subscribers; phase = Asked m.next_attempt })) { next_attempt = m.next_attempt + 1 };
        effects = Start m.next_attempt key ∷ [];
      })
      else None

  abbrev pub start_new : Machine K V S → K → List (S × ℕ) → Option (Done K V S)
  start_new m key subscribers = start m (with_new_row m key) key subscribers

  abbrev pub start_again : Machine K V S → K → List (S × ℕ) → Option (Done K V S)
  start_again m key subscribers = start m (with_row m key) key subscribers

  -- the value is handed out under the next number, as the response r
  abbrev pub hand_out : Machine K V S → K → List (S × ℕ) → (r : ℕ) → V → (accepted : Bool) → Option (Done K V S)
  hand_out m key subscribers r value accepted =
      if nat_lt m.next_number (2 ^ 64)
      then Some (record {
        machine = record (with_row m key (record { subscribers = subscribers; phase = Judged (record { number = m.next_number; response = r; value = value; accepted = accepted }) })) {
          deliveries = insert_entry nat_cmp m.deliveries m.next_number (record { response = r; key = key; subscribers = subscribers });
          next_number = m.next_number + 1;
        };
        effects = Deliver m.next_number r (record { key = key; subscribers = subscribers }) value ∷ [];
      })
      else None

  -- A key that is demanded takes the subscribers, and a new one is asked for.
  abbrev pub fetch_one : Machine K V S → Item K S → Option (Row V S) → Option (Done K V S)
  fetch_one m item (Some row) = quiet (with_row m item.key (record row { subscribers = attached_all n.subscriber row.subscribers item.subscribers }))
  fetch_one m item None = start_new m item.key (attached_all n.subscriber [] item.subscribers)

  abbrev pub fetch : Machine K V S → List (Item K S) → Option (Done K V S)
  fetch m [] = quiet m
  fetch m (item ∷ items) = and_then (fetch_one m item (row_of m item.key)) (λ next. fetch next items)

  -- the key waits until the delay is over
  abbrev pub retry : Machine K V S → (now : ℕ) → K → List (S × ℕ) → Machine K V S
  retry m now key subscribers = with_row m key (record { subscribers = subscribers; phase = Waiting (now + m.delay) })

  abbrev pub fetched_for : Machine K V S → (now : ℕ) → Option V → Option (K × Row V S) → Option (Done K V S)
  fetched_for m now value None = quiet m
  fetched_for m now None (Some r) = quiet (retry m now r.0 r.1.subscribers)
  fetched_for m now (Some value) (Some r) = hand_out m r.0 r.1.subscribers m.next_number value false

  abbrev pub fetched : Machine K V S → (now : ℕ) → (attempt : ℕ) → Option V → Option (Done K V S)
  fetched m now attempt value = fetched_for m now value (find (λ r. is_asked_by attempt r.1.phase) m.rows)

  -- The named subscribers are served. The rest get the same response again.
  abbrev pub served : Machine K V S → Handed K S → Judging V → (accepted : Bool) → List (S × ℕ) → Option (Done K V S)
  served m h j accepted [] = quiet (without_row m h.key)
  served m h j accepted (s ∷ rest) = hand_out m h.key (s ∷ rest) j.response j.value accepted

  -- a ruling on the delivery in progress
  abbrev pub ruled : Machine K V S → (now : ℕ) → Handed K S → Row V S → Judging V → Ruling → Option (Done K V S)
  ruled m now h row j (Serve accepted) = served m h j accepted (without n.subscriber h.subscribers row.subscribers)
  ruled m now h row j Retry = quiet (retry m now h.key row.subscribers)
  ruled m now h row j Retire = quiet (without_row m h.key)

  -- A verdict counts only where its key is judged under its number.
  abbrev pub verdict_in : Machine K V S → (now number : ℕ) → Handed K S → Option Outcome → Row V S → Phase V → Option (Done K V S)
  verdict_in m now number h outcome row (Judged j) = if number == j.number then ruled m now h row j (ruling j.accepted outcome) else quiet m
  verdict_in m now number h outcome row phase = quiet m

  abbrev pub verdict_at : Machine K V S → (now number : ℕ) → Handed K S → Option Outcome → Option (Row V S) → Option (Done K V S)
  verdict_at m now number h outcome None = quiet m
  verdict_at m now number h outcome (Some row) = verdict_in m now number h outcome row row.phase

  abbrev pub verdict_on : Machine K V S → (now number : ℕ) → Option Outcome → Option (Handed K S) → Option (Done K V S)
  verdict_on m now number outcome None = quiet m
  verdict_on m now number outcome (Some h) = verdict_at (closed m number) now number h outcome (row_of m h.key)

  abbrev pub verdict : Machine K V S → (now number : ℕ) → Option Outcome → Option (Done K V S)
  verdict m now number outcome = verdict_on m now number outcome (lookup (is_at (nat_cmp number)) m.deliveries)

  abbrev pub start_all : Machine K V S → List (ℕ × (K × Row V S)) → Option (Done K V S)
  start_all m [] = quiet m
  start_all m (r ∷ rs) = and_then (start_again m r.1.0 r.1.1.subscribers) (λ next. start_all next rs)

  -- what a running machine does
  abbrev pub does : Machine K V S → (now : ℕ) → Event K V S → Option (Done K V S)
  does m now (Fetch items) = fetch m items
  does m now (Retain keep) = Some (retain m keep)
  does m now (Fetched attempt value) = fetched m now attempt value
  does m now (Verdict number outcome) = verdict m now number outcome
  does m now RetriesDue = start_all m (waiting_by_due now m.rows)
  does m now End = Some (end m)

  abbrev pub step_in : Status → Machine K V S → (now : ℕ) → Event K V S → Result (List (Effect K V S)) Fault × Machine K V S
  step_in Running m now event = step_done m (does m now event)
  step_in Ended m now event = (Err faults.Ended, m)
  step_in Failed m now event = (Err faults.Failed, m)

  abbrev pub step : Machine K V S → (now : ℕ) → Event K V S → Result (List (Effect K V S)) Fault × Machine K V S
  step m now event = step_in m.status m now event

-- the least due
abbrev pub next_retry : {K V S : Type 0} → List (K × Row V S) → Option ℕ
next_retry [] = None
next_retry (r ∷ rs) = least_due r.1.phase (next_retry rs)
