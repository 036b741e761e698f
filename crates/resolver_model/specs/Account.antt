-- Demand of a run: who is asked for, after the inputs taken and the deliveries handed out.
use Rattle.std.specs.Prelude.{ℕ, Bool, true, ◌&&◌, ◌==◌, List, [], ◌∷◌, ◌++◌, Option, None, Some, if◌then◌else◌, map}
use Rattle.std.specs.List.{list_any}
use Rattle.std.specs.Map.{lookup, remove_entry}
use Rattle.std.specs.BTreeMap.{is_at}
use Rattle.std.specs.Ordering.{nat_cmp}
use Rattle.resolver_types.specs.declared.outcome.Outcome.{Outcome}
use Rattle.resolver_types.specs.declared.outcome.Outcome.TheVariants.{Invalid, Resolved, Unresolved, Ignored}
use Rattle.resolver_types.specs.declared.outcome.Resolution.TheVariants.{Complete, Partial}
use Rattle.resolver_types.specs.Names.{Names}
use Rattle.resolver_types.specs.Demand as demand
use Rattle.resolver_types.specs.Table as tables

-- a delivery as it was handed out. A response goes by the number of the first delivery that carried it
pub record Handed (K S : Type 0) : Type 0 where
  pub response : ℕ
  pub key : K
  pub subscribers : List (S × ℕ)

-- what an input says of the demand
pub data Change (K S : Type 0) : Type 0 where
  Adds : List (K × List (S × ℕ)) → Change K S
  Keeps : (K → S → Bool) → Change K S
  Judges : (number : ℕ) → Option Outcome → Change K S
  Empties : Change K S
  Leaves : Change K S

-- an open delivery, and whether it is live: its key had a pair after each input since it was handed out
pub record Watched (K S : Type 0) : Type 0 where
  pub handed : Handed K S
  pub live : Bool

-- the words for a demand, however it is kept
pub record Words (K S D : Type 0) : Type 0 where
  pub nothing : D
  pub fetched : List (K × List (S × ℕ)) → D → D
  pub kept : (K → S → Bool) → D → D
  pub without_named : K → List (S × ℕ) → D → D
  pub without_key : K → D → D
  pub has_key : D → K → Bool

-- kept as pairs
abbrev pub pairs : {K S : Type 0} → Names K S → Words K S (List (demand.Pair K S))
pairs n = record {
  nothing = [];
  fetched = λ items d. demand.acts n (demand.Adds (demand.all_pairs_of items) ∷ []) d;
  kept = λ keep d. demand.acts n (demand.Keeps keep ∷ []) d;
  without_named = demand.without_named n;
  without_key = demand.without_key n;
  has_key = demand.has_pair n;
}

-- kept as a table
abbrev pub table : {K S : Type 0} → Names K S → Words K S (List (K × List (S × ℕ)))
table n = record {
  nothing = [];
  fetched = λ items d. tables.asked n d items;
  kept = λ keep d. tables.kept keep d;
  without_named = tables.without_named n;
  without_key = tables.without_key n;
  has_key = tables.is_asked n;
}

pub record Account (K S D : Type 0) : Type 0 where
  pub demand : D
  -- by number
  pub deliveries : List (ℕ × Watched K S)
  -- the responses to which a live Complete was given
  pub completed : List ℕ

module _ {K S : Type 0} where
  -- whether an earlier Complete, live when it came, was given on a delivery of the same response
  abbrev pub conflicts : (completed : List ℕ) → Handed K S → Bool
  conflicts completed h = list_any (λ r. r == h.response) completed

  abbrev pub completed_after_verdict : (completed : List ℕ) → Option Outcome → Option (Watched K S) → List ℕ
  completed_after_verdict completed (Some (Resolved Complete)) (Some o) = if o.live then o.handed.response ∷ completed else completed
  completed_after_verdict completed outcome found = completed

  abbrev pub completed_after : List (ℕ × Watched K S) → (completed : List ℕ) → Change K S → List ℕ
  completed_after deliveries completed (Judges number outcome) = completed_after_verdict completed outcome (lookup (is_at (nat_cmp number)) deliveries)
  completed_after deliveries completed change = completed

  -- a verdict closes its number, and an end closes all
  abbrev pub left_open : List (ℕ × Watched K S) → Change K S → List (ℕ × Watched K S)
  left_open deliveries (Judges number outcome) = remove_entry (is_at (nat_cmp number)) deliveries
  left_open deliveries Empties = []
  left_open deliveries change = deliveries

  -- more deliveries, each live as it is handed out
  abbrev pub opens : List (ℕ × Watched K S) → List (ℕ × Handed K S) → List (ℕ × Watched K S)
  opens deliveries [] = deliveries
  opens deliveries (h ∷ hs) = opens (deliveries ++ (h.0, record { handed = h.1; live = true }) ∷ []) hs

module _ {K S D : Type 0} (w : Words K S D) where
  abbrev pub nothing_asked : Account K S D
  nothing_asked = record { demand = w.nothing; deliveries = []; completed = [] }

  -- the demand after a live verdict
  abbrev pub judged : Handed K S → (conflicts : Bool) → Option Outcome → D → D
  judged h conflicts None d = w.without_named h.key h.subscribers d
  judged h conflicts (Some (Resolved Complete)) d = w.without_named h.key h.subscribers d
  judged h conflicts (Some (Resolved Partial)) d = d
  judged h conflicts (Some Unresolved) d = d
  judged h conflicts (Some Invalid) d = if conflicts then w.without_key h.key d else d
  judged h conflicts (Some Ignored) d = w.without_key h.key d

  -- a verdict on a number that is not open, or not live, leaves the demand
  abbrev pub demand_after_verdict : Account K S D → Option Outcome → Option (Watched K S) → D
  demand_after_verdict a outcome None = a.demand
  demand_after_verdict a outcome (Some o) = if o.live then judged o.handed (conflicts a.completed o.handed) outcome a.demand else a.demand

  abbrev pub demand_after : Account K S D → Change K S → D
  demand_after a (Adds items) = w.fetched items a.demand
  demand_after a (Keeps keep) = w.kept keep a.demand
  demand_after a (Judges number outcome) = demand_after_verdict a outcome (lookup (is_at (nat_cmp number)) a.deliveries)
  demand_after a Empties = w.nothing
  demand_after a Leaves = a.demand

  -- still live if the key has a pair
  abbrev pub watch : D → ℕ × Watched K S → ℕ × Watched K S
  watch d o = (o.0, record o.1 { live = o.1.live && w.has_key d o.1.handed.key })

  -- the account after an input that was taken, with what it handed out
  abbrev pub account_after : Account K S D → Change K S → List (ℕ × Handed K S) → Account K S D
  account_after a change handed = record {
    demand = demand_after a change;
    deliveries = map (watch (demand_after a change)) (opens (left_open a.deliveries change) handed);
    completed = completed_after a.deliveries a.completed change;
  }

  -- over a whole run
  abbrev pub account_of : Account K S D → List (Change K S × List (ℕ × Handed K S)) → Account K S D
  account_of a [] = a
  account_of a (t ∷ taken) = account_of (account_after a t.0 t.1) taken
