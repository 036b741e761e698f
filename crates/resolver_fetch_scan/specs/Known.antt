-- What is known of the peers, and which of them may be asked.
use Rattle.std.specs.Prelude.{ℕ, Bool, true, false, not, ◌&&◌, List, length, Option, None, Some, option_map, filter, if◌then◌else◌}
use Rattle.std.specs.BTreeMap.{is_at}
use Rattle.std.specs.Map.{lookup}
use Rattle.std.specs.Ordering.{is_eq}
use Rattle.std.specs.declared.cmp.Ordering.{Ordering}
use Rattle.resolver_fetch_requests.specs.Loads.{Counts, Load, is_full, loaded}
use Rattle.resolver_sampling.specs.declared.score.Averages.{Averages}
use Rattle.resolver_fetch_scan.specs.Orders.{is_one_of}
use Rattle.resolver_sampling.specs.Scores.{weight_of}

pub record Known (P : Type 0) : Type 0 where
  -- the local name, which is never asked
  pub local : Option P
  -- the latest set, in the order of the peers
  pub set : List (P × Averages)
  pub blocked : List P
  -- none: requests are not limited
  pub load : Option (Load P)

-- the same, with what is counted of the requests
pub record Company (P : Type 0) : Type 0 where
  pub local : Option P
  pub set : List (P × Averages)
  pub blocked : List P
  -- none: requests are not limited
  pub counts : Option (Counts P)

-- another load
abbrev pub with_load : {P : Type 0} → (Option (Load P) → Option (Load P)) → Known P → Known P
with_load change known = record known { load = change known.load }

module _ {P : Type 0} (by_peer : P → P → Ordering) where
  abbrev pub known_by : Company P → Known P
  known_by c = record { local = c.local; set = c.set; blocked = c.blocked; load = option_map (loaded by_peer) c.counts }

  abbrev pub is_local : Option P → P → Bool
  is_local None p = false
  is_local (Some local) p = is_eq (by_peer local p)

  abbrev pub is_target : Option (List P) → P → Bool
  is_target None p = true
  is_target (Some targets) p = is_one_of by_peer targets p

  -- whether a peer of the set may be asked for any key
  abbrev pub may_be_asked : Known P → P → Bool
  may_be_asked known p = not (is_local known.local p) && not (is_one_of by_peer known.blocked p) && not (is_full known.load p)

  -- whether a peer of the set may be asked for a key with these targets
  abbrev pub is_eligible : Known P → Option (List P) → P → Bool
  is_eligible known targets p = may_be_asked known p && is_target targets p

  -- the peers that may be asked for a key with these targets
  abbrev pub eligible : Known P → Option (List P) → List (P × Averages)
  eligible known targets = filter (λ p. is_eligible known targets p.0) known.set

  -- the peer of this name, if it may be asked
  abbrev pub askable_at : Known P → P → List (P × Averages)
  askable_at known name = filter (λ p. may_be_asked known p.0 && is_eq (by_peer p.0 name)) known.set

  -- the weight with which a peer of the set is drawn
  abbrev pub sampling_weight : Known P → P × Averages → ℕ
  sampling_weight known p = if may_be_asked known p.0 then weight_of p.1 else 0

  abbrev pub weight_in : Known P → P → Option ℕ
  weight_in known peer = option_map (λ averages. sampling_weight known (peer, averages)) (lookup (is_at (by_peer peer)) known.set)

  -- how many peers may be asked at all
  abbrev pub askable : Known P → ℕ
  askable known = length (filter (λ p. may_be_asked known p.0) known.set)
