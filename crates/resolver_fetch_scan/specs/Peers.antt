-- The latest set of peers with their averages, and lists of peers.
use Rattle.std.specs.Prelude.{Bool, List, [], fold, unwrap_or}
use Rattle.std.specs.Map.{lookup, set_value}
use Rattle.std.specs.BTreeMap.{insert_entry, is_at}
use Rattle.std.specs.BTreeSet.{insert_key}
use Rattle.std.specs.Ordering.{is_eq}
use Rattle.std.specs.declared.cmp.Ordering.{Ordering}
use Rattle.resolver_types.specs.Joined.{joined}
use Rattle.resolver_sampling.specs.declared.score.Averages.{Averages}
use Rattle.resolver_sampling.specs.declared.score.Averages.TheVariants.{Unobserved}
use Rattle.resolver_sampling.specs.Scores.{Observation, averaged}

module _ {P : Type 0} (by_peer : P → P → Ordering) where
  -- nothing is known of a peer that is not in the set
  abbrev pub averages_in : List (P × Averages) → P → Averages
  averages_in set peer = unwrap_or (lookup (is_at (by_peer peer)) set) Unobserved

  -- the named peers, each once, in their order. Those that stay keep their averages.
  abbrev pub replaced : (old : List (P × Averages)) → List P → List (P × Averages)
  replaced old peers = fold (λ set peer. insert_entry by_peer set peer (averages_in old peer)) [] peers

  -- a peer that is not in the set is not charged
  abbrev pub observed : List (P × Averages) → P → Observation → List (P × Averages)
  observed set peer observation =
      set_value (is_at (by_peer peer)) set (averaged (averages_in set peer) observation)

  -- whether a peer is the same as a target
  abbrev pub is_target_of : (target peer : P) → Bool
  is_target_of target peer = is_eq (by_peer peer target)

  -- the peers that are not among the targets yet go last, each once
  abbrev pub with_targets : List P → List P → List P
  with_targets targets peers = joined is_target_of targets peers

  -- the named peers, each once, in their order
  abbrev pub set_of : List P → List P
  set_of peers = fold (insert_key by_peer) [] peers
