-- The key that a scan tries, and the peers that are left for it.
use Rattle.std.specs.Prelude.{ℕ, not, nat_lt, List, map, sum, Option, None, Some, option_map, filter, if◌then◌else◌}
use Rattle.std.specs.List.{slice_get}
use Rattle.std.specs.Ordering.{is_eq}
use Rattle.std.specs.declared.cmp.Ordering.{Ordering}
use Rattle.resolver_fetch_scan.specs.declared.place.Place.{Place}
use Rattle.resolver_fetch_scan.specs.declared.trail.Try.{Try}
use Rattle.resolver_sampling.specs.declared.score.Averages.{Averages}
use Rattle.resolver_sampling.specs.Choice.{chosen}
use Rattle.resolver_fetch_scan.specs.Orders.{Orders}
use Rattle.resolver_sampling.specs.Scores.{weight_of}
use Rattle.resolver_fetch_scan.specs.Waiting.{Waiting}
use Rattle.resolver_fetch_scan.specs.Known.{Known, eligible, sampling_weight}
use Rattle.resolver_fetch_scan.specs.Snapshot.{Snapshot, known}
use Rattle.resolver_fetch_scan.specs.Scan.{Scan, left, next}

pub record Trying (K P : Type 0) : Type 0 where
  pub place : Place
  pub key : K
  pub retries : ℕ
  -- the peers that it is drawn from, in their order, with what they weigh; some may weigh nothing
  pub all : List (P × ℕ)
  -- those that may be asked for it and were not tried for it
  pub left : List (P × ℕ)

module _ {P : Type 0} where
  -- peers with what they weigh
  abbrev pub weighed : List (P × Averages) → List (P × ℕ)
  weighed ps = map (λ p. (p.0, weight_of p.1)) ps

  abbrev pub weights_of : List (P × ℕ) → List ℕ
  weights_of ps = map (λ p. p.1) ps

  -- the peer at a place
  abbrev pub at_place : List (P × ℕ) → (number : ℕ) → Option P
  at_place ps number = option_map (λ p. p.0) (slice_get ps number)

  -- the peer in whose interval a number lies
  abbrev pub at_weight : List (P × ℕ) → (number : ℕ) → Option P
  at_weight ps number = if nat_lt number (sum (weights_of ps)) then at_place ps (chosen (weights_of ps) number) else None

  -- the others
  abbrev pub apart_from : (P → P → Ordering) → P → List (P × ℕ) → List (P × ℕ)
  apart_from by_peer peer ps = filter (λ p. not (is_eq (by_peer p.0 peer))) ps

module _ {P : Type 0} (by_peer : P → P → Ordering) where
  -- the peers of the set, with what they weigh for a key without targets
  abbrev pub sampled : Known P → List (P × ℕ)
  sampled known = map (λ p. (p.0, sampling_weight by_peer known p)) known.set

  -- the peers that are drawn from for a key with these targets; some may weigh nothing
  abbrev pub drawn_from : Known P → Option (List P) → List (P × ℕ)
  drawn_from known None = sampled known
  drawn_from known (Some targets) = weighed (eligible by_peer known (Some targets))

module _ {K P : Type 0} (o : Orders K P) where
  abbrev pub trying_for : Snapshot K P → List (Try K P) → K × Waiting P → Trying K P
  trying_for s trail w = record {
    place = w.1.place;
    key = w.0;
    retries = w.1.retries;
    all = drawn_from o.peer (known o s) w.1.targets;
    left = weighed (left o s trail w);
  }

  -- what a scan tries next
  abbrev pub trying : Snapshot K P → Scan K P → Option (Trying K P)
  trying s scan = option_map (trying_for s scan.trail) (next o s scan)
