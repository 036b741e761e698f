-- Who is eligible, in plain words.
use Rattle.std.specs.Prelude.{◌≡◌, ℕ, ◌<◌, true, false, List, Option, Some, option_map}
use Rattle.std.specs.NonZero.{non_zero_u32_get}
use Rattle.resolver_sampling.specs.declared.score.Averages.{Averages}
use Rattle.resolver_fetch_requests.specs.Requests.{requests_to}
use Rattle.resolver_fetch_scan.specs.Orders.{Orders, is_one_of, same_peer}
use Rattle.resolver_fetch_scan.specs.Snapshot.{Snapshot, eligible}
use Rattle.resolver_fetch_scan.specs.FetcherLaws.{IsAmong}

module _ {K P : Type 0} (o : Orders K P) where
  -- the peer may be asked for a key with these targets: it is in the latest set, not local, not blocked, below the limit, and one of the targets, where there are such
  pub record MayBeAsked (s : Snapshot K P) (targets : Option (List P)) (peer : P) : Type 0 where
    pub in_set : (x : Averages) × IsAmong (peer, x) s.peers
    pub not_local : (local : P) → s.configuration.me ≡ Some local → same_peer o local peer ≡ false
    pub not_blocked : is_one_of o.peer s.blocked peer ≡ false
    pub not_full : (most : ℕ) → option_map non_zero_u32_get s.configuration.peer_limit ≡ Some most → requests_to o.peer s.asked peer < most
    pub target : (names : List P) → targets ≡ Some names → is_one_of o.peer names peer ≡ true

  -- Exactly such peers of the set are eligible.
  pub record EligibleMeans : Type 0 where
    pub alone : (s : Snapshot K P) (targets : Option (List P)) (peer : P) (x : Averages) → IsAmong (peer, x) (eligible o s targets) → MayBeAsked s targets peer
    pub all : (s : Snapshot K P) (targets : Option (List P)) (peer : P) (x : Averages) → IsAmong (peer, x) s.peers → MayBeAsked s targets peer
        → IsAmong (peer, x) (eligible o s targets)
