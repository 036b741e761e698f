-- Parts without demand.
use Rattle.std.proofs.Common.{◌≡◌, ap, Bool, [], map, None}
use Rattle.std.specs.List.{IsDistinct}
use Rattle.std.specs.List.Sorted.{IsStrictlySortedBy}
use Rattle.resolver_fetch_scan.specs.declared.config.Config.{Config}
use Rattle.resolver_fetch_scan.specs.Fetcher as fetchers
use Rattle.resolver_model_peer.specs.Parties.{Parties}
use Rattle.resolver_model_peer.specs.Peer.{opening}
use Rattle.resolver_peer_step.specs.declared.parts.Parts.{Parts}
use Rattle.resolver_peer_step.specs.Tied.{Agrees, IsSound, held_of, open_of}

module _ {K S P : Type 0} (a : Parties K S P) where
  opening-sound : (configuration : Config P) (priority : Bool) → IsSound a (opening {S = S} configuration priority)
  unfolding IsDistinct IsStrictlySortedBy
  opening-sound configuration priority = record { ordered = tt; ids = tt; own = tt; below = tt; new_id = tt }

  pub opened : (e : Parts K P S) (configuration : Config P) (priority : Bool) → e.demand ≡ [] → e.entries ≡ record { keys = []; going = []; next = 0 }
      → e.fetcher ≡ fetchers.opening configuration → e.serves.entries ≡ [] → e.next_serve ≡ 0 → e.last_index ≡ None → e.priority_responses ≡ priority
      → Agrees a e (opening configuration priority)
  opened e configuration priority demand entries fetcher serves next index replies = record {
    sound = opening-sound configuration priority;
    demand = demand;
    entries = ap (λ e. map (λ x. (x.0, held_of x.1)) e.keys) entries;
    deliveries = ap (λ e. map (λ x. (x.0, open_of x.1)) e.going) entries;
    next_delivery = ap (λ e. e.next) entries;
    fetcher = fetcher;
    serves = serves;
    next_serve = next;
    last_index = index;
    priority = replies;
  }
