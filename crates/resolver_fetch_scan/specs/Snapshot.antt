-- What a scan reads, and which peers may be asked.
use Rattle.std.specs.Prelude.{ℕ, List, Option, option_map}
use Rattle.std.specs.NonZero.{non_zero_u32_get}
use Rattle.resolver_sampling.specs.declared.score.Averages.{Averages}
use Rattle.resolver_fetch_scan.specs.declared.config.Config.{Config}
use Rattle.resolver_fetch_requests.specs.declared.requests.request.Request.{Request}
use Rattle.resolver_fetch_requests.specs.Loads.{load_of}
use Rattle.resolver_fetch_scan.specs.Orders.{Orders}
use Rattle.resolver_fetch_scan.specs.Known as peers
use Rattle.resolver_fetch_scan.specs.Known.{Known}
use Rattle.resolver_fetch_scan.specs.Waiting.{Waiting}

-- what a scan reads of a fetcher, or of the peer machine
pub record Snapshot (K P : Type 0) : Type 0 where
  -- in the order of waiting keys
  pub waiting : List (K × Waiting P)
  -- requests without an answer so far, in the order of their ids
  pub asked : List (ℕ × Request K P)
  -- the latest set, in the order of the peers
  pub peers : List (P × Averages)
  pub blocked : List P
  pub configuration : Config P
  -- none: no id was ever taken
  pub last_id : Option ℕ

-- what is known of the peers
abbrev pub known : {K P : Type 0} → Orders K P → Snapshot K P → Known P
known o s = record {
  local = s.configuration.me;
  set = s.peers;
  blocked = s.blocked;
  load = load_of o.peer (option_map non_zero_u32_get s.configuration.peer_limit) s.asked;
}

-- the peers that may be asked for a key with these targets
abbrev pub eligible : {K P : Type 0} → Orders K P → Snapshot K P → Option (List P) → List (P × Averages)
eligible o s targets = peers.eligible o.peer (known o s) targets
