-- What an engine's configuration says of its fetcher.
use Rattle.resolver_fetch_scan.specs.declared.config.Config.{Config as Fetching}
use Rattle.resolver.specs.declared.p2p.config.Config.{Config}

-- how requests are made
abbrev pub fetching : {P D B C O : Type 0} → Config P D B C O → Fetching P
fetching cfg = record {
  me = cfg.me;
  fetch_timeout = cfg.fetch_timeout;
  retry_delay = cfg.fetch_retry_delay;
  peer_limit = cfg.peer_limit;
  priority_requests = cfg.priority_requests;
}
