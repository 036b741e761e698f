use Rattle.resolver_fetch_scan.specs.Known.{known_by, may_be_asked}
use Rattle.resolver_fetch.proofs.Refitting.{samples-keys}
use Rattle.resolver_fetch.proofs.Weighing.{sorted-eligible}
use Rattle.std.specs.Option.{option_copied}
use Rattle.resolver_fetch.proofs.fetcher.peers.Peers.new_pool.Goals.{in-Some+in_ok-peers-in-Some, in-None+in_ok-peers-in-None}
use Rattle.resolver_fetch.proofs.fetcher.peers.Peers.new_pool.Goals as goal

pub new-requires : goal.new-requires
new-requires g c =
    let known = known_by g.P.Ord.cmp c.args.self.now in
    record {
      ordered =
          elim c.match-targets.branch [
            | in-Some+in_ok-peers-in-Some w ↦ rw (w.peers-is, w.in_ok-peers-in-Some.ensures.ok) (sorted-eligible g.P.Ord.cmp known (option_copied c.args.targets) c.order.ensures.ordered)
            | in-None+in_ok-peers-in-None w ↦ rw (w.peers-is, w.in_ok-peers-in-None.ensures.ok, samples-keys (may_be_asked g.P.Ord.cmp known) c.args.self.now.set) c.order.ensures.ordered
          ];
    }
