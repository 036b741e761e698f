use Rattle.std.specs.Vec.Iter.{into_iter_items}
use Rattle.resolver_fetch_scan.specs.FetcherLaws.{AllAre}
use Rattle.resolver_core.specs.Asking.{CanBeAnswered}
use Rattle.resolver.proofs.p2p.looping.Loop.feed.Given as goal

-- what is left to be carried out can be answered
abbrev pub invariant-loop-effect : goal.invariant-loop-effect
invariant-loop-effect g l = AllAre CanBeAnswered (into_iter_items l.effect-iterator)
