use Rattle.std.proofs.Common.{Option, subst, sym}
use Rattle.resolver_fetch_requests.specs.Loads.{Load}
use Rattle.resolver_fetch_scan.specs.Known.{known_by}
use Rattle.resolver_fetch_scan.specs.Pools.{IsWhole}
use Rattle.resolver_fetch.proofs.fetcher.Fetcher.find.Goals as goal

pub next_of-found-requires-clause-at_hand : goal.next_of-found-requires-clause-at_hand
next_of-found-requires-clause-at_hand g c =
    rw c.take_pool-at_hand.ensures.same
    (subst (λ (load : Option (Load g.row.P.Denot)). IsWhole g.P.Ord.cmp (record (known_by g.P.Ord.cmp c.self.inside.peers) { load = load }) c.take_pool-at_hand.result)
    c.self.invariant.1 c.take_pool-at_hand.ensures.whole)

pub invariant_of-self : goal.invariant_of-self
invariant_of-self g c = rw c.take_pool-at_hand.ensures.same c.self.invariant

pub put_pool-requires : goal.put_pool-requires
put_pool-requires g c = record {
  whole =
      rw c.take_pool-at_hand.ensures.same
      (subst (λ (load : Option (Load g.row.P.Denot)). IsWhole g.P.Ord.cmp (record (known_by g.P.Ord.cmp c.self.inside.peers) { load = load }) c.next_of-found.new.at_hand)
      (sym c.self.invariant.1) (rw c.take_pool-at_hand.ensures.same at c.next_of-found.ensures.at_hand));
}

pub invariant_of-self-2 : goal.invariant_of-self-2
invariant_of-self-2 g c = rw (c.put_pool.ensures.same, c.take_pool-at_hand.ensures.same) c.self.invariant

pub returns-clause-same : goal.returns-clause-same
returns-clause-same g c = rw (c.put_pool.ensures.same, c.take_pool-at_hand.ensures.same) c.self.view_is

pub returns-clause-ok : goal.returns-clause-ok
returns-clause-ok g c = rw (← c.self.view_is) (rw c.take_pool-at_hand.ensures.same at c.next_of-found.ensures.ok)
