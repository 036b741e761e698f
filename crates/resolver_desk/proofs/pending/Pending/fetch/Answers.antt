use Rattle.std.proofs.Common.{map}
use Rattle.resolver_types.specs.Names.{names}
use Rattle.resolver_messages.specs.Waiting.{backlog_of, item_of}
use Rattle.resolver_messages.proofs.Right.{apart-queued_all, flips-by, follows-by, right-fetch}
use Rattle.resolver_desk.proofs.pending.Pending.fetch.Goals as goal

pub invariant_of-self : goal.invariant_of-self
invariant_of-self g c = rw (c.in_err-put_all.ensures.err_places, c.in_err-put_all.ensures.err) c.self.invariant

pub invariant_of-self-2 : goal.invariant_of-self-2
invariant_of-self-2 g c = record {
  placed = c.in_ok-put_all.ensures.placed;
  apart = rw c.in_ok-put_all.ensures.ok
      (apart-queued_all (names g.K.Ord.cmp g.S.Ord.cmp) g.M.Metadata.merged
      (flips-by g.K.Ord.cmp g.met.K.Ord.total) (follows-by g.K.Ord.cmp g.met.K.Ord.total) (follows-by g.S.Ord.cmp g.met.S.Ord.total)
      (map item_of c.self.inside.batch.items) (map item_of c.args.items.items) c.self.invariant.apart);
}

pub returns-clause-right : goal.returns-clause-right
returns-clause-right g c =
    let right = right-fetch (names g.K.Ord.cmp g.S.Ord.cmp) g.M.Metadata.merged
    (flips-by g.K.Ord.cmp g.met.K.Ord.total) (follows-by g.K.Ord.cmp g.met.K.Ord.total) (follows-by g.S.Ord.cmp g.met.S.Ord.total)
    g.Q.Predicate.keeps (backlog_of c.self.inside.retains.items c.self.inside.batch.items) (map item_of c.args.items.items) c.self.invariant.apart in
    λ d k s. rw (← c.self.view_is, c.in_ok-put_all.ensures.ok) (right d k s)
