use Rattle.std.proofs.Common.{◌∙◌, map, ◌++◌, subst}
use Rattle.resolver_messages.specs.Waiting.{Backlog, Drains, Retains, backlog_of, batch_told, item_of, waiting}
use Rattle.resolver_desk.proofs.Drained.{drains-all}
use Rattle.resolver_desk.proofs.pending.Pending.drain.Goals as goal

pub returns-then-drain_retains : goal.returns-then-drain_retains
returns-then-drain_retains g c =
    subst (λ (was : Backlog g.row.K.Denot g.row.S.Denot g.row.M.Denot g.row.Q.Denot). Drains (goal.F-step g) c.args.push (waiting was) (waiting c.drain_batch.new.self)) c.self.view_is
    (drains-all (goal.F-step g) c.args.push c.drain_retains.new.push (backlog_of c.self.inside.retains.items c.self.inside.batch.items) c.drain_batch.new.self
    (c.drain_retains.ensures.taken c.if-drain_retains.true)
    (c.drain_batch.ensures.retains ∙ c.drain_retains.ensures.all c.if-drain_retains.true)
    c.drain_batch.ensures.drains)

pub returns : goal.returns
returns g c =
    subst (λ (was : Backlog g.row.K.Denot g.row.S.Denot g.row.M.Denot g.row.Q.Denot). Drains (goal.F-step g) c.args.push (waiting was)
    (map Retains c.drain_retains.new.retains.items ++ batch_told (map item_of c.self.inside.batch.items))) c.self.view_is
    (c.drain_retains.ensures.refused c.if-drain_retains.false (batch_told (map item_of c.self.inside.batch.items)))
