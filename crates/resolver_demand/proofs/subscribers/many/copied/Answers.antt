use Rattle.std.proofs.Common.{ap}
use Rattle.resolver_demand.proofs.Copied.{one-more}
use Rattle.resolver_demand.proofs.subscribers.many.copied.Goals as goal

pub loop-one-preserved : goal.loop-one-preserved
loop-one-preserved g c =
    let same = c.requires c.in-Some.one.now c.in_ok-clone.field-0 c.in_ok-clone.ensures.cases in
    one-more c.loop-one.list.items c.push.new.self.items c.loop-one.one-iterator c.next.new.self c.args.map.now.entries
    (c.in-Some.one.now, c.in-Some.mark.now) (c.in_ok-clone.field-0, c.in-Some.mark.now) c.in_ok-push.ensures.items (ap (λ one. (one, c.in-Some.mark.now)) same) c.in-Some.ensures.steps c.loop-one.invariant
