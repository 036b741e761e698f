use Rattle.std.proofs.Common.{rules, ◌≡◌, ◌∷◌, ◌++◌, [], map, List, subst}
use Rattle.resolver_messages.specs.declared.message.Message.TheVariants as messages
use Rattle.resolver_messages.specs.Waiting.{Retains, Takes}
use Rattle.resolver_desk.proofs.Drained.{drains-refused, takes-behind, takes-none, takes-one}
use Rattle.resolver_desk.proofs.drain.drain_retains.Goals as goal

pub loop-keep-init : goal.loop-keep-init
loop-keep-init g c = record {
  callable = c.requires.callable;
  takes = takes-none (goal.F-step g) c.args.push.now (map Retains c.args.retains.now.items);
}

pub returns-in-Some-offer_retain-clause-refused : goal.returns-in-Some-offer_retain-clause-refused
returns-in-Some-offer_retain-clause-refused g c is behind =
    let popped : c.loop-keep.retains.items ≡ c.in-Some.keep ∷ c.pop_front.new.self.items = search rules in
    let same : c.in-Some-offer_retain.back ≡ c.in-Some.keep = search rules in
    let put : c.push_front_reserved.new.self.items ≡ c.in-Some.keep ∷ c.pop_front.new.self.items = search rules in
    let step = c.in-Some-offer_retain.ensures.step in
    let takes = subst (λ (items : List g.row.Q.Denot). Takes (goal.F-step g) c.args.push.now c.loop-keep.push (map Retains c.args.retains.now.items) (map Retains items)) popped c.loop-keep.invariant.takes in
    let before = takes-behind (goal.F-step g) c.args.push.now c.loop-keep.push (map Retains c.args.retains.now.items) (map Retains (c.in-Some.keep ∷ c.pop_front.new.self.items)) behind takes in
    rw put (drains-refused (goal.F-step g) c.args.push.now c.loop-keep.push c.offer_retain.new.push
    (map Retains c.args.retains.now.items ++ behind) (map Retains c.pop_front.new.self.items ++ behind)
    (messages.Retain c.in-Some.keep) step.0 before step.1)

pub loop-keep-preserved : goal.loop-keep-preserved
loop-keep-preserved g c =
    let popped : c.loop-keep.retains.items ≡ c.in-Some.keep ∷ c.pop_front.new.self.items = search rules in
    let takes = subst (λ (items : List g.row.Q.Denot). Takes (goal.F-step g) c.args.push.now c.loop-keep.push (map Retains c.args.retains.now.items) (map Retains items)) popped c.loop-keep.invariant.takes in
    record {
      callable = c.in_default-offer_retain.ensures.callable;
      takes = takes-one (goal.F-step g) c.args.push.now c.loop-keep.push c.offer_retain.new.push (map Retains c.args.retains.now.items) (map Retains c.pop_front.new.self.items)
          (messages.Retain c.in-Some.keep) takes c.in_default-offer_retain.ensures.step;
    }

pub returns-clause-taken : goal.returns-clause-taken
returns-clause-taken g c is =
    let none : c.loop-keep.retains.items ≡ [] = search rules in
    subst (λ (items : List g.row.Q.Denot). Takes (goal.F-step g) c.args.push.now c.loop-keep.push (map Retains c.args.retains.now.items) (map Retains items)) none c.loop-keep.invariant.takes
