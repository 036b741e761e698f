use Rattle.std.proofs.Common.{rules, ◌≡◌, ◌∙◌, sym, ap, [], map, length, ◌<◌, List, subst}
use Rattle.resolver_types.specs.Names.{names}
use Rattle.resolver_messages.specs.declared.message.Message.TheVariants as messages
use Rattle.resolver_messages.specs.declared.message.FetchKey.{FetchKey}
use Rattle.resolver_messages.specs.Waiting.{Drains, Item, batch_told, item_of, told_of}
use Rattle.resolver_desk.proofs.Drained.{drains-batch, drains-batch-refused, drains-nothing, filed-again, filed-none, nothing}
use Rattle.resolver_desk.proofs.pending.Pending.drain_batch.Goals as goal

pub returns-then-is_empty-clause-drains : goal.returns-then-is_empty-clause-drains
returns-then-is_empty-clause-drains g c =
    let was : c.args.self.now.batch ≡ map item_of c.self.inside.batch.items = ap (λ backlog. backlog.batch) (sym c.self.view_is) in
    let none : c.self.inside.batch.items ≡ [] = nothing c.self.inside.batch.items (search rules) in
    subst (λ (items : List (Item g.row.K.Denot g.row.S.Denot g.row.M.Denot)). Drains (goal.F-step g) c.args.push.now (batch_told items) (batch_told items)) (sym (was ∙ ap (map item_of) none)) (drains-nothing (goal.F-step g) c.args.push.now)

pub invariant_of-self-in-Some : goal.invariant_of-self-in-Some
invariant_of-self-in-Some g c =
    filed-again (names g.K.Ord.cmp g.S.Ord.cmp) c.self.inside.places c.in-Some.back.items c.self.inside.batch.items
    (c.in-Some.ensures.same ∙ ap (λ batch. map item_of batch.items) c.replace-batch.ensures.value) c.self.invariant

pub invariant_of-self : goal.invariant_of-self
invariant_of-self g c = filed-none (names g.K.Ord.cmp g.S.Ord.cmp) _ _ c.clear.ensures (ap (λ batch. batch.items) c.replace-batch.ensures.after ∙ c.new.ensures.items)

pub returns-in-None-clause-drains : goal.returns-in-None-clause-drains
returns-in-None-clause-drains g c =
    let was : c.args.self.now.batch ≡ map item_of c.self.inside.batch.items = ap (λ backlog. backlog.batch) (sym c.self.view_is) in
    let some : 0 < length c.self.inside.batch.items = search rules in
    let none : c.replace-batch.new.dest.items ≡ [] = ap (λ batch. batch.items) c.replace-batch.ensures.after ∙ c.new.ensures.items in
    subst (λ (left : List (FetchKey g.row.K.Denot g.row.S.Denot g.row.M.Denot)). Drains (goal.F-step g) c.args.push.now (batch_told c.args.self.now.batch) (batch_told (map item_of left))) (sym none)
    (drains-batch (goal.F-step g) c.args.push.now c.offer_batch.new.push c.args.self.now.batch c.self.inside.batch.items (messages.Fetch c.replace-batch.result) was
    (ap (λ batch. told_of (messages.Fetch batch)) c.replace-batch.ensures.value) some c.in-None.ensures.step)

pub returns-in-Some-clause-drains : goal.returns-in-Some-clause-drains
returns-in-Some-clause-drains g c =
    let was : c.args.self.now.batch ≡ map item_of c.self.inside.batch.items = ap (λ backlog. backlog.batch) (sym c.self.view_is) in
    let some : 0 < length c.self.inside.batch.items = search rules in
    let step = c.in-Some.ensures.step in
    drains-batch-refused (goal.F-step g) c.args.push.now c.offer_batch.new.push c.args.self.now.batch c.self.inside.batch.items c.in-Some.back.items (messages.Fetch c.replace-batch.result) step.0 was
    (ap (λ batch. told_of (messages.Fetch batch)) c.replace-batch.ensures.value)
    (c.in-Some.ensures.same ∙ ap (λ batch. map item_of batch.items) c.replace-batch.ensures.value) some step.1
