use Rattle.std.proofs.Common.{◌≡◌, ◌∙◌, sym, ap, rules, ◌∷◌, ◌++◌, []}
use Rattle.resolver_messages.specs.Waiting.{undone_all}
use Rattle.resolver_messages.proofs.Queue.{undone_all-push}
use Rattle.resolver_messages.proofs.batch.take_back.Goals as goal

pub loop-change-preserved : goal.loop-change-preserved
loop-change-preserved g c =
    let popped : c.loop-change.changes.items ≡ c.pop.new.self.items ++ c.in-Some.change ∷ [] = search rules in
    rw c.take_back_one.ensures (sym (undone_all-push c.pop.new.self.items c.in-Some.change c.loop-change.batch.items)
    ∙ ap (λ changes. undone_all changes c.loop-change.batch.items) (sym popped)
    ∙ c.loop-change.invariant)
