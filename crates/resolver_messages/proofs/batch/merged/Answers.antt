use Rattle.std.proofs.Common.{◌∙◌, ap}
use Rattle.resolver_types.specs.Subscribers.{joined_subscribers}
use Rattle.resolver_messages.proofs.Items.{same-item}
use Rattle.resolver_messages.proofs.batch.merged.Goals as goal

pub returns-clause-both : goal.returns-clause-both
returns-clause-both g c = same-item _ _ _ _ _ _
    (c.requires.keys_clone c.args.earlier.now.key c.in_ok-key.key c.in_ok-key.ensures.cases)
    (c.in_ok-join_subscribers.ensures.ok ∙ ap (λ ss. joined_subscribers g.S.Ord.cmp ss c.args.later.subscribers) c.in_ok-subscribers.ensures.same)
    (c.in_ok-merge.ensures.ok ∙ ap (λ m. g.M.Metadata.merged m c.args.later.metadata) c.in_ok-metadata.ensures.same)
