use Rattle.resolver_messages.proofs.Items.{same-item}
use Rattle.resolver_messages.proofs.message.FetchKey.copy.Goals as goal

pub returns-clause-same : goal.returns-clause-same
returns-clause-same g c = same-item _ _ _ _ _ _
    (c.requires.keys_clone c.args.self.now.key c.in_ok-clone.field-0 c.in_ok-clone.ensures.cases) c.in_ok-clone-2.ensures.same c.in_ok-copy.ensures.same
