use Rattle.resolver_flat.proofs.Items.{item_read}
use Rattle.resolver_flat.proofs.reading.FetchKeyU64OptionNonEmptyVecSpelled.read.Goals as goal

pub returns : goal.returns
returns g c = item_read _ _ _ _ _ _ _ _ _ _ c.in_ok-key.ensures c.in_ok-subscribers.ensures c.in_ok-metadata.ensures
