use Rattle.resolver.proofs.Made.{if-made}
use Rattle.resolver.proofs.p2p.engine.Engine.start.Goals as goal

pub start_made-requires-clause-can_poll : goal.start_made-requires-clause-can_poll
start_made-requires-clause-can_poll g c κs within = if-made _ (λ made. tt) c.into_loop.result
