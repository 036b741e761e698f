use Rattle.std.proofs.Common.{ap, ◌∙◌, length}
use Rattle.resolver_core.proofs.p2p.counts.metrics.Goals as goal

pub returns-clause-pending : goal.returns-clause-pending
returns-clause-pending g c = λ m is. c.len_pending.ensures ∙ ap (λ f. length f.waiting) is.fetcher

pub returns-clause-active : goal.returns-clause-active
returns-clause-active g c = λ m is. c.len_active.ensures ∙ ap (λ f. length f.asked) is.fetcher

pub returns-clause-serves : goal.returns-clause-serves
returns-clause-serves g c = λ m is. c.len.ensures.len ∙ ap length is.serves
