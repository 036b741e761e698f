use Rattle.resolver_desk.proofs.pending.Pending.handle.Goals as goal

pub returns-in-Fetch-clause-right : goal.returns-in-Fetch-clause-right
returns-in-Fetch-clause-right g c = rw c.in-Fetch.is c.fetch.ensures.right

pub returns-in-Retain-clause-right : goal.returns-in-Retain-clause-right
returns-in-Retain-clause-right g c = rw c.in-Retain.is c.retain.ensures.right
