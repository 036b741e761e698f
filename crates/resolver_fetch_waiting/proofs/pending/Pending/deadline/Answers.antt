use Rattle.std.proofs.Common.{rules}
use Rattle.resolver_fetch_waiting.proofs.pending.Pending.deadline.Goals as goal

pub returns-in-Clear : goal.returns-in-Clear
returns-in-Clear g c = search rules

pub returns-in-Later : goal.returns-in-Later
returns-in-Later g c = search rules
