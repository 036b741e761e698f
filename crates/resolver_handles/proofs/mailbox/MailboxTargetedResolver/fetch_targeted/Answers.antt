use Rattle.std.proofs.Common.{rules}
use Rattle.resolver_handles.proofs.mailbox.MailboxTargetedResolver.fetch_targeted.Goals as goal

pub returns : goal.returns
returns g c = search rules
