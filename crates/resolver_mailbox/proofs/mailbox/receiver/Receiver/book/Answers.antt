use Rattle.std.proofs.Common.{◌≡◌, ◌∙◌, ap, map}
use Rattle.resolver_base.specs.declared.fault.Fault.TheVariants.{Uneven}
use Rattle.resolver_messages.specs.Waiting.{told_of}
use Rattle.resolver_desk.specs.Book.{call_of}
use Rattle.resolver_mailbox.proofs.Agreeing.{differs-empty}
use Rattle.resolver_mailbox.proofs.mailbox.receiver.Receiver.book.Goals as goal

pub returns-clause-uneven : goal.returns-clause-uneven
returns-clause-uneven g c unrecorded =
    let book = c.in_ok-book in
    differs-empty c.agreed.result (λ fault. fault ≡ Uneven) (map call_of book.book.items) (map told_of c.as_slice.result.now)
    c.args.self.now.taken (map (λ share. share.now) c.args.shares.now) (book.ensures.none unrecorded) (c.as_slice.ensures ∙ ap (λ inbox. inbox.taken) c.self.view_is) c.agreed.ensures.uneven
