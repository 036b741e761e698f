use Rattle.std.proofs.Common.{◌∙◌, sym, subst, map}
use Rattle.std.proofs.lemmas.Bool.{false≢true}
use Rattle.resolver_messages.specs.Waiting.{told_of}
use Rattle.resolver_desk.specs.Book.{call_of}
use Rattle.resolver_mailbox.specs.Shares.{Agrees}
use Rattle.resolver_mailbox.proofs.mailbox.agreeing.agreed.Goals as goal

pub returns-then-not-agrees-clause-uneven : goal.returns-then-not-agrees-clause-uneven
returns-then-not-agrees-clause-uneven g c same =
    let agrees = subst (λ book. Agrees (map call_of book) (map told_of c.args.taken.now) (map (λ share. share.now) c.args.shares.now)) (sym c.as_slice.ensures.value) same in
    false≢true (sym c.if-not-agrees.true ∙ c.agrees.ensures.1 agrees)

pub returns-clause-agrees : goal.returns-clause-agrees
returns-clause-agrees g c =
    subst (λ book. Agrees (map call_of book) (map told_of c.args.taken.now) (map (λ share. share.now) c.args.shares.now)) c.as_slice.ensures.value (c.agrees.ensures.0 c.if-not-agrees.false)
