use Rattle.std.proofs.Common.{map, take}
use Rattle.std.specs.List.{All}
use Rattle.resolver_desk.specs.Book.{call_of}
use Rattle.resolver_mailbox.specs.Shares.{AgreesWith}
use Rattle.resolver_mailbox.proofs.mailbox.agreeing.agrees.Given as goal

-- The book agrees with the first shares.
abbrev pub invariant-loop-share : goal.invariant-loop-share
invariant-loop-share g l = All (λ share. AgreesWith (map call_of l.book) share.now) (take l.share-index l.shares)
