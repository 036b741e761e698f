use Rattle.std.proofs.Common.{arith}
use Rattle.std.proofs.lemmas.Bool.{false≢true}
use Rattle.resolver_messages.specs.Waiting.{item_of}
use Rattle.resolver_mailbox.proofs.Agreeing.{refuted, same-at}
use Rattle.resolver_mailbox.proofs.mailbox.agreeing.are_same_items.Goals as goal

pub returns-then-not-is_same_item : goal.returns-then-not-is_same_item
returns-then-not-is_same_item g c = (
  λ wrong. absurd (false≢true wrong),
  λ same.
      absurd (refuted c.is_same_item.result c.if-not-is_same_item.true c.is_same_item.ensures.1
      (same-at item_of c.args.these.now c.args.those.now c.loop-place.place c.index-these-place.result c.index-those-place.result c.loop-place-test.true (omega (arith, c.loop-place-test.true, c.if-these-those.false)) c.index-these-place.is c.index-those-place.is same)),
)
