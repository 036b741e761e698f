use Rattle.std.proofs.Common.{◌≡◌, List, Some, rules}
use Rattle.resolver_messages.specs.declared.message.Message.TheVariants.{Fetch}
use Rattle.resolver_messages.specs.Waiting.{Fetches, Item, Told}
use Rattle.resolver_desk.proofs.drain.offer_batch.Goals as goal

same_items : {K S M Q : Type 0} (back given : List (Item K S M)) → ◌≡◌ {A = Told K S M Q} (Fetches back) (Fetches given) → back ≡ given
same_items back given same = cc

pub returns-clause-same : goal.returns-clause-same
returns-clause-same g c =
    let back = c.requires.hands_back c.args.push.now (Fetch c.args.batch) (Some c.in_ok-back.back) c.push.new.self (search rules) in
    same_items _ _ (rw c.in-Fetch.is at back)
