use Rattle.std.proofs.Common.{◌≡◌, Some, rules}
use Rattle.resolver_messages.specs.declared.message.Message.TheVariants.{Retain}
use Rattle.resolver_messages.specs.Waiting.{Retains, Told}
use Rattle.resolver_desk.proofs.drain.offer_retain.Goals as goal

same_test : {K S M Q : Type 0} (back given : Q) → ◌≡◌ {A = Told K S M Q} (Retains back) (Retains given) → back ≡ given
same_test back given same = cc

pub returns-clause-same : goal.returns-clause-same
returns-clause-same g c =
    let back = c.requires.hands_back c.args.push.now (Retain c.args.keep) (Some c.in_ok-back.back) c.push.new.self (search rules) in
    same_test _ _ (rw c.in-Retain.is at back)
