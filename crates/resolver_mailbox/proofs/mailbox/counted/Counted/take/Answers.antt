use Rattle.std.proofs.Common.{◌∙◌, ◌≡◌, true, sym, ap, is_some}
use Rattle.std.specs.Option.{option_map}
use Rattle.resolver_messages.specs.Waiting.{told_of}
use Rattle.resolver_mailbox.proofs.Counts.{for-one, took-counted, took-recorded}
use Rattle.resolver_mailbox.proofs.mailbox.counted.Counted.take.Goals as goal

pub invariant_of-self-2 : goal.invariant_of-self-2
invariant_of-self-2 g c =
    let was = c.args.self.now in
    let totals = c.in-Some.totals in
    let took = c.take-2 in
    let some : is_some was.desk.book ≡ true = was.recorded ∙ sym was.totaled ∙ ap is_some c.in-Some.is in record {
      recorded = took-recorded (option_map told_of) took.result was.desk took.new.desk took.ensures.desk took.ensures.err_desk ∙ was.recorded;
      totaled = ap is_some (sym c.in-Some.is) ∙ was.totaled;
      counted = for-one _ _
          (took-counted (option_map told_of) took.result was.desk took.new.desk totals.puts.total totals.takes.total took.new.total.total totals.spare.parts some
          took.ensures.desk took.ensures.total took.ensures.err_desk took.ensures.err_total (was.counted totals c.in-Some.is));
    }
