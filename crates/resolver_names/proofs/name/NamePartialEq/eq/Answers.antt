use Rattle.std.proofs.Common.{sym, ap, ◌∙◌}
use Rattle.std.specs.Cmp.Lexicographic.{texts_ties}
use Rattle.std.specs.Ordering.{is_eq}
use Rattle.resolver_names.proofs.name.NamePartialEq.eq.Goals as goal

pub returns : goal.returns
returns g c = c.is_eq.ensures ∙ ap is_eq c.order.ensures ∙ sym (texts_ties c.args.self.now.bytes c.args.other.now.bytes)
