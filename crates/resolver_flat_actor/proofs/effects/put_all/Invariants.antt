use Rattle.std.proofs.Common.{◌≡◌, ◌++◌, drop}
use Rattle.resolver_flat_actor.specs.Effects.{all_spelled}
use Rattle.resolver_flat_actor.proofs.effects.put_all.Given as goal

-- what is written, with those that are left, is all of it
abbrev pub invariant-loop-effect : goal.invariant-loop-effect
invariant-loop-effect g l = l.out.items ++ all_spelled g.K.Span.bytes_of (drop l.effect-index l.effects) ≡ l.fn.out.items ++ all_spelled g.K.Span.bytes_of l.effects
