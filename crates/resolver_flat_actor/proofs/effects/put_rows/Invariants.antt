use Rattle.std.proofs.Common.{◌≡◌, ◌++◌, drop}
use Rattle.resolver_flat_actor.specs.Effects.{all_rows}
use Rattle.resolver_flat_actor.proofs.effects.put_rows.Given as goal

-- what is written, with those that are left, is all of it
abbrev pub invariant-loop-row : goal.invariant-loop-row
invariant-loop-row g l = l.out.items ++ all_rows g.K.Span.bytes_of (drop l.row-index l.rows) ≡ l.fn.out.items ++ all_rows g.K.Span.bytes_of l.rows
