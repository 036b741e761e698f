use Rattle.std.proofs.Common.{◌≡◌, ◌++◌, drop}
use Rattle.resolver_backfill.specs.Plans.{fetches_of}
use Rattle.resolver_backfill.proofs.plan.Plan.fetches.Given as goal

-- what was made, and then what is left, is all
abbrev pub invariant-loop-key : goal.invariant-loop-key
invariant-loop-key g l = l.fetches.items ++ fetches_of l.self (drop l.key-index l.keys) ≡ fetches_of l.self l.keys
