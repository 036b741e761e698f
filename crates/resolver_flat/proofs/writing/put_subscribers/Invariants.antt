use Rattle.std.proofs.Common.{◌≡◌, ◌++◌, drop}
use Rattle.std.specs.Prelude.{map}
use Rattle.std.specs.List.{concat}
use Rattle.resolver_flat.specs.Spelling.{subscriber, subscribers}
use Rattle.resolver_flat.proofs.writing.put_subscribers.Given as goal

-- what is written, with those that are left, is all of it
abbrev pub invariant-loop-one : goal.invariant-loop-one
invariant-loop-one l = l.out.items ++ concat (map subscriber (drop l.one-index l.subscribers)) ≡ l.fn.out.items ++ subscribers l.subscribers
