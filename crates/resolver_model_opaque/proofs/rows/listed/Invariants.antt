use Rattle.std.proofs.Common.{◌≡◌, ◌++◌, map}
use Rattle.resolver_demand.specs.Rows.{AreListed}
use Rattle.resolver_model_opaque.specs.OpaqueTables.{rows_of}
use Rattle.resolver_model_opaque.specs.OpaqueListed.{listed}
use Rattle.resolver_model_opaque.proofs.rows.listed.Given as goal

-- the list so far, with what the keys that are left make
abbrev pub invariant-loop-key : goal.invariant-loop-key
invariant-loop-key g l = record {
  made : l.list.items ++ map listed (rows_of l.key-iterator l.rest) ≡ map listed (rows_of l.demand l.entries.keys);
  some : AreListed g.S.Ord.cmp l.key-iterator;
}
