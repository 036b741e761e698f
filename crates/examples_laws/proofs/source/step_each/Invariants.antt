use Rattle.std.proofs.Common.{◌≡◌, ◌++◌, List, map, false}
use Rattle.std.specs.List.{list_any}
use Rattle.std.specs.Vec.Iter.{into_iter_items}
use Rattle.resolver_model.specs.Steps.{stops}
use Rattle.resolver_types.specs.Names.{names}
use Rattle.resolver_model_opaque.specs.declared.inputs.Input.{Input}
use Rattle.resolver_model_opaque.specs.OpaqueInputs.{input_of}
use Rattle.resolver_model_opaque.specs.OpaqueSteps.{Runs, answer_of}
use Rattle.examples_laws.proofs.source.step_each.Given as goal

-- The inputs that aren't left were taken, with the answers so far, of which none ended the run.
abbrev pub invariant-loop-input : goal.invariant-loop-input
invariant-loop-input g l =
    record {
      taken : List (Input g.row.K.Denot g.row.V.Denot g.row.S.Denot g.row.Q.Denot);
      split : taken ++ into_iter_items l.input-iterator ≡ l.fn.inputs.items;
      runs : Runs (names g.K.Ord.cmp g.S.Ord.cmp) l.fn.actor (map (input_of g.Q.Predicate.keeps) taken) (map answer_of l.answers.items) l.actor;
      goes : list_any stops (map answer_of l.answers.items) ≡ false;
    }
