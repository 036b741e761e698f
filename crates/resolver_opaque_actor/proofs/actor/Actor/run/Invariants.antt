use Rattle.std.proofs.Common.{◌+◌, ◌≤◌, ◌++◌, length, map, vec_len}
use Rattle.std.specs.Vec.{vec_capacity}
use Rattle.std.specs.Vec.Iter.{into_iter_items}
use Rattle.resolver_types.specs.Names.{names}
use Rattle.resolver_model_opaque.specs.OpaqueSteps.{Runs, answer_of}
use Rattle.resolver_model_opaque.specs.OpaqueInputs.{input_of}
use Rattle.resolver_opaque_actor.proofs.actor.Actor.run.Given as goal

-- What answers the inputs that are left, behind the answers so far, answers them all. There is room for the answers.
abbrev pub invariant-loop-input : goal.invariant-loop-input
invariant-loop-input g l =
    let n = names g.K.Ord.cmp g.S.Ord.cmp in
    record {
      rest : (more : _) (new : _) → Runs n l.self (map (input_of g.Q.Predicate.keeps) (into_iter_items l.input-iterator)) more new → Runs n l.fn.self (map (input_of g.Q.Predicate.keeps) l.fn.inputs.items) (map answer_of l.answers.items ++ more) new;
      room : vec_len l.answers + length (into_iter_items l.input-iterator) ≤ vec_capacity l.answers;
    }
