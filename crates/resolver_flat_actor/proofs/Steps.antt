-- Steps of an actor in bytes.
use Rattle.std.proofs.Common.{◌≡◌, ℕ, List, Some, Result, subst}
use Rattle.resolver_base.specs.declared.fault.Fault.{Fault}
use Rattle.resolver_model_opaque.specs.Opaque.{Machine}
use Rattle.resolver_model_opaque.specs.OpaqueSteps.{Input, Takes}
use Rattle.resolver_flat.specs.Naming.{Shape, by_name}
use Rattle.resolver_flat_actor.specs.Inputs.{input_from}
use Rattle.resolver_flat_actor.specs.Steps.{Flat, Told, Took}

-- what the actor within takes, the actor in bytes takes
pub took : {K : Type 0} (n : Shape K) (bytes : List ℕ) (within old : Flat K) (new : Machine K (List ℕ) ℕ) (input : Input K (List ℕ) ℕ) (answer : Result (Told K) Fault) → within ≡ old
    → input_from n bytes ≡ Some input → Takes (by_name n) within.machine input answer new → Took n bytes old.machine answer new
took {K} n bytes within old new input answer is spelled takes =
    record { input = input; spelled = spelled; takes = subst (λ (flat : Flat K). Takes (by_name n) flat.machine input answer new) is takes }
