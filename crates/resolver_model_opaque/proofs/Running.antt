-- The answers of a run, as lists in memory.
use Rattle.std.proofs.Common.{◌≡◌, refl, ap, List, [], ◌∷◌, ◌++◌, Result, Ok, Err, map}
use Rattle.std.specs.declared.vec.Vec.{Vec}
use Rattle.std.specs.declared.alloc.Global.{Global}
use Rattle.resolver_base.specs.declared.fault.Fault.{Fault}
use Rattle.resolver_base.specs.declared.fault.Fault.TheVariants as faults
use Rattle.resolver_model_opaque.specs.declared.effects.Effect.{Effect}
use Rattle.resolver_model_opaque.specs.OpaqueSteps.{answer_of}
use Rattle.resolver_model.specs.Steps.{stops}

pub stops-answer_of : {K V S : Type 0} (r : Result (Vec (Effect K V S) Global) Fault) → stops (answer_of r) ≡ stops r
stops-answer_of (Ok effects) = refl
stops-answer_of (Err faults.OutOfMemory) = refl
stops-answer_of (Err faults.Exhausted) = refl
stops-answer_of (Err fault) = refl

-- one more answer, and others behind it
pub map-more : {A B : Type 0} (f : A → B) (xs : List A) (a : A) (more : List B) → map f (xs ++ a ∷ []) ++ more ≡ map f xs ++ f a ∷ more
map-more f [] a more = refl
map-more f (x ∷ xs) a more = ap (λ rest. f x ∷ rest) (map-more f xs a more)

-- one more answer, behind all others
pub map-last : {A B : Type 0} (f : A → B) (xs : List A) (a : A) → map f xs ++ f a ∷ [] ≡ map f (xs ++ a ∷ [])
map-last f [] a = refl
map-last f (x ∷ xs) a = ap (λ rest. f x ∷ rest) (map-last f xs a)
