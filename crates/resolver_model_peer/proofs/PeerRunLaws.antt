-- Laws of runs, where memory may be wanting.
use Rattle.std.proofs.Common.{◌≡◌, refl, ap, sym, subst, ◌<◌, Bool, true, false, List, [], ◌∷◌, ◌++◌, length, Result, Ok, Err, arith}
use Rattle.std.specs.Prelude.{MatchBool, ⊤}
use Rattle.std.specs.Cmp.{IsTotalOrder}
use Rattle.resolver_base.specs.declared.fault.Fault.{Fault}
use Rattle.resolver_base.specs.declared.fault.Fault.TheVariants as faults
use Rattle.resolver_fetch_scan.specs.FetcherLaws.{AllAre}
use Rattle.resolver_model_peer.specs.Parties.{Parties}
use Rattle.resolver_model.specs.Steps.{Runs, Takes, stops}
use Rattle.resolver_model.specs.declared.status.Status.TheVariants.{Failed}
use Rattle.resolver_model_peer.specs.Peer.{Machine, Effect}
use Rattle.resolver_model_peer.specs.PeerRun.{Fed, after, answers, effects_of}
use Rattle.resolver_model_peer.specs.PeerAwake.{IsAwake}
use Rattle.resolver_model_peer.specs.PeerLaws.{HasNewId}
use Rattle.resolver_model_peer.specs.PeerRunLaws.{AsksNew, KeepsAwake, RunLaws, step_on}
use Rattle.resolver_model_peer.proofs.IdsAreNew.{IsNumbered, step-new}
use Rattle.resolver_model_peer.proofs.StaysAwake.{stays_awake}

module _ {K S P : Type 0} (a : Parties K S P) (MayWant : Machine K S P → Fed K S P → Type 0) (HasFailed : Machine K S P → Type 0) where
  abbrev Run : (old : Machine K S P) → List (Fed K S P) → List (Result (List (Effect K S P)) Fault) → (new : Machine K S P) → Type 0
  Run = Runs (step_on a) MayWant HasFailed

  -- a step at which nothing is wanting is the machine's
  pub goes-on : (old : Machine K S P) (i : Fed K S P) (answer : Result (List (Effect K S P)) Fault) (mid : Machine K S P) → Takes (step_on a) MayWant HasFailed old i answer mid → stops answer ≡ false
      → step_on a old i ≡ (answer, mid)
  goes-on old i (Ok effects) mid takes goes = takes
  goes-on old i (Err faults.OutOfMemory) mid takes goes = absurd cc
  goes-on old i (Err faults.Exhausted) mid takes goes = absurd cc
  goes-on old i (Err fault) mid takes goes = takes

  -- a run in which nothing is wanting is the machine's
  pub run-after : (old : Machine K S P) (inputs : List (Fed K S P)) (given : List (Result (List (Effect K S P)) Fault)) (new : Machine K S P)
      → Run old inputs given new → AllAre (λ answer. stops answer ≡ false) given → (given ≡ answers a old inputs) × (new ≡ after a old inputs)
  run-after old [] [] new run goes = (refl, run)
  run-after old [] (answer ∷ given) new run goes = absurd run
  run-after old (i ∷ is) [] new run goes = absurd run
  run-after old (i ∷ is) (answer ∷ given) new run goes =
      at (stops answer) goes.0 run.2 (λ later. run-after run.0 is given new later goes.1) (goes-on old i answer run.0 run.1 goes.0) where
        at : (b : Bool) → b ≡ false → MatchBool b ((given ≡ []) × (new ≡ run.0)) (Run run.0 is given new)
            → (Run run.0 is given new → (given ≡ answers a run.0 is) × (new ≡ after a run.0 is)) → step_on a old i ≡ (answer, run.0)
            → (answer ∷ given ≡ answers a old (i ∷ is)) × (new ≡ after a old (i ∷ is))
        at true is_b rest later taken = absurd cc
        at false is_b rest later taken =
            let found = later rest in
            let first : (step_on a old i).0 ≡ answer = ap (λ (x : Result (List (Effect K S P)) Fault × Machine K S P). x.0) taken in
            let mid : (step_on a old i).1 ≡ run.0 = ap (λ (x : Result (List (Effect K S P)) Fault × Machine K S P). x.1) taken in (
              subst (λ (x : Result (List (Effect K S P)) Fault). answer ∷ given ≡ x ∷ answers a (step_on a old i).1 is) (sym first)
                  (subst (λ (m : Machine K S P). answer ∷ given ≡ answer ∷ answers a m is) (sym mid) (ap (λ rest. answer ∷ rest) found.0)),
              subst (λ (m : Machine K S P). new ≡ after a m is) (sym mid) found.1,
            )

  -- A run that is longer than some first inputs has the machine's answers to them, and goes on from the machine after them.
  pub run-past : (old : Machine K S P) (before rest : List (Fed K S P)) (given : List (Result (List (Effect K S P)) Fault)) (new : Machine K S P)
      → Run old (before ++ rest) given new → length before < length given
      → (more : List (Result (List (Effect K S P)) Fault)) × (given ≡ answers a old before ++ more) × Run (after a old before) rest more new
  run-past old [] rest given new run long = (given, refl, run)
  run-past old (i ∷ is) rest [] new run long = absurd run
  run-past old (i ∷ is) rest (answer ∷ given) new run long =
      at (stops answer) refl run.2 (λ later. run-past run.0 is rest given new later (omega (arith, long))) where
        at : (b : Bool) → stops answer ≡ b → MatchBool b ((given ≡ []) × (new ≡ run.0)) (Run run.0 (is ++ rest) given new)
            → (Run run.0 (is ++ rest) given new → (more : List (Result (List (Effect K S P)) Fault)) × (given ≡ answers a run.0 is ++ more) × Run (after a run.0 is) rest more new)
            → (more : List (Result (List (Effect K S P)) Fault)) × (answer ∷ given ≡ answers a old (i ∷ is) ++ more) × Run (after a old (i ∷ is)) rest more new
        at true is_b left later = let none : length given ≡ 0 = ap length left.0 in absurd (omega (arith, long, none))
        at false is_b left later =
            let taken = goes-on old i answer run.0 run.1 is_b in
            let first : (step_on a old i).0 ≡ answer = ap (λ (x : Result (List (Effect K S P)) Fault × Machine K S P). x.0) taken in
            let mid : (step_on a old i).1 ≡ run.0 = ap (λ (x : Result (List (Effect K S P)) Fault × Machine K S P). x.1) taken in
            let found = later left in (
              found.0,
              subst (λ (x : Result (List (Effect K S P)) Fault). answer ∷ given ≡ x ∷ (answers a (step_on a old i).1 is ++ found.0)) (sym first)
                  (subst (λ (m : Machine K S P). answer ∷ given ≡ answer ∷ (answers a m is ++ found.0)) (sym mid) (ap (λ xs. answer ∷ xs) found.1)),
              subst (λ (m : Machine K S P). Run (after a m is) rest found.0 new) (sym mid) found.2,
            )

  pub keeps-awake : IsTotalOrder a.key → (old : Machine K S P) (inputs : List (Fed K S P)) (given : List (Result (List (Effect K S P)) Fault)) (new : Machine K S P)
      → Run old inputs given new → KeepsAwake a old inputs given new
  keeps-awake total old inputs given new run awake forward goes =
      subst (λ (m : Machine K S P). IsAwake a m) (sym (run-after old inputs given new run goes).1) ((stays_awake a total).later old inputs awake forward)

  asks-none : (old : Machine K S P) (inputs : List (Fed K S P)) → AsksNew a old inputs []
  asks-none old [] = tt
  asks-none old (i ∷ is) = tt

  stops-none : (m : Machine K S P) (answer : Result (List (Effect K S P)) Fault) → stops answer ≡ true → AllAre (HasNewId a m) (effects_of answer)
  stops-none m (Ok effects) is = absurd cc
  stops-none m (Err fault) is = tt

  pub asks-new : (old : Machine K S P) (inputs : List (Fed K S P)) (given : List (Result (List (Effect K S P)) Fault)) (new : Machine K S P)
      → IsNumbered old → Run old inputs given new → AsksNew a old inputs given
  asks-new old [] given new numbered run = tt
  asks-new old (i ∷ is) [] new numbered run = tt
  asks-new old (i ∷ is) (answer ∷ given) new numbered run =
      at (stops answer) refl run.2 (λ mid later. asks-new run.0 is given new mid later) where
        at : (b : Bool) → stops answer ≡ b → MatchBool b ((given ≡ []) × (new ≡ run.0)) (Run run.0 is given new)
            → (IsNumbered run.0 → Run run.0 is given new → AsksNew a run.0 is given) → AsksNew a old (i ∷ is) (answer ∷ given)
        at true is_b rest later =
            ((λ few. stops-none (step_on a old i).1 answer is_b), subst (λ (more : List (Result (List (Effect K S P)) Fault)). AsksNew a (step_on a old i).1 is more) (sym rest.0) (asks-none (step_on a old i).1 is))
        at false is_b rest later =
            let taken = goes-on old i answer run.0 run.1 is_b in
            let first : (step_on a old i).0 ≡ answer = ap (λ (x : Result (List (Effect K S P)) Fault × Machine K S P). x.0) taken in
            let mid : (step_on a old i).1 ≡ run.0 = ap (λ (x : Result (List (Effect K S P)) Fault × Machine K S P). x.1) taken in
            let new_step = step-new a old i.now i.input numbered in (
              (λ few. subst (λ (x : Result (List (Effect K S P)) Fault). AllAre (HasNewId a (step_on a old i).1) (effects_of x)) first (new_step.1 few)),
              subst (λ (m : Machine K S P). AsksNew a m is given) (sym mid) (later (subst (λ (m : Machine K S P). IsNumbered m) mid new_step.0) rest),
            )

module _ {K S P : Type 0} (a : Parties K S P) (total : IsTotalOrder a.key) where
  pub run_laws : RunLaws a
  run_laws = record {
    awake = keeps-awake a (λ m i. ⊤) (λ m. m.status ≡ Failed) total;
    ids = λ configuration replies_first inputs given new run. asks-new a (λ m i. ⊤) (λ m. m.status ≡ Failed) _ inputs given new (tt, tt) run;
  }
