-- In each run of the peer machine, failed or not, each request goes to an eligible peer.
use Rattle.std.proofs.Common.{◌≡◌, ◌≢◌, ap, sym, ◌∙◌, subst, List, [], ◌∷◌, Result, Ok, Err}
use Rattle.resolver_base.specs.declared.fault.Fault.{Fault}
use Rattle.resolver_base.specs.declared.fault.Fault.TheVariants as faults
use Rattle.resolver_fetch_scan.specs.FetcherLaws.{AllAre}
use Rattle.resolver_model_peer.specs.Parties.{Parties}
use Rattle.resolver_model.specs.declared.status.Status.TheVariants.{Failed}
use Rattle.resolver_model_peer.specs.Peer.{Machine, Effect, step}
use Rattle.resolver_model_peer.specs.PeerRun.{Fed, effects_of}
use Rattle.resolver_model_peer.specs.PeerSteps.{Runs}
use Rattle.resolver_model_peer.specs.PeerLaws.{IsWellAsked, AreWellAsked, IsWellAskedThroughout}
use Rattle.resolver_model_peer.proofs.AsksEligible.{IsSound, step-fine}

module _ {K S P : Type 0} (a : Parties K S P) where
  abbrev Answered : Type 0
  Answered = Result (List (Effect K S P)) Fault × Machine K S P

  -- a step that answers so
  sound-then : (old mid : Machine K S P) (fed : Fed K S P) (answer : Result (List (Effect K S P)) Fault) → IsSound a old → step a old fed.now fed.input ≡ (answer, mid) → IsSound a mid
  sound-then old mid fed answer sound is = subst (λ (x : Answered). IsSound a x.1) is (step-fine a old fed.now fed.input sound).0

  asked-then : (old mid : Machine K S P) (fed : Fed K S P) (answer : Result (List (Effect K S P)) Fault) → IsSound a old → step a old fed.now fed.input ≡ (answer, mid)
      → AllAre (IsWellAsked a (step a old fed.now fed.input).1) (effects_of answer)
  asked-then old mid fed answer sound is =
      subst (λ (x : Answered). AllAre (IsWellAsked a (step a old fed.now fed.input).1) (effects_of x.0)) is (step-fine a old fed.now fed.input sound).1

  -- the answers from mid are those from the machine after the step
  from-mid : (old mid : Machine K S P) (fed : Fed K S P) (answer : Result (List (Effect K S P)) Fault) (inputs : List (Fed K S P)) (answers : List (Result (List (Effect K S P)) Fault))
      → step a old fed.now fed.input ≡ (answer, mid) → AreWellAsked a mid inputs answers → AreWellAsked a (step a old fed.now fed.input).1 inputs answers
  from-mid old mid fed answer inputs answers is asked = subst (λ (x : Answered). AreWellAsked a x.1 inputs answers) (sym is) asked

  -- no answer is left
  none-asked : (m : Machine K S P) (inputs : List (Fed K S P)) (answers : List (Result (List (Effect K S P)) Fault)) → answers ≡ [] → AreWellAsked a m inputs answers
  none-asked m inputs [] none = at inputs
    where
      at : (inputs : List (Fed K S P)) → AreWellAsked a m inputs []
      at [] = tt
      at (fed ∷ inputs) = tt
  none-asked m inputs (answer ∷ answers) none = cc

  pub runs-asked : (inputs : List (Fed K S P)) (answers : List (Result (List (Effect K S P)) Fault)) (old new : Machine K S P) → IsSound a old → Runs a old inputs answers new → AreWellAsked a old inputs answers
  runs-asked [] [] old new sound runs = tt
  runs-asked [] (answer ∷ answers) old new sound runs = absurd runs
  runs-asked (fed ∷ inputs) [] old new sound runs = absurd runs
  runs-asked (fed ∷ inputs) (Ok effects ∷ answers) old new sound runs =
      (asked-then old runs.0 fed (Ok effects) sound runs.1, from-mid old runs.0 fed (Ok effects) inputs answers runs.1 (runs-asked inputs answers runs.0 new (sound-then old runs.0 fed (Ok effects) sound runs.1) runs.2))
  runs-asked (fed ∷ inputs) (Err faults.OutOfMemory ∷ answers) old new sound runs = (tt, none-asked _ inputs answers runs.2.0)
  runs-asked (fed ∷ inputs) (Err faults.Exhausted ∷ answers) old new sound runs = (tt, none-asked _ inputs answers runs.2.0)
  runs-asked (fed ∷ inputs) (Err fault ∷ answers) old new sound runs =
      (tt, from-mid old runs.0 fed (Err fault) inputs answers runs.1 (runs-asked inputs answers runs.0 new (sound-then old runs.0 fed (Err fault) sound runs.1) runs.2))

  pub runs-sound : (inputs : List (Fed K S P)) (answers : List (Result (List (Effect K S P)) Fault)) (old new : Machine K S P) → IsSound a old → Runs a old inputs answers new → new.status ≢ Failed → IsSound a new
  runs-sound [] [] old new sound runs fine = subst (IsSound a) (sym runs) sound
  runs-sound [] (answer ∷ answers) old new sound runs fine = absurd runs
  runs-sound (fed ∷ inputs) [] old new sound runs fine = absurd runs
  runs-sound (fed ∷ inputs) (Ok effects ∷ answers) old new sound runs fine = runs-sound inputs answers runs.0 new (sound-then old runs.0 fed (Ok effects) sound runs.1) runs.2 fine
  runs-sound (fed ∷ inputs) (Err faults.OutOfMemory ∷ answers) old new sound runs fine = absurd (fine (ap (λ m. m.status) runs.2.1 ∙ runs.1.1))
  runs-sound (fed ∷ inputs) (Err faults.Exhausted ∷ answers) old new sound runs fine = absurd (fine (ap (λ m. m.status) runs.2.1 ∙ runs.1.1))
  runs-sound (fed ∷ inputs) (Err fault ∷ answers) old new sound runs fine = runs-sound inputs answers runs.0 new (sound-then old runs.0 fed (Err fault) sound runs.1) runs.2 fine

  pub asks_well : IsWellAskedThroughout a
  asks_well old inputs answers new runs configuration priority_responses opens =
      let sound : IsSound a old = subst (IsSound a) (sym opens) (tt, tt) in
      (runs-asked inputs answers old new sound runs, λ fine. (runs-sound inputs answers old new sound runs fine).0)
