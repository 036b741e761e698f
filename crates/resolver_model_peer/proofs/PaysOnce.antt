-- In each run of the peer machine, failed or not, each response earns at most one credit or one block.
use Rattle.std.proofs.Common.{◌≡◌, refl, sym, subst, ℕ, ◌+◌, ◌≤◌, List, [], ◌∷◌, ◌++◌, Result, Ok, Err, arith}
use Rattle.resolver_base.specs.declared.fault.Fault.{Fault}
use Rattle.resolver_base.specs.declared.fault.Fault.TheVariants as faults
use Rattle.resolver_model_peer.specs.Parties.{Parties}
use Rattle.resolver_model_peer.specs.Peer.{Machine, Effect, opening, step}
use Rattle.resolver_model_peer.specs.PeerRun.{Fed, effects_of, all_effects}
use Rattle.resolver_model_peer.specs.PeerSteps.{Runs}
use Rattle.resolver_model_peer.specs.PeerLaws.{IsPaidOnce}
use Rattle.resolver_model_peer.proofs.EarnsOnce.{OnceIn, earned, earned-append, step-once}

module _ {K S P : Type 0} (a : Parties K S P) where
  abbrev Answered : Type 0
  Answered = Result (List (Effect K S P)) Fault × Machine K S P

  -- a step that answers so
  taken-once : (old mid : Machine K S P) (fed : Fed K S P) (answer : Result (List (Effect K S P)) Fault) (so_far : ℕ → ℕ) → OnceIn old so_far
      → step a old fed.now fed.input ≡ (answer, mid) → OnceIn mid (λ r. so_far r + earned r (effects_of answer))
  taken-once old mid fed answer so_far once is = subst (λ (x : Answered). OnceIn x.1 (λ r. so_far r + earned r (effects_of x.0))) is (step-once a old fed.now fed.input so_far once)

  -- one answer more
  and-then : (effects : List (Effect K S P)) (answers : List (Result (List (Effect K S P)) Fault)) (so_far : ℕ → ℕ) (r : ℕ)
      → so_far r + earned r effects + earned r (all_effects answers) ≤ 1 → so_far r + earned r (effects ++ all_effects answers) ≤ 1
  and-then effects answers so_far r rest = let both : _ = earned-append r effects (all_effects answers) in omega (arith, rest, both)

  -- the last answer, which hands nothing out
  last-once : (old : Machine K S P) (answers : List (Result (List (Effect K S P)) Fault)) (so_far : ℕ → ℕ) (r : ℕ) → OnceIn old so_far → answers ≡ [] → so_far r + earned r (all_effects answers) ≤ 1
  last-once old answers so_far r once none = subst (λ rest. so_far r + earned r (all_effects rest) ≤ 1) (sym none) (let now : _ = once r in omega (arith, now.0))

  pub runs-once : (inputs : List (Fed K S P)) (answers : List (Result (List (Effect K S P)) Fault)) (old new : Machine K S P) (so_far : ℕ → ℕ) → OnceIn old so_far
      → Runs a old inputs answers new → (r : ℕ) → so_far r + earned r (all_effects answers) ≤ 1
  runs-once [] [] old new so_far once runs r = let now : _ = once r in omega (arith, now.0)
  runs-once [] (answer ∷ answers) old new so_far once runs r = absurd runs
  runs-once (fed ∷ inputs) [] old new so_far once runs r = absurd runs
  runs-once (fed ∷ inputs) (Ok effects ∷ answers) old new so_far once runs r =
      and-then effects answers so_far r
      (runs-once inputs answers runs.0 new (λ q. so_far q + earned q effects) (taken-once old runs.0 fed (Ok effects) so_far once runs.1) runs.2 r)
  runs-once (fed ∷ inputs) (Err faults.OutOfMemory ∷ answers) old new so_far once runs r = last-once old answers so_far r once runs.2.0
  runs-once (fed ∷ inputs) (Err faults.Exhausted ∷ answers) old new so_far once runs r = last-once old answers so_far r once runs.2.0
  runs-once (fed ∷ inputs) (Err fault ∷ answers) old new so_far once runs r =
      and-then [] answers so_far r
      (runs-once inputs answers runs.0 new (λ q. so_far q + 0) (taken-once old runs.0 fed (Err fault) so_far once runs.1) runs.2 r)

  pub is_paid_once : IsPaidOnce a
  is_paid_once old inputs answers new runs configuration priority_responses opens response =
      let e : 0 + earned response (all_effects answers) ≤ 1
      = runs-once inputs answers (opening configuration priority_responses) new (λ r. 0) (λ r. (omega arith, λ later. refl)) (subst (λ m. Runs a m inputs answers new) opens runs) response in omega (arith, e)
