use Rattle.std.proofs.Common.{rules, tests, ◌≡◌, ◌<◌, ℕ, Bool, true, false, List, length, refl}
use Rattle.std.specs.Bool.{MatchBool}
use Rattle.std.specs.List.{AllWithin, Any, HoldsAt}
use Rattle.std.proofs.lemmas.Iterator.{YieldsList-from_slice, cases_from_any, first_from_find}
use Rattle.std.proofs.lemmas.List.Elements.{All-contains, Contains-get_or}
use Rattle.resolver_swarm.specs.Having.{Has, IsServed, Lacks}
use Rattle.resolver_swarm.specs.Height.{number_of}
use Rattle.resolver_swarm.proofs.swarm.Swarm.find_without.Goals as goal

-- where `any` answered true, some element has the property
Any-from_cases : {X : Type 0} (P Q : X → Type 0) (xs : List X) (answer : Bool) → answer ≡ true → MatchBool answer ((k : ℕ) × (k < length xs) × HoldsAt P xs k) (AllWithin Q xs 0 (length xs)) → (d : X) → Any P xs
Any-from_cases P Q xs true is cases d = let here = Contains-get_or xs cases.0 d cases.1 in (here.0, _, here.1, here.2, cases.2 d)
Any-from_cases P Q xs false is cases d = absurd cc

pub returns-clause-shared : goal.returns-clause-shared
returns-clause-shared c =
    let number = number_of c.args.key in
    let nodes = c.args.self.now.nodes.items in
    let had = cases_from_any c.any.new.self _ c.any.result (Has number) (λ _. Unit {0}) c.any.ensures.ran (YieldsList-from_slice nodes cc) (λ x q k. search (rules, tests)) (λ x q k. search (rules, tests)) in
    let found = first_from_find c.find.new.self _ c.find.result (Lacks number) (λ _. Unit {0}) c.find.ensures.ran (YieldsList-from_slice nodes cc) (λ x q k. search (rules, tests)) (λ x q k. search (rules, tests)) in
    let here = rw c.in_ok-lacking.was at found in
    let lacking = c.in_ok-lacking.lacking.now in (
      λ none. absurd cc,
      λ shared. absurd (here.0.1 (All-contains (IsServed number) nodes lacking (shared (Any-from_cases (Has number) (λ _. Unit {0}) nodes c.any.result (search rules) had lacking)) (here.1, here.2, here.3 _) here.0.0)),
    )

pub returns-clause-lacking : goal.returns-clause-lacking
returns-clause-lacking c =
    let number = number_of c.args.key in
    let nodes = c.args.self.now.nodes.items in
    let had = cases_from_any c.any.new.self _ c.any.result (Has number) (λ _. Unit {0}) c.any.ensures.ran (YieldsList-from_slice nodes cc) (λ x q k. search (rules, tests)) (λ x q k. search (rules, tests)) in
    let found = first_from_find c.find.new.self _ c.find.result (Lacks number) (λ _. Unit {0}) c.find.ensures.ran (YieldsList-from_slice nodes cc) (λ x q k. search (rules, tests)) (λ x q k. search (rules, tests)) in
    let here = rw c.in_ok-lacking.was at found in
    let lacking = c.in_ok-lacking.lacking.now in (
      Any-from_cases (Has number) (λ _. Unit {0}) nodes c.any.result (search rules) had lacking,
      (here.1, lacking, here.2, here.3 _, (here.0, refl)),
    )
