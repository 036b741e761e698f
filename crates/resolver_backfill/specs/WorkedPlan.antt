-- A worked plan: what each call answers, and the demand that it comes to.
use Rattle.std.specs.Prelude.{◌≡◌, ℕ, true, false, List, [], ◌∷◌, Option, None, Some}
use Rattle.std.specs.Ordering.{nat_cmp}
use Rattle.resolver_types.specs.Names.{Names, names}
use Rattle.resolver_types.specs.Demand.{Pair}
use Rattle.resolver_types.specs.declared.fetch.Fetch.{Fetch}
use Rattle.resolver_backfill.specs.Plans.{Plan, Without, fetched, keeps, let_go, let_go_below}
use Rattle.resolver_backfill.specs.Given.{Call, Want, Done, DoneBelow, Forget, called_all, given, others_all, turned_all}

abbrev numbers : Names ℕ ℕ
numbers = names nat_cmp nat_cmp

abbrev pub opened : Plan ℕ ℕ
opened = record { subscriber = 10; mark = 7; wanted = [] }

abbrev after : List (Call ℕ ℕ) → Plan ℕ ℕ
after calls = called_all numbers opened calls

abbrev pair : (key subscriber mark : ℕ) → Pair ℕ ℕ
pair key subscriber mark = record { key = key; subscriber = subscriber; mark = mark }

abbrev fetch : (key : ℕ) → Fetch ℕ ℕ
fetch key = record { key = key; subscriber = 10; mark = 7 }

abbrev first : Call ℕ ℕ
first = Want (2 ∷ 1 ∷ 2 ∷ [])

abbrev second : Call ℕ ℕ
second = Want (2 ∷ 3 ∷ [])

-- the keys 1 and 2 are done with, 1 twice, and the key 4 is wanted and comes, for the other one too
abbrev calls : List (Call ℕ ℕ)
calls = first ∷ second ∷ Done (1 ∷ []) ∷ Done (1 ∷ []) ∷ Done (2 ∷ []) ∷ Want (4 ∷ []) ∷ Forget 4 ((10, 7) ∷ (11, 8) ∷ []) ∷ []

abbrev without : List ℕ → Option ℕ → Without ℕ ℕ
without keys below = record { subscriber = 10; keys = keys; below = below }

-- another one wants the keys 2 and 4
abbrev other : List (Pair ℕ ℕ)
other = pair 2 11 8 ∷ pair 4 11 8 ∷ []

pub record WorkedPlan : Type 0 where
  -- what wasn't wanted, in key order, each once
  pub twice : fetched nat_cmp opened (2 ∷ 1 ∷ 2 ∷ []) ≡ fetch 1 ∷ fetch 2 ∷ []
  pub again : fetched nat_cmp (after (first ∷ [])) (2 ∷ 3 ∷ []) ≡ fetch 3 ∷ []
  pub known : fetched nat_cmp (after (first ∷ second ∷ [])) (3 ∷ 1 ∷ []) ≡ []
  pub all : (after (first ∷ second ∷ [])).wanted ≡ 1 ∷ 2 ∷ 3 ∷ []
  -- what was wanted, and no other key
  pub done : let_go nat_cmp (after (first ∷ second ∷ [])) (4 ∷ 1 ∷ 1 ∷ []) ≡ Some (without (1 ∷ []) None)
  pub gone : let_go nat_cmp (after (first ∷ second ∷ Done (1 ∷ []) ∷ [])) (1 ∷ []) ≡ None
  pub left : (after calls).wanted ≡ 3 ∷ []
  -- all below the bound, and not the bound itself
  pub done_below : let_go_below nat_cmp (after (first ∷ second ∷ [])) 2 ≡ Some (without [] (Some 2))
  pub none_below : let_go_below nat_cmp (after (first ∷ second ∷ [])) 1 ≡ None
  pub left_from : (after (first ∷ second ∷ DoneBelow 2 ∷ [])).wanted ≡ 2 ∷ 3 ∷ []
  -- one subscriber of one key goes, and no other
  pub one_goes : keeps numbers (without (2 ∷ []) None) 2 10 ≡ false
  pub other_stays : keeps numbers (without (2 ∷ []) None) 2 11 ≡ true
  pub other_key : keeps numbers (without (2 ∷ []) None) 3 10 ≡ true
  pub below_goes : keeps numbers (without [] (Some 2)) 1 10 ≡ false
  pub below_stays : keeps numbers (without [] (Some 2)) 1 11 ≡ true
  pub bound_stays : keeps numbers (without [] (Some 2)) 2 10 ≡ true
  -- and so the demand has the other one's pair and the plan's
  pub demand : turned_all numbers opened calls (given opened other) ≡ pair 2 11 8 ∷ pair 3 10 7 ∷ []
  pub same : given (after calls) (others_all numbers calls other) ≡ pair 2 11 8 ∷ pair 3 10 7 ∷ []
