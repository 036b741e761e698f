-- A plan that has a resolver told: how many calls there are, and what becomes of the plan.
use Rattle.std.specs.Prelude.{◌≡◌, ◌⊎◌, Bool, true, false, List, [], ◌∷◌, Option, None, Some, Result, Ok, Err, map, if◌then◌else◌}
use Rattle.resolver_base.specs.declared.fault.Fault.{Fault}
use Rattle.resolver_base.specs.declared.fault.Fault.TheVariants.{OutOfMemory}
use Rattle.resolver_base.specs.declared.feedback.Feedback.{Feedback}
use Rattle.resolver_base.specs.declared.feedback.Feedback.TheVariants as feedbacks
use Rattle.resolver_types.specs.declared.fetch.Fetch.{Fetch}
use Rattle.resolver_types.specs.Names.{Names}
use Rattle.resolver_backfill.specs.Plans.{Plan, Without, fetched, let_go, let_go_below, settled, settled_below, wanting}
use Rattle.resolver_backfill.specs.Given.{Turns, fetch_told, retain_told}

-- whether a message was taken
abbrev pub is_taken : Result Feedback Fault → Bool
is_taken (Ok feedbacks.Ok) = true
is_taken (Ok feedbacks.Backoff) = true
is_taken (Ok feedbacks.Closed) = false
is_taken (Err fault) = false

-- the plan after a message, if it was taken, and else the one before it
abbrev pub if_taken : {P : Type 0} → Result Feedback Fault → P → P → P
if_taken answer after before = if is_taken answer then after else before

-- there was no call: the answer is this one, and the handle is as it was
pub record CallsNone {R : Type 0} (expected : Result Feedback Fault) (was : R) (answer : Result Feedback Fault) (now : R) : Type 0 where
  pub answers : answer ≡ expected
  pub same : now ≡ was

-- there was one call, whose answer this is, or memory was wanting before it
abbrev pub CallsOnce : {R : Type 0} → (R → Result Feedback Fault → R → Type 0) → R → Result Feedback Fault → R → Type 0
CallsOnce call was answer now = call was answer now ⊎ CallsNone (Err OutOfMemory) was answer now

module _ {K S P R : Type 0} where
  -- one call that asks for keys, of any peer or of these
  abbrev pub AsksOf : (R → List (Fetch K S) → Result Feedback Fault → R → Type 0) → (R → List (Fetch K S × List P) → Result Feedback Fault → R → Type 0)
      → Option (List P) → List (Fetch K S) → R → Result Feedback Fault → R → Type 0
  AsksOf asks asks_of None fetches was answer now = asks was fetches answer now
  AsksOf asks asks_of (Some targets) fetches was answer now = asks_of was (map (λ fetch. (fetch, targets)) fetches) answer now

module _ {K S R : Type 0} where
  -- where there is nothing to ask for there is no call, with answer Ok, and else one, for all of it
  abbrev pub AsksNew : (List (Fetch K S) → R → Result Feedback Fault → R → Type 0) → List (Fetch K S) → R → Result Feedback Fault → R → Type 0
  AsksNew ask [] was answer now = CallsNone (Ok feedbacks.Ok) was answer now
  AsksNew ask (fetch ∷ fetches) was answer now = CallsOnce (ask (fetch ∷ fetches)) was answer now

  -- where there is nobody to let go there is no call, with answer Ok, and else one
  abbrev pub RetainsNew : (R → Without K S → Result Feedback Fault → R → Type 0) → Option (Without K S) → R → Result Feedback Fault → R → Type 0
  RetainsNew retain None was answer now = CallsNone (Ok feedbacks.Ok) was answer now
  RetainsNew retain (Some without) was answer now = CallsOnce (λ was answer now. retain was without answer now) was answer now

module _ {K S : Type 0} (n : Names K S) where
  -- What is taken of a message, all of it or nothing, turns what the plan before gives into what the plan after gives.
  pub record TakenTurns (plan : Plan K S) (answer : Result Feedback Fault) : Type 0 where
    pub fills : (keys : List K) → Turns n plan (if_taken answer (fetch_told (fetched n.key plan keys)) []) (if_taken answer (wanting n.key plan keys) plan)
    pub settles : (keys : List K) → Turns n plan (if_taken answer (retain_told n (let_go n.key plan keys)) []) (if_taken answer (settled n.key plan keys) plan)
    pub settles_below : (bound : K) → Turns n plan (if_taken answer (retain_told n (let_go_below n.key plan bound)) []) (if_taken answer (settled_below n.key plan bound) plan)
