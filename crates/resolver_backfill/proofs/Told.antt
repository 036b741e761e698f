-- What a plan has a resolver told.
use Rattle.std.proofs.Common.{◌≡◌, ◌≢◌, ap, refl, inr, Bool, true, false, cond, List, [], ◌∷◌, None, Some, Result, Ok, Err}
use Rattle.std.specs.declared.cmp.Ordering.{Ordering}
use Rattle.std.specs.Cmp.{IsTotalOrder}
use Rattle.std.specs.List.{list_any}
use Rattle.std.specs.Result.{OnErr}
use Rattle.resolver_base.specs.declared.fault.Fault.{Fault}
use Rattle.resolver_base.specs.declared.fault.Fault.TheVariants.{OutOfMemory}
use Rattle.resolver_base.specs.declared.feedback.Feedback.{Feedback}
use Rattle.resolver_types.specs.declared.fetch.Fetch.{Fetch}
use Rattle.resolver_backfill.specs.Plans.{Plan, fetches_of, is_below, let_go, let_go_below, met, settled, settled_below, without_below, without_keys}
use Rattle.resolver_backfill.specs.Telling.{AsksNew, CallsOnce}
use Rattle.resolver_backfill.proofs.Keys.{from-all, unmet-all}

-- memory was wanting before a call
pub asks-wanting : {K S R : Type 0} (ask : List (Fetch K S) → R → Result Feedback Fault → R → Type 0) (plan : Plan K S) (keys : List K) (was : R) (answer : Result Feedback Fault)
    → keys ≢ [] → answer ≡ Err OutOfMemory → AsksNew ask (fetches_of plan keys) was answer was
asks-wanting ask plan [] was answer some wanting = absurd (some refl)
asks-wanting ask plan (key ∷ keys) was answer some wanting = inr (record { answers = wanting; same = refl })

-- one call for what is there
pub asks-once : {K S R : Type 0} (ask : List (Fetch K S) → R → Result Feedback Fault → R → Type 0) (plan : Plan K S) (keys : List K) (was : R) (answer : Result Feedback Fault) (now : R)
    → keys ≢ [] → CallsOnce (ask (fetches_of plan keys)) was answer now → AsksNew ask (fetches_of plan keys) was answer now
asks-once ask plan [] was answer now some once = absurd (some refl)
asks-once ask plan (key ∷ keys) was answer now some once = once

-- where nothing is let go, none is met
pub let-go-none : {K S : Type 0} (subscriber : S) (keys : List K) → without_keys subscriber keys ≡ None → keys ≡ []
let-go-none subscriber [] none = refl
let-go-none subscriber (key ∷ keys) none = absurd (let wrong = none in cc)

-- and the plan stays as it was
pub settled-none : {K S : Type 0} (cmp : K → K → Ordering) → IsTotalOrder cmp → (plan : Plan K S) (keys : List K) → let_go cmp plan keys ≡ None → settled cmp plan keys ≡ plan
settled-none cmp total plan keys none = ap (λ ws. record plan { wanted = ws }) (unmet-all cmp total plan.wanted keys (let-go-none plan.subscriber (met cmp plan.wanted keys) none))

-- what holds of any answer holds where it is a refusal
pub on-err : {A E : Type 0} (answer : Result A E) (P : Type 0) → P → OnErr answer P
on-err (Ok a) P p = tt
on-err (Err e) P p = p

-- where nobody is let go from the keys below a bound, none is wanted there, and the plan stays as it was
pub below-none : {K S : Type 0} (cmp : K → K → Ordering) (plan : Plan K S) (bound : K) → let_go_below cmp plan bound ≡ None → list_any (is_below cmp bound) plan.wanted ≡ false
below-none cmp plan bound none = cases (list_any (is_below cmp bound) plan.wanted) none where
  cases : (b : Bool) → cond b (Some (without_below plan.subscriber bound)) None ≡ None → b ≡ false
  cases true none = absurd (let wrong = none in cc)
  cases false none = refl

pub settled-below-none : {K S : Type 0} (cmp : K → K → Ordering) → IsTotalOrder cmp → (plan : Plan K S) (bound : K) → let_go_below cmp plan bound ≡ None → settled_below cmp plan bound ≡ plan
settled-below-none cmp total plan bound none = ap (λ ws. record plan { wanted = ws }) (from-all cmp total bound plan.wanted (below-none cmp plan bound none))
