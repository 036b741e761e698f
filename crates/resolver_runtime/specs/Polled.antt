-- What a poll for a verdict gives.
use Rattle.std.specs.Prelude.{◌≡◌, ℕ, Option, IsSome, Result}
use Rattle.std.specs.BTreeMap.{is_at}
use Rattle.std.specs.Map.{lookup}
use Rattle.std.specs.Ordering.{nat_cmp}
use Rattle.std.specs.declared.cmp.Ordering.{Ordering}
use Rattle.resolver_types.specs.declared.outcome.Outcome.{Outcome}
use Rattle.resolver_delivery.specs.declared.completion.Aborted.{Aborted}
use Rattle.resolver_delivery.specs.declared.completion.Completion.{Completion}
use Rattle.resolver_delivery.specs.Entries.{Numbered, completed}

-- The answer and what is left are those of some open number and of some verdict on it, or none.
abbrev pub Completes : {K S V C State : Type 0} → (K → K → Ordering) → Numbered K S V C State → Result (Completion K S C) Aborted → Numbered K S V C State → Type 0
Completes cmp was answer now = (number : ℕ) × (verdict : Option Outcome)
    × IsSome (lookup (is_at (nat_cmp number)) was.going) × ((answer, now) ≡ completed cmp was number verdict)
