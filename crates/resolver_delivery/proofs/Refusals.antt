-- Why something is not handed out.
use Rattle.std.proofs.Common.{◌≡◌, refl, ℕ, ◌^◌, Bool, true, false, if◌then◌else◌}
use Rattle.std.specs.Prelude.{nat_lt}
use Rattle.resolver_base.specs.declared.fault.Fault.TheVariants.{OutOfMemory, Exhausted}
use Rattle.resolver_delivery.specs.Again.{IsRefusal}
use Rattle.resolver_delivery.specs.Entries.{refusal_at}

-- what entries refuse with is a reason not to hand out
pub refusal-is : (next : ℕ) → IsRefusal next (refusal_at next)
refusal-is next = at (nat_lt next (2 ^ 64)) refl
  where
    at : (b : Bool) → nat_lt next (2 ^ 64) ≡ b → IsRefusal next (if b then OutOfMemory else Exhausted)
    at true is = tt
    at false is = is
