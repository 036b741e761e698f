-- A cached response that is handed out once more, and why something is not handed out.
use Rattle.std.specs.Prelude.{◌≡◌, ◌^◌, ℕ, Bool, false, nat_lt, if◌then◌else◌, ⊤}
use Rattle.std.specs.declared.cmp.Ordering.{Ordering}
use Rattle.resolver_base.specs.declared.fault.Fault.{Fault}
use Rattle.resolver_base.specs.declared.fault.Fault.TheVariants as faults
use Rattle.resolver_types.specs.declared.delivery.Delivery.{Delivery}
use Rattle.resolver_delivery.specs.Entries.{Numbered, accepted, redelivered, response_changed}

module _ {K S V C State : Type 0} (cmp : K → K → Ordering) where
  -- the cached response is noted to be right, if it is
  abbrev pub flagged : Bool → K → Numbered K S V C State → Numbered K S V C State
  flagged accepts key d = if accepts then response_changed cmp key accepted d else d

  -- the cached response once more, accepted or as it was
  abbrev pub handed_again : Delivery K S → Bool → Numbered K S V C State → Numbered K S V C State
  handed_again delivery accepts d = redelivered cmp delivery (flagged accepts delivery.key d)

-- why something is not handed out: memory is refused, or no number is left
abbrev pub IsRefusal : (next : ℕ) → Fault → Type 0
IsRefusal next faults.OutOfMemory = ⊤
IsRefusal next faults.Exhausted = nat_lt next (2 ^ 64) ≡ false
IsRefusal next fault = ⊥
