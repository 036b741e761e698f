-- What a slot owns: nothing, or a box.
use Rattle.std.specs.Prelude.{Option, Some, None}
use base.Fml.{Fml, ftrue}
use denote.RattleType.{RattleType}
use denote.RawPtr.{Ptr}
use Rattle.std.specs.Box.Ownership.{box_owns}
use Rattle.std.specs.declared.alloc.Global.{Global}
use Rattle.std.specs.contracts.impls.GlobalAllocator.TheImpl.{ghosts}

-- the allocator of the C library, of which there is one
abbrev pub heap : Global
heap = record { memory = record { seal = tt } }

-- nothing, or the value at p with the right to free its block
abbrev pub slot_owns : (R : RattleType) → (p : Ptr) → Option R.Denot → Fml
slot_owns R p None = ftrue
slot_owns R p (Some x) = box_owns (ghosts.dealloc_token heap) R p x
