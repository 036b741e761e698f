-- A box taken apart, as its machine value and as what it owns. Assumes `Logic`.
use Rattle.std.proofs.Common.{◌≡◌, List, [], ◌∷◌, ◌++◌, refl, ◌∙◌, subst}
use lib.Dec.{T, lit<}
use mathlib.Core.Bool.{Bool, true, false, ◌&&◌}
use seplogic.Ra.Ura.{Ura}
use mir.Syntax.{Ty, ty_ptr, ty_struct, tcons, tnil}
use mir.Val.{Val, vstruct, vcons, vnil, of_list, has_ty, WT}
use base.Fml.{Fml}
use types.Logic.{Logic}
use types.Kit.{Item, Goal, Seq, Step, step, ‵, ◌$◌, drop, move, rewrite, fsplit, fjoin, fpick, fpack, feq_i, feq_l}
use denote.RattleType.{RattleType, Valss}
use denote.Builtin.{RawPtr}
use denote.RawPtr.{Ptr, block_ptr, null_ptr, ptr_val}
use denote.Laws.{Is, Typed, shows}
use denote.Param.{layout}
use denote.Param.Laws.{Laws}
use denote.Steps.{nothing, peeks}
use denote.Struct.Struct.{within}
use denote.Struct.Owning.{shape}
use Rattle.std.proofs.cell.Inside.{one}
use Rattle.std.specs.declared.alloc.Allocator.{Ghosts}
use Rattle.std.specs.Box.Ownership.{box_owns}
use Rattle.resolver_boxed.specs.contracts.Boxed as apart

pub address_typed : (p : Ptr) → T (has_ty ty_ptr (ptr_val p)) × WT (ptr_val p)
address_typed (block_ptr b o) = (tt, tt)
address_typed null_ptr = (tt, record { fits = lit< tt })

-- an address, and an allocator's bits
abbrev pub pair : Val → Val → Val
pair p h = vstruct (vcons p (vcons h vnil))

and_so : (is : Bool) → T is → T (is && true)
and_so true holds = tt
and_so false holds = absurd holds

-- a struct of both has its type, whatever its name
pub pair_typed : (τ : Ty) (p : Ptr) (h : Val) → T (has_ty τ h) × WT h
    → T (has_ty (ty_struct [] (tcons ty_ptr (tcons τ tnil))) (pair (ptr_val p) h)) × WT (pair (ptr_val p) h)
pair_typed τ (block_ptr b o) h fits = (and_so (has_ty τ h) fits.0, (tt, (fits.1, tt)))
pair_typed τ null_ptr h fits = (and_so (has_ty τ h) fits.0, (record { fits = lit< tt }, (fits.1, tt)))

module _ (X Y : RattleType) (L : Laws Y) (sole : Y.mir ≡ layout Y ∷ []) (g : Ghosts Y.Denot) where
  abbrev pub Apart : RattleType
  Apart = apart.the_row X Y g

  -- the value at an address, with the right to free its block
  abbrev pub held : Apart.Denot → Fml
  held b = box_owns (g.dealloc_token b.alloc) X b.at b.value

  module _ {M : Type 1} {𝓤 : Ura M} {𝓛 : Logic 𝓤} {K : Type 0} {Γ : List (Item 𝓤)} {G : Goal 𝓤 𝓛.H} where
    -- its machine value is a pair, beside which it owns what the allocator's bits own and the value
    pub opened : K → (b : Apart.Denot) (vs : List Val)
        → ((h : Val) → vs ≡ pair (ptr_val b.at) h ∷ [] → T (has_ty (layout Y) h) × WT h → Seq K 𝓛 (‵ (Y.own_val b.alloc (h ∷ [])) ∷ ‵ (held b) ∷ Γ) G)
        → Seq K 𝓛 (‵ (Apart.own_val b vs) ∷ Γ) G
    opened t b vs next =
        fsplit t $ fpick t (λ parts. fsplit t $ feq_l t (λ is. fsplit t $ feq_l t (λ at. fsplit t $
        peeks t Y (Is Y) (shows 𝓛 Y) b.alloc parts.1.0 (λ bits. let h = one (layout Y) parts.1.0 (subst (λ (τs : List Ty). Typed τs parts.1.0) sole ((L.lawful 𝓛).typed b.alloc parts.1.0 bits)) in
        rewrite t 0 (λ (us : List Val). ‵ (Y.own_val b.alloc us)) h.1 refl $ move t (1 ∷ []) $ drop t $
        next h.0 (is ∙ (λ i. vstruct (of_list (at i ++ (h.1 i ++ []))) ∷ [])) h.2))))

    pub made : K → (b : Apart.Denot) (h : Val)
        → Step K 𝓛 (‵ (Apart.own_val b (pair (ptr_val b.at) h ∷ [])) ∷ Γ) G (‵ (Y.own_val b.alloc (h ∷ [])) ∷ ‵ (held b) ∷ Γ) G
    made t b h = step (λ s. let p : Val = ptr_val b.at in
        nothing t $ move t (1 ∷ 0 ∷ []) $ fjoin t $ feq_i t (List Val) (p ∷ []) (p ∷ []) refl $ fjoin t $
        feq_i t (List Val) (pair p h ∷ []) (pair p h ∷ []) refl $ fjoin t $
        fpack t (Valss (RawPtr ∷ Y ∷ [])) (within (shape (apart.the_type X Y g)) (b.at, (b.alloc, tt)) (pair p h ∷ [])) (p ∷ [], (h ∷ [], tt)) $
        fjoin t $ s)
