-- The machine value of a `Slot`, which is an address, and what it owns. Assumes `Logic`.
use Rattle.std.proofs.Common.{◌≡◌, List, [], ◌∷◌, ◌++◌, refl, ap, ◌∙◌}
use Rattle.std.proofs.lemmas.Bool.{false≢true}
use lib.Dec.{T, lit<}
use seplogic.Ra.Ura.{Ura}
use mir.Syntax.{ty_ptr, ty_struct, tcons, tnil}
use mir.Val.{Val, vstruct, vcons, vnil, of_list, has_ty, WT}
use types.Logic.{Logic}
use types.Kit.{Item, Goal, Seq, Step, step, ‵, ◌$◌, drop, fsplit, fjoin, fpick, fpack, feq_i, feq_l}
use denote.RattleType.{RattleType, Valss}
use denote.Builtin.{RawPtr}
use denote.RawPtr.{Ptr, block_ptr, null_ptr, ptr_val}
use denote.Steps.{nothing}
use denote.Struct.Struct.{within}
use denote.Struct.Owning.{shape}
use Rattle.std.specs.Prelude.{Option, Some, None, IsSome}
use Rattle.resolver_c.specs.Slots.{slot_owns}
use Rattle.resolver_c.specs.contracts.slot.Slot as slot
use Rattle.resolver_flat_machine.specs.contracts.machine.Machine as inner

abbrev pub R : RattleType
R = inner.the_row

abbrev pub S : RattleType
S = slot.the_row

-- a struct of one word
abbrev pub word : Val → Val
word v = vstruct (vcons v vnil)

-- it has its type, whatever the struct's name
pub word_typed : (p : Ptr) → T (has_ty (ty_struct [] (tcons ty_ptr tnil)) (word (ptr_val p))) × WT (word (ptr_val p))
word_typed (block_ptr b o) = (tt, (tt, tt))
word_typed null_ptr = (tt, (record { fits = lit< tt }, tt))

module _ {M : Type 1} {𝓤 : Ura M} {𝓛 : Logic 𝓤} {K : Type 0} {Γ : List (Item 𝓤)} {G : Goal 𝓤 𝓛.H} where
  pub slot_opened : K → (d : S.Denot) (vs : List Val)
      → (vs ≡ word (ptr_val d.at) ∷ [] → Seq K 𝓛 (‵ (slot_owns R d.at d.held) ∷ Γ) G)
      → Seq K 𝓛 (‵ (S.own_val d vs) ∷ Γ) G
  slot_opened t d vs next =
      fsplit t $ fpick t (λ parts. fsplit t $ feq_l t (λ is. fsplit t $ feq_l t (λ at. drop t $
      next (is ∙ ap (λ (ps : List Val). vstruct (of_list (ps ++ [])) ∷ []) at))))

  pub slot_made : K → (p : Ptr) (x : Option R.Denot)
      → Step K 𝓛 (‵ (S.own_val (record { at = p; held = x }) (word (ptr_val p) ∷ [])) ∷ Γ) G (‵ (slot_owns R p x) ∷ Γ) G
  slot_made t p x = step (λ s. let v : Val = word (ptr_val p) in
      nothing t $ feq_i t (List Val) (ptr_val p ∷ []) (ptr_val p ∷ []) refl $ fjoin t $ feq_i t (List Val) (v ∷ []) (v ∷ []) refl $ fjoin t $
      fpack t (Valss (RawPtr ∷ [])) (within (shape slot.the_type) (p, tt) (v ∷ [])) (ptr_val p ∷ [], tt) $ fjoin t $ s)

pub some_of : {A : Type 0} (m : Option A) → IsSome m → (x : A) × (m ≡ Some x)
some_of None is = absurd (false≢true is)
some_of (Some x) is = (x, refl)
