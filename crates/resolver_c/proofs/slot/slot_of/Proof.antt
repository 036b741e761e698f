-- `slot_of` keeps the address alone.
use Rattle.std.proofs.Common.{◌≡◌, List, [], ◌∷◌, ◌++◌, refl, sym, subst}
use mir.Val.{Val}
use base.Logic.{SProp, ent, emp, id⊢}
use base.Fml.{ftrue}
use prog.Wp.{WpFn}
use types.Kit.{‵, raw, ◌⊛◌, ◌$◌, ◌∵◌, !, qed, by, move, keep, split, fsplit, fjoin, suffices, use0}
use types.Run.{stop, fld, of_opd, no_more, and_then, returns, enter}
use types.ByLocal.{alloc_all, pass_all, free_all, look_at, get, get_in, sets}
use types.Part.{agg, sub, whole}
use contract.Monad.{fact, fact_i}
use contract.Running.{tables}
use denote.Exit.{yes}
use denote.RattleType.{RattleType, owns}
use denote.Signature.{types_at, plain}
use denote.RawPtr.{ptr_val}
use denote.Steps.{nothing}
use denote.Param.{layout}
use denote.Triple.Walked.{Stays, stay_dropped, walk_of, Goes-dropped}
use Rattle.std.specs.Prelude.{Some}
use Rattle.std.specs.contracts.alloc.Global as heap
use Rattle.std.specs.contracts.impls.GlobalAllocator.TheImpl.{ghosts}
use Rattle.std.proofs.alloc.Global.TheLaws as heap_laws
use Rattle.std.proofs.raw_atomic.Walks.{proved_at, leaves}
use Rattle.resolver_boxed.proofs.Words.{Apart, pair, address_typed, pair_typed, opened}
use Rattle.resolver_c.proofs.Words.{R, word, word_typed, slot_made}
use Rattle.resolver_c.specs.contracts.slot.slot_of.{ended, clauses}
use Rattle.resolver_c.specs.contracts.slot.slot_of.Key.{name as #self}
use Rattle.resolver_c.proofs.slot.slot_of.Statement.{statement}
use Rattle.resolver_c.proofs.slot.slot_of.Code as code

pub slot_of_spec : {M : Type 1} → statement M
slot_of_spec 𝓤 𝓛 𝓜 𝓡 wired =
    let H = 𝓛.H in let 𝓣 = tables 𝓤 H 𝓜 𝓡 𝓡.env in let c = clauses 𝓛 𝓜.mem 𝓡.returns in let Z : RattleType = heap.the_row in let LZ = heap_laws.the_row_laws in
    let B : RattleType = Apart R Z LZ refl ghosts in
    let stayed : Stays ended.signature.params ended.kept = (stay_dropped (plain (λ _. B)) yes, tt) in
    proved_at 𝓛 ended stayed c 𝓜 𝓡 (Goes-dropped 𝓛 0 (plain (λ _. B)) yes (λ κs x f. refl), tt) #self code.function (code.unfolded 𝓤 H 𝓜 𝓡 wired) (λ z are.
    let b = z.0.3.0 in let Post : Val → SProp 𝓤 = (walk_of 𝓛 ended stayed c).post z in let Run : List Val → SProp 𝓤 = λ ws. WpFn 𝓤 H 𝓣.C 𝓣.Λ code.function ws Post in
    qed 𝓛 ((‵ ftrue ⊛ ‵ (owns (types_at ended.signature.params z.0.0) z.0.3 z.0.4)) ∷ raw ((c z.0.0 z.0.3).requires z.1) ∷ []) ∵
    split ! $ move ! (1 ∷ []) $ fsplit ! $ opened R Z LZ refl ghosts ! b z.0.4.0 (λ h is fits.
    let w : Val = pair (ptr_val b.at) h in
    suffices ! (Run (w ∷ [])) (subst (λ (us : List Val). ent 𝓤 (Run (w ∷ [])) (Run us)) (sym (λ i. is i ++ [])) (id⊢ 𝓤 (Run (w ∷ [])))) $
    enter ! 𝓣.C 𝓣.Λ code.function (w ∷ []) Post $ alloc_all ! (λ l. pass_all ! refl (pair_typed (layout Z) b.at h fits, tt) $
    sets ! (of_opd ! (get_in ! (fld ! refl (stop !)) (sub ! 0 refl (whole !)))) refl (address_typed b.at) $
    sets ! (agg ! (and_then ! (get ! refl) (no_more !))) refl (word_typed b.at) $
    move ! (1 ∷ []) $ slot_made ! b.at (Some b.value) $
    use0 𝓛 (raw (fact 𝓤 (Some b.value ≡ Some b.value))) (fact_i 𝓤 (Some b.value ≡ Some b.value) (emp 𝓤) refl) $ nothing ! $ nothing ! $ fjoin ! $ nothing ! $
    returns ! (look_at ! 0 refl) $ free_all ! refl $ keep ! (0 ∷ 1 ∷ 3 ∷ 2 ∷ []) $ by ! (leaves 𝓛 ended stayed c z (word (ptr_val b.at)) (record { at = b.at; held = Some b.value }) (tt, tt) (tt, tt)))))
