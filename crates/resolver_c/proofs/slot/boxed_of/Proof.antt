-- `boxed_of` gives the address back with its allocator.
use Rattle.std.proofs.Common.{◌≡◌, List, [], ◌∷◌, ◌++◌, refl, sym, subst}
use mir.Val.{Val}
use base.Logic.{SProp, ent, emp, id⊢}
use base.Fml.{ftrue}
use prog.Wp.{WpFn}
use types.Kit.{‵, raw, ◌⊛◌, ◌$◌, ◌∵◌, !, qed, by, move, keep, split, fsplit3, fjoin, suffices, rewrite, use0}
use types.Run.{stop, fld, of_opd, no_more, and_then, returns, enter}
use types.ByLocal.{alloc_all, pass_all, free_all, look_at, get, get_in, sets}
use types.Part.{agg, sub, whole}
use contract.Monad.{fact, fact_i}
use contract.Running.{tables}
use denote.Exit.{yes}
use denote.RattleType.{RattleType, owns}
use denote.Signature.{types_at, plain}
use denote.Param.{layout}
use denote.RawPtr.{ptr_val}
use denote.Steps.{nothing, heard}
use denote.Triple.Walked.{Stays, stay_dropped, walk_of, Goes-dropped}
use Rattle.std.specs.Prelude.{Option, Some, IsSome}
use Rattle.std.specs.contracts.alloc.Global as heap
use Rattle.std.specs.contracts.impls.GlobalAllocator.TheImpl.{ghosts}
use Rattle.std.proofs.alloc.Global.TheLaws as heap_laws
use Rattle.std.proofs.cell.Inside.{one}
use Rattle.std.proofs.raw_atomic.Walks.{proved_at, leaves}
use Rattle.resolver_boxed.proofs.Words.{Apart, pair, address_typed, pair_typed, made}
use Rattle.resolver_c.proofs.Words.{R, S, word, word_typed, slot_opened, some_of}
use Rattle.resolver_c.specs.Slots.{slot_owns}
use Rattle.resolver_c.specs.contracts.slot.boxed_of.{ended, clauses}
use Rattle.resolver_c.specs.contracts.slot.boxed_of.Key.{name as #self}
use Rattle.resolver_c.proofs.slot.boxed_of.Statement.{statement}
use Rattle.resolver_c.proofs.slot.boxed_of.Code as code

abbrev stayed : Stays ended.signature.params ended.kept
stayed = (stay_dropped _ yes, (stay_dropped _ yes, tt))

pub boxed_of_spec : {M : Type 1} → statement M
boxed_of_spec 𝓤 𝓛 𝓜 𝓡 wired =
    let H = 𝓛.H in let 𝓣 = tables 𝓤 H 𝓜 𝓡 𝓡.env in let c = clauses 𝓛 𝓜.mem 𝓡.returns in let Z : RattleType = heap.the_row in let LZ = heap_laws.the_row_laws in
    proved_at 𝓛 ended stayed c 𝓜 𝓡 (Goes-dropped 𝓛 0 (plain (λ _. Z)) yes (λ κs x f. refl), (Goes-dropped 𝓛 0 (plain (λ _. S)) yes (λ κs x f. refl), tt)) #self code.function (code.unfolded 𝓤 H 𝓜 𝓡 wired) (λ z are.
    let a = z.0.3.0 in let d = z.0.3.1.0 in let Post : Val → SProp 𝓤 = (walk_of 𝓛 ended stayed c).post z in let Run : List Val → SProp 𝓤 = λ ws. WpFn 𝓤 H 𝓣.C 𝓣.Λ code.function ws Post in
    let h = one (layout Z) z.0.4.0 ((LZ.lawful 𝓛).typed a z.0.4.0 are.0) in let w : Val = word (ptr_val d.at) in
    qed 𝓛 ((‵ ftrue ⊛ ‵ (owns (types_at ended.signature.params z.0.0) z.0.3 z.0.4)) ∷ raw (fact 𝓤 (IsSome d.held)) ∷ []) ∵
    move ! (1 ∷ []) $ heard ! (IsSome d.held) (λ is. let found = some_of d.held is in
    let new : (Apart R Z LZ refl ghosts).Denot = record { at = d.at; alloc = a; value = found.0 } in
    split ! $ move ! (1 ∷ []) $ fsplit3 ! $ rewrite ! 0 (λ (us : List Val). ‵ (Z.own_val a us)) h.1 refl $ move ! (1 ∷ []) $
    slot_opened ! d z.0.4.1.0 (λ ws. rewrite ! 0 (λ (m : Option R.Denot). ‵ (slot_owns R d.at m)) found.1 refl $
    suffices ! (Run (h.0 ∷ w ∷ [])) (subst (λ (us : List Val). ent 𝓤 (Run (h.0 ∷ w ∷ [])) (Run us)) (sym (λ i. h.1 i ++ (ws i ++ []))) (id⊢ 𝓤 (Run (h.0 ∷ w ∷ [])))) $
    enter ! 𝓣.C 𝓣.Λ code.function (h.0 ∷ w ∷ []) Post $ alloc_all ! (λ l. pass_all ! refl (h.2, (word_typed d.at, tt)) $
    sets ! (of_opd ! (get_in ! (fld ! refl (stop !)) (sub ! 0 refl (whole !)))) refl (address_typed d.at) $
    sets ! (agg ! (and_then ! (get ! refl) (and_then ! (get ! refl) (no_more !)))) refl (pair_typed (layout Z) d.at h.0 h.2) $
    move ! (1 ∷ []) $ made R Z LZ refl ghosts ! new h.0 $
    use0 𝓛 (raw (fact 𝓤 (d.held ≡ Some found.0))) (fact_i 𝓤 (d.held ≡ Some found.0) (emp 𝓤) found.1) $ nothing ! $ nothing ! $ fjoin ! $ nothing ! $ fjoin ! $ nothing ! $
    returns ! (look_at ! 0 refl) $ free_all ! refl $ keep ! (0 ∷ 1 ∷ 3 ∷ 2 ∷ []) $ by ! (leaves 𝓛 ended stayed c z (pair (ptr_val d.at) h.0) new (tt, (tt, tt)) (tt, (tt, tt)))))))
