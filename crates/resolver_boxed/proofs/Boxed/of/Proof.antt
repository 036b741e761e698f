-- `of` has std take the box apart, and keeps both parts.
use Rattle.std.proofs.Common.{◌≡◌, List, [], ◌∷◌, ◌++◌, refl, sym, ap, subst}
use mir.Syntax.{Fn, a_type, dcons, dnil}
use mir.MapTy.{inst_fn}
use mir.Val.{Val}
use base.Logic.{SProp, ent, id⊢, emp}
use base.Fml.{ftrue, flft}
use prog.Wp.{WpFn}
use types.Kit.{‵, raw, ◌⊛◌, some, later, ◌$◌, ◌∵◌, !, qed, done, move, drop, split, join, fjoin, pick, await, rewrite, suffices, use0, use1}
use types.Run.{of_opd, stop, fld, no_more, and_then, returns, enter}
use types.ByLocal.{alloc_all, pass_all, free_all, look_at, get, get_in, sets, lands_as}
use types.Part.{agg, sub, whole}
use contract.Monad.{fact, fact_i}
use contract.Running.{tables}
use denote.Exit.{no}
use denote.RattleType.{RattleType}
use denote.Param.{bounded, layout, param}
use denote.Param.Laws.{param_laws}
use denote.Signature.{plain, type_at}
use denote.RawPtr.{Ptr, ptr_val}
use denote.Steps.{nothing, heard, only}
use denote.Triple.Call.{calls_at}
use denote.Triple.Clauses.{Lasts, lasts}
use denote.Triple.Spec.{triple_of}
use denote.Triple.Table.{framed}
use denote.Triple.Walked.{Stays, stay_dropped, walk_of}
use Rattle.std.proofs.raw_atomic.Walks.{proved_at, leaves}
use Rattle.std.proofs.alloc.Calls.{Goes-blank}
use Rattle.std.proofs.cell.Inside.{one}
use Rattle.std.specs.contracts.boxed.Box as whole_box
use Rattle.std.specs.contracts.boxed.Box.into_raw_with_allocator as take
use Rattle.std.proofs.boxed.Box.into_raw_with_allocator.Met.{met}
use Rattle.std.proofs.boxed.Box.TheLaws as box_laws
use Rattle.std.specs.Box.Ownership.{box_owns}
use Rattle.resolver_boxed.proofs.Words.{Apart, pair, address_typed, pair_typed, opened, made}
use Rattle.resolver_boxed.specs.contracts.Boxed.of as f
use Rattle.resolver_boxed.specs.contracts.Boxed.of.Key.{name as #self}
use Rattle.resolver_boxed.proofs.Boxed.of.Statement.{statement}
use Rattle.resolver_boxed.proofs.Boxed.of.Code as code

pub of_spec : {M : Type 1} → statement M
of_spec 𝓤 𝓛 𝓜 𝓡 wired T A LT LA g d ad td is_alloc ad_is td_is =
    let H = 𝓛.H in let 𝓣 = tables 𝓤 H 𝓜 𝓡 𝓡.env in
    let ended = f.ended T A g d ad td in let c = f.clauses T A g d ad td 𝓛 𝓜.mem 𝓡.returns in
    let B : RattleType = whole_box.the_row (param 0 T) (param 1 A) g in
    let stayed : Stays ended.signature.params ended.kept = (stay_dropped (plain (λ _. B)) no, tt) in
    let args = bounded (a_type ∷ a_type ∷ []) (T, (A, tt)) (dcons d (dcons ad (dcons td dnil))) in
    let fn : Fn = inst_fn args code.function in
    proved_at 𝓛 ended stayed c 𝓜 𝓡 (Goes-blank 𝓛 2 (plain (λ _. B)) no (λ κs x f. tt), tt) (#self args) fn (code.unfolded 𝓤 H 𝓜 𝓡 wired (T, (A, tt)) d ad td) (λ z are.
    let LP = param_laws 1 A LA in
    let gone = take.ended T A g d ad td in let P : RattleType = type_at gone.signature.result z.0.0 in
    let b = z.0.3.0 in let Post : Val → SProp 𝓤 = (walk_of 𝓛 ended stayed c).post z in
    let Run : List Val → SProp 𝓤 = λ vs. WpFn 𝓤 H 𝓣.C 𝓣.Λ fn vs Post in
    let Takes = triple_of 𝓛 (take.signature T A g d ad td) (take.spec T A g d ad td 𝓛 𝓜.mem 𝓡.returns) in
    let at : List Val → Takes.Ghost = λ vs. ((z.0.0, z.0.1, z.0.2, (b, tt), (vs, tt)), tt) in
    let v = one (layout B) z.0.4.0 (((box_laws.the_row_laws (param 0 T) (param 1 A) g (param_laws 0 T LT) LP).lawful 𝓛).typed b z.0.4.0 are.0) in
    qed 𝓛 (raw (Takes.pre (at z.0.4.0)) ∷ []) ∵
    rewrite ! 0 (λ (vs : List Val). raw (Takes.pre (at vs))) v.1 refl $
    suffices ! (Run (v.0 ∷ [])) (subst (λ (vs : List Val). ent 𝓤 (Run (v.0 ∷ [])) (Run vs)) (λ i. sym v.1 i ++ []) (id⊢ 𝓤 _)) $
    enter ! 𝓣.C 𝓣.Λ fn (v.0 ∷ []) Post $ alloc_all ! (λ l. pass_all ! refl (v.2, tt) $
    sets ! (of_opd ! (get ! refl)) refl v.2 $
    calls_at ! (framed 𝓤 H 𝓜 𝓣) Takes (met 𝓤 𝓛 𝓜 𝓡 (code.calls-std_alloc::boxed::Box::into_raw_with_allocator 𝓡.env wired) T A LT LA g d ad td is_alloc ad_is td_is) (at (v.0 ∷ []))
    (and_then ! (get ! refl) (no_more !)) (λ w.
    use1 𝓛 (later (some (λ (r : Ptr × A.Denot). ((‵ (flft z.0.0.0 z.0.1.0) ⊛ ‵ (flft z.0.0.1.0 z.0.1.1.0) ⊛ ‵ ftrue) ⊛ ‵ (P.own_val r (w ∷ []))) ⊛
    some (λ (ws : Lasts gone z.0.0 (b, tt)). ‵ (lasts gone z.0.0 (b, tt) ws) ⊛ raw (fact 𝓤 (r.1 ≡ b.alloc)) ⊛ ‵ (box_owns (g.dealloc_token b.alloc) (param 0 T) r.0 b.value))))) (id⊢ 𝓤 _) $
    await ! tt $ pick ! (λ r. split ! $ split ! $ move ! (2 ∷ []) $ pick ! (λ ws. split ! $ drop ! $ split ! $ heard ! _ (λ same.
    -- [the value; the tokens; the pair]
    let new : (Apart (param 0 T) (param 1 A) LP refl g).Denot = record { at = r.0; alloc = r.1; value = b.value } in
    rewrite ! 0 (λ (a : A.Denot). ‵ (box_owns (g.dealloc_token a) (param 0 T) r.0 b.value)) (sym same) refl $
    move ! (2 ∷ 0 ∷ []) $ fjoin ! $ opened (param 0 T) (param 1 A) LP refl g ! new (w ∷ []) (λ h is fits.
    lands_as ! (ap only is) refl (pair_typed (layout A) r.0 h fits) $
    sets ! (of_opd ! (get_in ! (fld ! refl (stop !)) (sub ! 0 refl (whole !)))) refl (address_typed r.0) $
    sets ! (of_opd ! (get_in ! (fld ! refl (stop !)) (sub ! 1 refl (whole !)))) refl fits $
    sets ! (of_opd ! (get ! refl)) refl fits $
    sets ! (agg ! (and_then ! (get ! refl) (and_then ! (get ! refl) (no_more !)))) refl (pair_typed (layout A) r.0 h fits) $
    made (param 0 T) (param 1 A) LP refl g ! new h $ returns ! (look_at ! 0 refl) $ free_all ! refl $
    move ! (1 ∷ 0 ∷ []) $ use0 𝓛 (raw (fact 𝓤 (b.value ≡ b.value))) (fact_i 𝓤 _ (emp 𝓤) refl) $
    suffices ! _ (leaves 𝓛 ended stayed c z (pair (ptr_val r.0) h) new ((tt, (tt, tt)), tt) (tt, tt)) $
    move ! (2 ∷ 0 ∷ []) $ join ! $ nothing ! $ nothing ! $ fjoin ! $ join ! $ move ! (1 ∷ 0 ∷ []) $ join ! $ done !)))))))
