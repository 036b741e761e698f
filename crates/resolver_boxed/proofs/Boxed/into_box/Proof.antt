-- `into_box` hands std both parts, with what is owned of the value.
use Rattle.std.proofs.Common.{◌≡◌, List, [], ◌∷◌, ◌++◌, refl, sym, subst}
use mir.Syntax.{Fn, a_type, dcons, dnil}
use mir.MapTy.{inst_fn}
use mir.Val.{Val}
use base.Logic.{SProp, ent, id⊢}
use base.Fml.{ftrue, flft}
use prog.Wp.{WpFn}
use types.Kit.{‵, raw, ◌⊛◌, some, later, ◌$◌, ◌∵◌, !, qed, done, move, drop, split, join, fsplit, fjoin, feq_i, pick, at_ret, await, suffices, use1}
use types.Run.{of_opd, stop, fld, no_more, and_then, first, blocks, exec, returns, enter}
use types.ByLocal.{alloc_all, pass_all, free_all, look_at, get, get_in, sets, lands_last, env}
use types.Part.{sub, whole}
use contract.Monad.{fact}
use contract.Running.{tables}
use denote.Exit.{no}
use denote.RattleType.{RattleType, owns}
use denote.Laws.{Is, shows}
use denote.Param.{bounded, layout, param}
use denote.Param.Laws.{param_laws}
use denote.Signature.{plain, types_at}
use denote.RawPtr.{ptr_val}
use denote.Steps.{nothing, peeks}
use denote.Triple.Call.{calls_at_last}
use denote.Triple.Clauses.{Lasts, lasts}
use denote.Triple.Spec.{triple_of}
use denote.Triple.Table.{framed}
use denote.Triple.Walked.{Stays, stay_dropped, walk_of}
use Rattle.std.proofs.raw_atomic.Walks.{proved_at, leaves}
use Rattle.std.proofs.alloc.Calls.{Goes-blank}
use Rattle.std.proofs.VecSteps.Shapes.{after}
use contract.BorrowLft.{◌⊑◌}
use Rattle.std.specs.contracts.boxed.Box as whole_box
use Rattle.std.specs.contracts.boxed.Box.from_raw as back
use Rattle.std.proofs.boxed.Box.from_raw.Met.{met}
use Rattle.std.proofs.boxed.Box.TheLaws as box_laws
use Rattle.resolver_boxed.proofs.Words.{Apart, pair, address_typed, pair_typed, opened}
use Rattle.resolver_boxed.specs.contracts.Boxed.into_box as f
use Rattle.resolver_boxed.specs.contracts.Boxed.into_box.Key.{name as #self}
use Rattle.resolver_boxed.proofs.Boxed.into_box.Statement.{statement}
use Rattle.resolver_boxed.proofs.Boxed.into_box.Code as code

pub into_box_spec : {M : Type 1} → statement M
into_box_spec 𝓤 𝓛 𝓜 𝓡 wired T A LT LA g d ad is_alloc ad_is =
    let H = 𝓛.H in let 𝓣 = tables 𝓤 H 𝓜 𝓡 𝓡.env in
    let ended = f.ended T A g d ad in let c = f.clauses T A g d ad 𝓛 𝓜.mem 𝓡.returns in
    let LP = param_laws 1 A LA in
    let B : RattleType = whole_box.the_row (param 0 T) (param 1 A) g in
    let stayed : Stays ended.signature.params ended.kept = (stay_dropped (plain (λ _. Apart (param 0 T) (param 1 A) LP refl g)) no, tt) in
    let args = bounded (a_type ∷ a_type ∷ []) (T, (A, tt)) (dcons d (dcons ad dnil)) in
    let fn : Fn = inst_fn args code.function in
    proved_at 𝓛 ended stayed c 𝓜 𝓡 (Goes-blank 𝓛 2 (plain (λ _. Apart (param 0 T) (param 1 A) LP refl g)) no (λ κs x f. tt), tt) (#self args) fn (code.unfolded 𝓤 H 𝓜 𝓡 wired (T, (A, tt)) d ad) (λ z are.
    let b = z.0.3.0 in let p : Val = ptr_val b.at in let Post : Val → SProp 𝓤 = (walk_of 𝓛 ended stayed c).post z in
    let Run : List Val → SProp 𝓤 = λ vs. WpFn 𝓤 H 𝓣.C 𝓣.Λ fn vs Post in
    let Gives = triple_of 𝓛 (back.signature T A g d ad) (back.spec T A g d ad 𝓛 𝓜.mem 𝓡.returns) in
    let came = back.ended T A g d ad in
    let box_lawful = (box_laws.the_row_laws (param 0 T) (param 1 A) g (param_laws 0 T LT) LP).lawful 𝓛 in
    qed 𝓛 (((‵ (flft z.0.0.0 z.0.1.0) ⊛ ‵ (flft z.0.0.1.0 z.0.1.1.0) ⊛ ‵ ftrue) ⊛ ‵ (owns (types_at ended.signature.params z.0.0) z.0.3 z.0.4))
    ∷ (raw (fact 𝓤 (z.0.0.0 ⊑ T.lives)) ⊛ raw (fact 𝓤 (z.0.0.1.0 ⊑ A.lives)) ⊛ ‵ ftrue) ∷ []) ∵
    split ! $ move ! (1 ∷ []) $ fsplit ! $ opened (param 0 T) (param 1 A) LP refl g ! b z.0.4.0 (λ h is fits.
    suffices ! (Run (pair p h ∷ [])) (subst (λ (vs : List Val). ent 𝓤 (Run (pair p h ∷ [])) (Run vs)) (λ i. sym is i ++ []) (id⊢ 𝓤 _)) $
    enter ! 𝓣.C 𝓣.Λ fn (pair p h ∷ []) Post $ alloc_all ! (λ l. pass_all ! refl (pair_typed (layout A) b.at h fits, tt) $
    sets ! (of_opd ! (get_in ! (fld ! refl (stop !)) (sub ! 0 refl (whole !)))) refl (address_typed b.at) $
    sets ! (of_opd ! (get_in ! (fld ! refl (stop !)) (sub ! 1 refl (whole !)))) refl fits $
    first ! $ blocks ! $ sets ! (of_opd ! (get ! refl)) refl fits $
    -- [the handle; the value; nothing; the tokens; what lives]
    let given : Gives.Ghost = ((z.0.0, z.0.1, tt, (b.alloc, (b.at, tt)), (h ∷ [], (p ∷ [], tt))), b.value) in
    move ! (4 ∷ []) $ split ! $ move ! (1 ∷ []) $ split ! $ move ! (0 ∷ 4 ∷ []) $ join ! $ move ! (2 ∷ 0 ∷ []) $ join ! $
    move ! (1 ∷ []) $ feq_i ! (List Val) (p ∷ []) (p ∷ []) refl $ fjoin ! $ move ! (2 ∷ 0 ∷ []) $ fjoin ! $ move ! (3 ∷ 0 ∷ []) $ join ! $ move ! (0 ∷ 1 ∷ []) $ join ! $
    use1 𝓛 (raw (Gives.pre given)) (id⊢ 𝓤 _) $
    calls_at_last ! (framed 𝓤 H 𝓜 𝓣) Gives (met 𝓤 𝓛 𝓜 𝓡 (code.calls-std_alloc::boxed::Box::from_raw 𝓡.env wired) T A LT LA g d ad is_alloc ad_is) given
    (and_then ! (get ! refl) (and_then ! (get ! refl) (no_more !))) (λ w.
    use1 𝓛 (later (some (λ (r : B.Denot). ((‵ (flft z.0.0.0 z.0.1.0) ⊛ ‵ (flft z.0.0.1.0 z.0.1.1.0) ⊛ ‵ ftrue) ⊛ ‵ (B.own_val r (w ∷ []))) ⊛
    some (λ (ws : Lasts came z.0.0 (b.alloc, (b.at, tt))). ‵ (lasts came z.0.0 (b.alloc, (b.at, tt)) ws) ⊛ raw (fact 𝓤 (r.value ≡ b.value)) ⊛ raw (fact 𝓤 (r.alloc ≡ b.alloc)))))) (id⊢ 𝓤 _) $
    await ! tt $ pick ! (λ r. split ! $ split ! $ move ! (2 ∷ []) $ pick ! (λ ws. split ! $ drop ! $ split ! $ move ! (1 ∷ []) $ drop ! $
    -- [the same value; the tokens; the box; nothing]
    move ! (2 ∷ []) $ peeks ! B (Is B) (shows 𝓛 B) r (w ∷ []) (λ is_box. let typed = (box_lawful.typed r (w ∷ []) is_box).0 in
    lands_last ! refl typed $ exec ! 𝓣.C 𝓣.Λ (env fn.locals l) (after 3 fn.body) (at_ret (env fn.locals l) Post) $
    sets ! (of_opd ! (get ! refl)) refl typed $ returns ! (look_at ! 0 refl) $ free_all ! refl $
    suffices ! _ (leaves 𝓛 ended stayed c z w r ((tt, (tt, tt)), tt) (tt, tt)) $
    join ! $ move ! (2 ∷ []) $ nothing ! $ fjoin ! $ join ! $ move ! (1 ∷ 0 ∷ []) $ join ! $ done !)))))))
