use Rattle.std.proofs.Common.{◌≡◌, ◌∙◌, ap, refl, sym, ℕ, ◌+◌, ◌<◌, List, [], ◌∷◌, ◌++◌, append-nil, append_assoc, add-one, drop, drop-cons, get_or, length, Option, None, Some}
use Rattle.std.proofs.lemmas.List.{drop_all}
use Rattle.std.specs.List.{cons_option, filter_map}
use Rattle.resolver_delivery.specs.Entries.{number_of}
use Rattle.resolver_model_peer.specs.Canceled.{canceled, each_canceled}
use Rattle.resolver_model_peer.proofs.Refusals.{refused, refused-as}
use Rattle.resolver_model_peer.proofs.canceled.cancel_each.Goals as goal
use Rattle.resolver_model_peer.proofs.canceled.cancel_each.Goals.{in-Some+in_ok-push, in_default}

-- what is told of the next of some is told before what is told of the others
told-next : {X Y : Type 0} (f : X → Option Y) (xs : List X) (i : ℕ) (x : X) (before after all : List Y) → i < length xs → x ≡ get_or xs i x
    → before ++ filter_map f (drop i xs) ≡ all → after ≡ before ++ cons_option (f x) [] → after ++ filter_map f (drop (i + 1) xs) ≡ all
told-next f xs i x before after all below is so_far now =
    let next : drop i xs ≡ x ∷ drop (i + 1) xs = drop-cons xs i x below ∙ rw (add-one i, ← is) refl in
    ap (λ told. told ++ filter_map f (drop (i + 1) xs)) now ∙ at (f x) (filter_map f (drop (i + 1) xs)) ∙ sym (ap (λ xs. before ++ filter_map f xs) next) ∙ so_far
  where
    at : (o : Option _) (rest : List _) → (before ++ cons_option o []) ++ rest ≡ before ++ cons_option o rest
    at None rest = ap (λ told. told ++ rest) (append-nil before)
    at (Some y) rest = append_assoc before (y ∷ []) rest

pub loop-key-init : goal.loop-key-init
loop-key-init g c = refl

pub loop-key-preserved : goal.loop-key-preserved
loop-key-preserved g c =
    let tells = λ (key : g.row.K.Denot). canceled (number_of g.K.Ord.cmp c.args.entries.now key) in
    let next = told-next tells c.args.keys.now c.loop-key.key-index c.key-item.result c.loop-key.effects.items c.match-number.effects.items _ c.loop-key-test.true c.key-item.is c.loop-key.invariant in
    elim c.match-number.branch [
      | in-Some+in_ok-push w ↦ next (ap (λ effects. effects.items) w.effects-is ∙ w.in_ok-push.ensures.items ∙ ap (λ number. c.loop-key.effects.items ++ cons_option (canceled number) []) w.in-Some.ensures)
      | in_default w ↦
          next (ap (λ effects. effects.items) w.effects-is ∙ sym (append-nil c.loop-key.effects.items) ∙ ap (λ number. c.loop-key.effects.items ++ cons_option (canceled number) []) w.in_default.ensures)
    ]

pub returns-clause-told : goal.returns-clause-told
returns-clause-told g c =
    let over = drop_all c.loop-key.key-index c.args.keys.now c.loop-key-test.false in
    sym (append-nil c.loop-key.effects.items) ∙ sym (ap (λ keys. c.loop-key.effects.items ++ each_canceled g.K.Ord.cmp c.args.entries.now keys) over) ∙ c.loop-key.invariant

pub returns-in_err-push-clause-told : goal.returns-in_err-push-clause-told
returns-in_err-push-clause-told g c = refused c.from_residual.result _ _ c.from_residual.ensures.1

pub returns-in_err-push-clause-only : goal.returns-in_err-push-clause-only
returns-in_err-push-clause-only g c = refused-as c.from_residual.result _ _ c.from_residual.ensures.1 (λ fault same. same)
