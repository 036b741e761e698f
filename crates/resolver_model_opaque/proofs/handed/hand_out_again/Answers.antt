use Rattle.std.proofs.Common.{◌≡◌, ◌∙◌, ap, ℕ, List, ◌++◌, ◌∷◌, [], Option, None, Some}
use Rattle.std.specs.Prelude.{IfSome}
use Rattle.resolver_types.specs.declared.delivery.Delivery.{Delivery}
use Rattle.resolver_delivery.specs.Again.{flagged}
use Rattle.resolver_delivery.specs.Entries.{response_of}
use Rattle.resolver_delivery.specs.declared.entry.Response.{Response}
use Rattle.resolver_delivery.specs.declared.again.HandedOut.{HandedOut}
use Rattle.resolver_delivery.proofs.Cached.{caches-some, flagged-response}
use Rattle.resolver_model_opaque.specs.declared.effects.Effect.{Effect}
use Rattle.resolver_model_opaque.specs.declared.effects.Effect.TheVariants.{Deliver}
use Rattle.resolver_model_opaque.proofs.Closing.{keys-flagged, cached-flagged, keys-redelivered, cached-redelivered}
use Rattle.resolver_model_opaque.proofs.handed.hand_out_again.Goals as goal

-- what was handed out is told
told : {K V S : Type 0} (found : Option (Response V (Unit {0}))) (handed : HandedOut K S V) (next : ℕ) (delivery : Delivery K S) (before after : List (Effect K V S))
    → IfSome found (λ r. handed ≡ record { number = next; response = r.name; delivery = delivery; value = r.value })
    → after ≡ before ++ Deliver handed.number handed.response handed.delivery handed.value ∷ []
    → IfSome found (λ r. after ≡ before ++ Deliver next r.name delivery r.value ∷ [])
told None handed next delivery before after is put = tt
told (Some r) handed next delivery before after is put = put ∙ ap (λ h. before ++ Deliver h.number h.response h.delivery h.value ∷ []) is

pub returns-in_err-handed-clause-same : goal.returns-in_err-handed-clause-same
returns-in_err-handed-clause-same g c = rw c.in_err-handed.ensures.err (keys-flagged g.K.Ord.cmp c.args.accepted c.args.delivery.key c.args.stages.now.entries)

pub returns-in_err-handed-clause-cached : goal.returns-in_err-handed-clause-cached
returns-in_err-handed-clause-cached g c = λ cached. rw c.in_err-handed.ensures.err (cached-flagged g.K.Ord.cmp c.args.accepted c.args.delivery.key c.args.stages.now.entries cached)

pub returns-in_err-push-clause-same : goal.returns-in_err-push-clause-same
returns-in_err-push-clause-same g c =
    rw c.in_ok-handed.ensures.ok
    (keys-redelivered g.K.Ord.cmp c.args.delivery (flagged g.K.Ord.cmp c.args.accepted c.args.delivery.key c.args.stages.now.entries) ∙ keys-flagged g.K.Ord.cmp c.args.accepted c.args.delivery.key c.args.stages.now.entries)

pub returns-in_err-push-clause-cached : goal.returns-in_err-push-clause-cached
returns-in_err-push-clause-cached g c = λ cached.
    let x = caches-some g.K.Ord.cmp c.args.delivery.key c.args.stages.now.entries c.requires.cached in
    rw c.in_ok-handed.ensures.ok
    (cached-redelivered g.K.Ord.cmp c.args.delivery (flagged g.K.Ord.cmp c.args.accepted c.args.delivery.key c.args.stages.now.entries) _ (flagged-response g.K.Ord.cmp c.args.delivery.key c.args.stages.now.entries x c.args.accepted) (cached-flagged g.K.Ord.cmp c.args.accepted c.args.delivery.key c.args.stages.now.entries cached))

pub returns-clause-same : goal.returns-clause-same
returns-clause-same g c =
    rw c.in_ok-handed.ensures.ok
    (keys-redelivered g.K.Ord.cmp c.args.delivery (flagged g.K.Ord.cmp c.args.accepted c.args.delivery.key c.args.stages.now.entries) ∙ keys-flagged g.K.Ord.cmp c.args.accepted c.args.delivery.key c.args.stages.now.entries)

pub returns-clause-cached : goal.returns-clause-cached
returns-clause-cached g c = λ cached.
    let x = caches-some g.K.Ord.cmp c.args.delivery.key c.args.stages.now.entries c.requires.cached in
    rw c.in_ok-handed.ensures.ok
    (cached-redelivered g.K.Ord.cmp c.args.delivery (flagged g.K.Ord.cmp c.args.accepted c.args.delivery.key c.args.stages.now.entries) _ (flagged-response g.K.Ord.cmp c.args.delivery.key c.args.stages.now.entries x c.args.accepted) (cached-flagged g.K.Ord.cmp c.args.accepted c.args.delivery.key c.args.stages.now.entries cached))

pub returns-clause-told : goal.returns-clause-told
returns-clause-told g c =
    told (response_of g.K.Ord.cmp c.args.stages.now.entries c.args.delivery.key) c.in_ok-handed.handed
    c.args.stages.now.entries.next c.args.delivery c.args.effects.now.items c.push.new.self.items c.in_ok-handed.ensures.handed c.in_ok-push.ensures.items
