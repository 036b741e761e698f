use Rattle.std.proofs.Common.{◌≡◌, ◌∙◌, ap, ℕ, List, ◌++◌, ◌∷◌, [], Option, None, Some}
use Rattle.std.specs.Prelude.{IfSome}
use Rattle.resolver_types.specs.declared.delivery.Delivery.{Delivery}
use Rattle.resolver_delivery.specs.declared.entry.Response.{Response}
use Rattle.resolver_delivery.specs.declared.again.HandedOut.{HandedOut}
use Rattle.resolver_delivery.specs.Entries.{response_of}
use Rattle.resolver_model_peer.specs.declared.effects.Effect.{Effect}
use Rattle.resolver_model_peer.specs.declared.effects.Effect.TheVariants.{Deliver}
use Rattle.resolver_model_peer.proofs.handed.hand_out_again.Goals as goal

-- what was handed out is told
told : {K S P C : Type 0} (found : Option (Response (List ℕ) C)) (handed : HandedOut K S (List ℕ)) (next : ℕ) (delivery : Delivery K S) (before after : List (Effect K P S))
    → IfSome found (λ r. handed ≡ record { number = next; response = r.name; delivery = delivery; value = r.value })
    → after ≡ before ++ Deliver handed.number handed.response handed.delivery handed.value ∷ []
    → IfSome found (λ r. after ≡ before ++ Deliver next r.name delivery r.value ∷ [])
told None handed next delivery before after is put = tt
told (Some r) handed next delivery before after is put = put ∙ ap (λ h. before ++ Deliver h.number h.response h.delivery h.value ∷ []) is

pub hand_out_again-requires-clause-contexts_clone : goal.hand_out_again-requires-clause-contexts_clone
hand_out_again-requires-clause-contexts_clone g c = λ x y is.
    ap (λ peer. record y { peer = peer }) (c.requires.peers_clone x.peer y.peer is.0)
    ∙ ap (λ elapsed. record y { peer = x.peer; elapsed = elapsed }) is.1.0
    ∙ ap (λ bytes. record x { bytes = bytes }) is.1.1

pub returns-clause-told : goal.returns-clause-told
returns-clause-told g c =
    told (response_of g.K.Ord.cmp c.args.entries.now c.args.delivery.key) c.in_ok-handed.handed
    c.args.entries.now.next c.args.delivery c.args.effects.now.items c.push.new.self.items c.in_ok-handed.ensures.handed c.in_ok-push.ensures.items
