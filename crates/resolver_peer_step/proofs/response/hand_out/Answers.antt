use Rattle.std.proofs.Common.{◌∙◌, ap, refl, subst, ◌<◌, ◌^◌, rules}
use Rattle.resolver_delivery.proofs.Refusals.{refusal-is}
use Rattle.resolver_model_peer.proofs.Refusals.{refused, refused-as}
use Rattle.resolver_peer_step.proofs.response.hand_out.Goals as goal

pub deliver-requires-clause-contexts_clone : goal.deliver-requires-clause-contexts_clone
deliver-requires-clause-contexts_clone g c = λ x y is.
    ap (λ peer. record y { peer = peer }) (c.requires.peers_clone x.peer y.peer is.0)
    ∙ ap (λ elapsed. record y { peer = x.peer; elapsed = elapsed }) is.1.0
    ∙ ap (λ bytes. record x { bytes = bytes }) is.1.1

pub returns-clause-told : goal.returns-clause-told
returns-clause-told g c = c.in_ok-push.ensures.items ∙ rw (c.in_ok-number.ensures.number, ap (λ copies. copies.0) c.in_ok-told.ensures) refl

pub returns-clause-ok : goal.returns-clause-ok
returns-clause-ok g c = c.in_ok-number.ensures.ok ∙ rw (ap (λ copies. copies.1) c.in_ok-told.ensures) refl

pub returns-in_err-push-clause-told : goal.returns-in_err-push-clause-told
returns-in_err-push-clause-told g c = refused c.from_residual-in_err-push.result _ _ c.from_residual-in_err-push.ensures.1

pub returns-in_err-push-clause-ok : goal.returns-in_err-push-clause-ok
returns-in_err-push-clause-ok g c = refused c.from_residual-in_err-push.result _ _ c.from_residual-in_err-push.ensures.1

pub returns-in_err-push-clause-room : goal.returns-in_err-push-clause-room
returns-in_err-push-clause-room g c = refused c.from_residual-in_err-push.result _ _ c.from_residual-in_err-push.ensures.1

pub returns-in_err-push-clause-only : goal.returns-in_err-push-clause-only
returns-in_err-push-clause-only g c = refused-as c.from_residual-in_err-push.result _ _ c.from_residual-in_err-push.ensures.1 (λ fault same. rw same tt)

pub returns-clause-room : goal.returns-clause-room
returns-clause-room g c = subst (λ n. n < 2 ^ 64) c.in_ok-number.ensures.number (search rules)
