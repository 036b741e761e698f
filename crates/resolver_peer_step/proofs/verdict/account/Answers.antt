use Rattle.std.proofs.Common.{◌∙◌, refl, sym, append-nil}
use Rattle.std.proofs.lemmas.Result.{on_ok_weaker}
use Rattle.resolver_model_peer.proofs.Refusals.{refused, refused-as}
use Rattle.resolver_peer_step.proofs.verdict.account.Goals as goal

pub returns-then-accepted-clause-told : goal.returns-then-accepted-clause-told
returns-then-accepted-clause-told g c = rw c.if-accepted.true (sym (append-nil c.args.effects.now.items))

pub returns-then-accepted-clause-ok : goal.returns-then-accepted-clause-ok
returns-then-accepted-clause-ok g c = rw c.if-accepted.true refl

pub returns-in_default-outcome-clause-told : goal.returns-in_default-outcome-clause-told
returns-in_default-outcome-clause-told g c = rw (c.if-accepted.false, c.in_default-outcome.is) (sym (append-nil c.args.effects.now.items))

pub returns-in_default-outcome-clause-ok : goal.returns-in_default-outcome-clause-ok
returns-in_default-outcome-clause-ok g c = rw (c.if-accepted.false, c.in_default-outcome.is) refl

pub returns-in_err-push-in-Resolved-clause-told : goal.returns-in_err-push-in-Resolved-clause-told
returns-in_err-push-in-Resolved-clause-told g c = refused c.from_residual.result _ _ c.from_residual.ensures.1

pub returns-in_err-push-in-Resolved-clause-ok : goal.returns-in_err-push-in-Resolved-clause-ok
returns-in_err-push-in-Resolved-clause-ok g c = refused c.from_residual.result _ _ c.from_residual.ensures.1

pub returns-in_err-push-in-Resolved-clause-only : goal.returns-in_err-push-in-Resolved-clause-only
returns-in_err-push-in-Resolved-clause-only g c = refused-as c.from_residual.result _ _ c.from_residual.ensures.1 (λ fault same. same)

pub returns-in_ok-push-in-Resolved-clause-told : goal.returns-in_ok-push-in-Resolved-clause-told
returns-in_ok-push-in-Resolved-clause-told g c = c.in_ok-push-in-Resolved.ensures.items ∙ rw (c.if-accepted.false, c.in-Some.is, c.in-Resolved.is) refl

pub returns-in_ok-push-in-Resolved-clause-ok : goal.returns-in_ok-push-in-Resolved-clause-ok
returns-in_ok-push-in-Resolved-clause-ok g c = c.record_response.ensures ∙ rw (c.if-accepted.false, c.in-Some.is, c.in-Resolved.is) refl

pub returns-in-Invalid-clause-told : goal.returns-in-Invalid-clause-told
returns-in-Invalid-clause-told g c = rw (c.if-accepted.false, c.in-Some.is, c.in-Invalid.is) c.complain.ensures.told

pub returns-in-Invalid-clause-ok : goal.returns-in-Invalid-clause-ok
returns-in-Invalid-clause-ok g c = rw (c.if-accepted.false, c.in-Some.is, c.in-Invalid.is) (on_ok_weaker c.complain.result (λ told. refl) c.complain.ensures.told)

pub returns-in-Unresolved-clause-told : goal.returns-in-Unresolved-clause-told
returns-in-Unresolved-clause-told g c = rw (c.if-accepted.false, c.in-Some.is, c.in-Unresolved.is) (sym (append-nil c.args.effects.now.items))

pub returns-in-Unresolved-clause-ok : goal.returns-in-Unresolved-clause-ok
returns-in-Unresolved-clause-ok g c = rw (c.if-accepted.false, c.in-Some.is, c.in-Unresolved.is) refl

pub returns-in-Ignored-clause-told : goal.returns-in-Ignored-clause-told
returns-in-Ignored-clause-told g c = rw (c.if-accepted.false, c.in-Some.is, c.in-Ignored.is) (sym (append-nil c.args.effects.now.items))

pub returns-in-Ignored-clause-ok : goal.returns-in-Ignored-clause-ok
returns-in-Ignored-clause-ok g c = rw (c.if-accepted.false, c.in-Some.is, c.in-Ignored.is) refl
