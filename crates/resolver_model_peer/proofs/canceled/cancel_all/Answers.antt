use Rattle.std.proofs.Common.{◌≡◌, ◌∙◌, ap, sym, List, [], ◌∷◌, ◌++◌, append-nil, append_assoc, Option, None, Some}
use Rattle.std.specs.List.{cons_option}
use Rattle.resolver_model_peer.specs.Canceled.{all_canceled, canceled}
use Rattle.resolver_model_peer.proofs.Refusals.{refused, refused-as}
use Rattle.resolver_model_peer.proofs.canceled.cancel_all.Goals as goal

-- what is told of the next key is told before what is told of the others
told-next : {Y : Type 0} (o : Option Y) (before after rest all : List Y) → before ++ cons_option o rest ≡ all → after ≡ before ++ cons_option o [] → after ++ rest ≡ all
told-next None before after rest all so_far now = ap (λ told. told ++ rest) (now ∙ append-nil before) ∙ so_far
told-next (Some y) before after rest all so_far now = ap (λ told. told ++ rest) now ∙ append_assoc before (y ∷ []) rest ∙ so_far

pub loop-entry-init : goal.loop-entry-init
loop-entry-init g c = ap (λ keys. c.args.effects.now.items ++ all_canceled keys) (c.into_iter-entry-iterator.ensures.into_iter_gives ∙ c.iter-entry-items.ensures.rest)

pub loop-entry-preserved-in-Continue-1 : goal.loop-entry-preserved-in-Continue-1
loop-entry-preserved-in-Continue-1 g c =
    told-next (canceled c.in-Some.entry.now.number) c.loop-entry.effects.items c.push.new.self.items (all_canceled c.next.new.self) _
    (sym (ap (λ keys. c.loop-entry.effects.items ++ all_canceled keys) c.in-Some.ensures.steps) ∙ c.loop-entry.invariant)
    (c.in_ok-push.ensures.items ∙ sym (ap (λ number. c.loop-entry.effects.items ++ cons_option (canceled number) []) c.in-Some-number.is))

pub loop-entry-preserved : goal.loop-entry-preserved
loop-entry-preserved g c =
    told-next (canceled c.in-Some.entry.now.number) c.loop-entry.effects.items c.loop-entry.effects.items (all_canceled c.next.new.self) _
    (sym (ap (λ keys. c.loop-entry.effects.items ++ all_canceled keys) c.in-Some.ensures.steps) ∙ c.loop-entry.invariant)
    (sym (append-nil c.loop-entry.effects.items) ∙ sym (ap (λ number. c.loop-entry.effects.items ++ cons_option (canceled number) []) c.in_default.is))

pub returns-clause-told : goal.returns-clause-told
returns-clause-told g c =
    sym (append-nil c.loop-entry.effects.items) ∙ sym (ap (λ keys. c.loop-entry.effects.items ++ all_canceled keys) c.in-None.ensures.steps.0) ∙ c.loop-entry.invariant

pub returns-in_err-push-clause-told : goal.returns-in_err-push-clause-told
returns-in_err-push-clause-told g c = refused c.from_residual.result _ _ c.from_residual.ensures.1

pub returns-in_err-push-clause-only : goal.returns-in_err-push-clause-only
returns-in_err-push-clause-only g c = refused-as c.from_residual.result _ _ c.from_residual.ensures.1 (λ fault same. same)
