use Rattle.std.proofs.Common.{◌≡◌, ◌∙◌, ◌+◌, ℕ, Some, ap, refl, cond, rules}
use Rattle.std.specs.Map.{lookup}
use Rattle.std.specs.BTreeMap.{is_at}
use Rattle.std.specs.Ordering.{nat_cmp}
use Rattle.std.proofs.lemmas.Cmp.{eq_by_cmp_equiv}
use Rattle.resolver_model_opaque.proofs.Led.{led-again}
use Rattle.resolver_model_opaque.proofs.Dues.{due-again}
use Rattle.resolver_model_opaque.proofs.stages.Stages.ask_again.Goals as goal

pub invariant_of-self-2 : goal.invariant_of-self-2
invariant_of-self-2 g c =
    let is_next : c.in_ok-attempt.attempt ≡ c.self.inside.attempts = c.in_ok-attempt.ensures.attempt.0 in
    let put = c.in_ok-attempt.ensures.ok in
    let counted : c.take.new.self ≡ c.self.inside.attempts + 1 = search rules in
    let own = rw (← c.self.view_is) at c.requires.own in
    rw (counted, c.set_state.ensures, c.remove.ensures.after, is_next) (
      led-again g.met.K.Ord.total (eq_by_cmp_equiv g.met.K.Ord.total) c.args.key.now c.self.inside.attempts c.self.inside.asked c.leave.new.asked c.self.inside.entries.keys c.self.invariant.0 c.lead.new.asked own put c.leave.ensures,
      due-again g.met.K.Ord.total (eq_by_cmp_equiv g.met.K.Ord.total) c.args.key.now c.self.inside.retries c.self.inside.entries.keys c.self.invariant.1 c.self.inside.attempts,
    )

pub invariant_of-self : goal.invariant_of-self
invariant_of-self g c = rw c.in_err-attempt.ensures.err c.self.invariant

pub returns : goal.returns
returns g c =
    let is_next : c.in_ok-attempt.attempt ≡ c.self.inside.attempts = c.in_ok-attempt.ensures.attempt.0 in
    let counted : c.take.new.self ≡ c.self.inside.attempts + 1 = search rules in
    record {
      attempt = is_next ∙ ap (λ s. s.next_attempt) c.self.view_is;
      ok = rw (← c.self.view_is, c.set_state.ensures, counted, is_next) refl;
      err = tt;
      only = tt;
    }
