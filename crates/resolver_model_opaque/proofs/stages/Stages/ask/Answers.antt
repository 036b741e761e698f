use Rattle.std.proofs.Common.{◌≡◌, ◌∙◌, ◌+◌, ℕ, Some, None, ap, refl, cond, rules}
use Rattle.std.specs.Map.{lookup}
use Rattle.std.specs.BTreeMap.{is_at}
use Rattle.std.specs.Ordering.{nat_cmp}
use Rattle.std.proofs.lemmas.Cmp.{eq_by_cmp_equiv}
use Rattle.resolver_model_opaque.proofs.Led.{led-asked, led-undone, absent-kept}
use Rattle.resolver_model_opaque.proofs.Dues.{due-asked}
use Rattle.resolver_model_opaque.proofs.stages.Stages.ask.Goals as goal

pub invariant_of-self-in-Err : goal.invariant_of-self-in-Err
invariant_of-self-in-Err g c =
    let is_next : c.in_ok-attempt.attempt ≡ c.self.inside.attempts = c.in_ok-attempt.ensures.attempt.0 in
    let put = c.in_ok-attempt.ensures.ok in
    let gone : (a : ℕ) → lookup (is_at (nat_cmp a)) c.remove.new.self ≡ cond (is_at (nat_cmp c.self.inside.attempts) a) None (lookup (is_at (nat_cmp a)) c.lead.new.asked) =
    λ a. c.remove.ensures a ∙ ap (λ (n : ℕ). cond (is_at (nat_cmp n) a) None (lookup (is_at (nat_cmp a)) c.lead.new.asked)) is_next in
    rw c.in-Err.ensures.err
    (led-undone g.met.K.Ord.total (eq_by_cmp_equiv g.met.K.Ord.total) c.args.key c.self.inside.attempts c.self.inside.asked c.lead.new.asked c.remove.new.self c.self.inside.entries.keys c.self.invariant.0 put gone, c.self.invariant.1)

pub invariant_of-self-2 : goal.invariant_of-self-2
invariant_of-self-2 g c =
    let is_next : c.in_ok-attempt.attempt ≡ c.self.inside.attempts = c.in_ok-attempt.ensures.attempt.0 in
    let put = c.in_ok-attempt.ensures.ok in
    let counted : c.take.new.self ≡ c.self.inside.attempts + 1 = search rules in
    let absent = rw (← c.self.view_is) at c.requires.absent in
    let none = absent-kept g.K.Ord.cmp c.args.key c.self.inside.entries.keys absent in
    rw (counted, c.in_default.ensures.ok, absent, is_next) (
      led-asked g.met.K.Ord.total (eq_by_cmp_equiv g.met.K.Ord.total) c.args.key c.self.inside.attempts c.self.inside.asked c.lead.new.asked c.self.inside.entries.keys c.self.invariant.0 none put,
      due-asked g.met.K.Ord.total (eq_by_cmp_equiv g.met.K.Ord.total) c.args.key c.self.inside.retries c.self.inside.entries.keys c.self.invariant.1 c.self.inside.attempts none,
    )

pub invariant_of-self : goal.invariant_of-self
invariant_of-self g c = rw c.in_err-attempt.ensures.err c.self.invariant

pub insert_new-asked-requires : goal.insert_new-asked-requires
insert_new-asked-requires g c = record { absent = rw (← c.self.view_is) at c.requires.absent }

pub returns-in-Err : goal.returns-in-Err
returns-in-Err g c = record {
  attempt = tt;
  ok = tt;
  err = rw c.in-Err.ensures.err c.self.view_is;
  only = search rules;
}

pub returns : goal.returns
returns g c =
    let is_next : c.in_ok-attempt.attempt ≡ c.self.inside.attempts = c.in_ok-attempt.ensures.attempt.0 in
    let counted : c.take.new.self ≡ c.self.inside.attempts + 1 = search rules in
    record {
      attempt = is_next ∙ ap (λ s. s.next_attempt) c.self.view_is;
      ok = rw (← c.self.view_is, c.in_default.ensures.ok, counted, is_next) refl;
      err = tt;
      only = tt;
    }
