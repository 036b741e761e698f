use Rattle.std.proofs.Common.{◌≡◌, ◌∙◌, ℕ, Some, ap, cond, rules}
use Rattle.std.specs.Map.{lookup}
use Rattle.std.specs.BTreeMap.{is_at}
use Rattle.std.specs.Ordering.{nat_cmp}
use Rattle.resolver_model_opaque.proofs.stages.lead.Goals as goal

pub returns-clause-ok : goal.returns-clause-ok
returns-clause-ok g c = λ a.
    let is_next : c.in_ok-attempt.attempt ≡ c.args.attempts.now = search rules in
    let led : c.in_ok-led.led ≡ c.args.key.now = c.requires.keys_clone _ _ c.in_ok-led.ensures.cases in
    c.in_ok-insert.ensures.ok a
    ∙ (ap (λ (n : ℕ). cond (is_at (nat_cmp n) a) (Some c.in_ok-led.led) (lookup (is_at (nat_cmp a)) c.args.asked.now)) is_next
    ∙ ap (λ k. cond (is_at (nat_cmp c.args.attempts.now) a) (Some k) (lookup (is_at (nat_cmp a)) c.args.asked.now)) led)
