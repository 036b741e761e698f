-- A verdict that is not live passes.
use Rattle.std.proofs.Common.{◌≡◌, refl, ap, sym, ◌∙◌, ℕ, false, cond, Option, None, Some}
use Rattle.std.specs.Map.{lookup}
use Rattle.std.specs.BTreeMap.{is_at}
use Rattle.std.specs.Ordering.{nat_cmp}
use Rattle.resolver_types.specs.Names.{Names}
use Rattle.resolver_types.specs.declared.outcome.Outcome.{Outcome}
use Rattle.resolver_model.specs.Account.{Handed}
use Rattle.resolver_model.specs.Verdicts.{ruling}
use Rattle.resolver_model_opaque.specs.Opaque.{Machine, Row, Verdict, step_in, step_done, quiet, closed, ruled, row_of, verdict, verdict_on, verdict_at, verdict_in}
use Rattle.resolver_model_opaque.specs.OpaquePhases.{Phase, Waiting, Asked, Judged}
use Rattle.resolver_model_opaque.specs.OpaqueLaws.{is_judged_under, row_judged_under, is_live_as, is_live, DeadVerdictsPass}
use Rattle.resolver_model.proofs.Tallies.{remove_entry-absent}

module _ {K V S : Type 0} (n : Names K S) where
  dead-phase : (m : Machine K V S) (now number : ℕ) (h : Handed K S) (outcome : Option Outcome) (row : Row V S) (phase : Phase V) → is_judged_under number phase ≡ false
      → verdict_in n m now number h outcome row phase ≡ quiet m
  dead-phase m now number h outcome row (Waiting due) dead = refl
  dead-phase m now number h outcome row (Asked attempt) dead = refl
  dead-phase m now number h outcome row (Judged j) dead = ap (λ b. cond b (ruled n m now h row j (ruling j.accepted outcome)) (quiet m)) dead

  dead-row : (m : Machine K V S) (now number : ℕ) (h : Handed K S) (outcome : Option Outcome) (o : Option (Row V S)) → row_judged_under number o ≡ false
      → verdict_at n m now number h outcome o ≡ quiet m
  dead-row m now number h outcome None dead = refl
  dead-row m now number h outcome (Some row) dead = dead-phase m now number h outcome row row.phase dead

  verdict-dead : (m : Machine K V S) (now number : ℕ) (outcome : Option Outcome) → is_live n m number ≡ false → verdict n m now number outcome ≡ quiet (closed m number)
  verdict-dead m now number outcome dead = at (lookup (is_at (nat_cmp number)) m.deliveries) refl dead
    where
      at : (o : Option (Handed K S)) → lookup (is_at (nat_cmp number)) m.deliveries ≡ o → is_live_as n m number o ≡ false → verdict_on n m now number outcome o ≡ quiet (closed m number)
      at None none dead = ap (λ ds. quiet (record m { deliveries = ds })) (sym (remove_entry-absent (is_at (nat_cmp number)) m.deliveries none))
      at (Some h) found dead = dead-row (closed m number) now number h outcome (row_of n m h.key) dead

  pub dead_verdicts_pass : DeadVerdictsPass n V
  dead_verdicts_pass m now number outcome running dead =
      ap (λ status. step_in n status m now (Verdict number outcome)) running ∙ ap (step_done m) (verdict-dead m now number outcome dead)
