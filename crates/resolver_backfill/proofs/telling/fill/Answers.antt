use Rattle.std.proofs.Common.{◌≡◌, ◌∙◌, sym, ap, true, false, Err, rules, cond}
use Rattle.resolver_base.specs.declared.fault.Fault.TheVariants.{OutOfMemory}
use Rattle.resolver_backfill.specs.Plans.{Plan, lacking, met, settled, wanting}
use Rattle.resolver_backfill.specs.Telling.{AsksOf, is_taken}
use Rattle.resolver_backfill.proofs.Told.{asks-wanting}
use Rattle.resolver_backfill.proofs.Keys.{lacking-new, taken-back}
use Rattle.resolver_backfill.proofs.telling.fill.Goals as goal
use Rattle.resolver_backfill.proofs.telling.fill.Goals.{then-not-is_taken, else-not-is_taken}

pub returns-in_err-lacking-clause-asks : goal.returns-in_err-lacking-clause-asks
returns-in_err-lacking-clause-asks g c =
    let wanting : c.from_residual.result ≡ Err OutOfMemory = search rules in
    asks-wanting (AsksOf g.R.Resolver.asks g.R.TargetedResolver.asks_of c.args.targets) c.args.plan.now (lacking g.K.Ord.cmp c.args.plan.now.wanted c.args.keys.now) c.args.resolver.now c.from_residual.result c.in_err-lacking.ensures.some wanting

pub add-requires-clause-lacked : goal.add-requires-clause-lacked
add-requires-clause-lacked g c =
    let is : c.deref-2.result.now ≡ lacking g.K.Ord.cmp c.args.plan.now.wanted c.args.keys.now = search rules in
    ap (met g.K.Ord.cmp c.args.plan.now.wanted) is ∙ lacking-new g.K.Ord.cmp g.met.K.Ord.total c.args.plan.now.wanted c.args.keys.now

pub returns-clause-plan : goal.returns-clause-plan
returns-clause-plan g c =
    let cmp = g.K.Ord.cmp in
    let plan = c.args.plan.now in
    let new = lacking cmp plan.wanted c.args.keys.now in
    let added : c.add.new.self ≡ wanting cmp plan c.args.keys.now = search rules in
    elim c.if-not-is_taken.branch [
      | then-not-is_taken w ↦
          let refused : is_taken c.ask-answer.result ≡ false = search rules in
          let back : c.if-not-is_taken.plan ≡ settled cmp c.add.new.self new = search rules in
          back
          ∙ ap (λ (p : Plan g.row.K.Denot g.row.S.Denot). settled cmp p new) added
          ∙ ap (λ ws. record plan { wanted = ws }) (taken-back cmp g.met.K.Ord.total plan.wanted new (lacking-new cmp g.met.K.Ord.total plan.wanted c.args.keys.now))
          ∙ ap (λ b. cond b (wanting cmp plan c.args.keys.now) plan) (sym refused)
      | else-not-is_taken w ↦
          let taken : is_taken c.ask-answer.result ≡ true = search rules in
          w.plan-is ∙ added ∙ ap (λ b. cond b (wanting cmp plan c.args.keys.now) plan) (sym taken)
    ]
