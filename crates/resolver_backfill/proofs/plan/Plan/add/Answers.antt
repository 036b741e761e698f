use Rattle.std.proofs.Common.{◌≡◌, ◌∙◌, sym, ap, rules, take, ◌++◌, ◌∷◌, []}
use Rattle.std.proofs.lemmas.List.{take_more}
use Rattle.std.specs.BTreeSet.{insert_key}
use Rattle.resolver_backfill.specs.Plans.{Plan, settled, with_keys}
use Rattle.resolver_backfill.proofs.Keys.{met-fewer, taken-back, with-last}
use Rattle.resolver_backfill.proofs.plan.Plan.add.Goals as goal

pub returns-in-Err-clause-err : goal.returns-in-Err-clause-err
returns-in-Err-clause-err g c =
    let back = taken-back g.K.Ord.cmp g.met.K.Ord.total c.args.self.now.wanted (take c.loop-i.i c.args.keys.now)
    (met-fewer g.K.Ord.cmp g.met.K.Ord.total c.loop-i.i c.args.self.now.wanted c.args.keys.now c.requires.lacked) in
    c.forget.ensures
    ∙ ap (λ plan. settled g.K.Ord.cmp plan (take c.loop-i.i c.args.keys.now)) (c.in-Err.ensures.err ∙ c.loop-i.invariant)
    ∙ ap (λ ws. record c.args.self.now { wanted = ws }) back

pub loop-i-preserved : goal.loop-i-preserved
loop-i-preserved g c =
    let cmp = g.K.Ord.cmp in
    let key = c.index-keys-i.result in
    let first = take c.loop-i.i c.args.keys.now in
    let more = take_more c.args.keys.now c.loop-i.i key c.loop-i-test.true ∙ ap (λ k. first ++ k ∷ []) (sym c.index-keys-i.is) in
    let put : c.put.new.self ≡ record c.loop-i.self { wanted = insert_key cmp c.loop-i.self.wanted key } = search rules in
    put
    ∙ ap (λ (plan : Plan g.row.K.Denot g.row.S.Denot). record plan { wanted = insert_key cmp plan.wanted key }) c.loop-i.invariant
    ∙ ap (λ ws. record c.args.self.now { wanted = ws }) (sym (ap (with_keys cmp c.args.self.now.wanted) more ∙ with-last cmp g.met.K.Ord.total c.args.self.now.wanted first key))
