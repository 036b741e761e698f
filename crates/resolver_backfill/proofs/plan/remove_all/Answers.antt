use Rattle.std.proofs.Common.{◌∙◌, sym, ap, take, ◌++◌, ◌∷◌, []}
use Rattle.std.proofs.lemmas.List.{take_more}
use Rattle.std.specs.BTreeMap.{is_at}
use Rattle.std.specs.Set.{remove_key}
use Rattle.resolver_backfill.specs.Plans.{unmet}
use Rattle.resolver_backfill.proofs.Keys.{unmet-next, unmet-start}
use Rattle.resolver_backfill.proofs.plan.remove_all.Goals as goal

pub loop-key-init : goal.loop-key-init
loop-key-init g c = record { left = sym (unmet-start g.K.Ord.cmp g.met.K.Ord.total c.args.set.now.keys); ordered = c.requires.ordered }

pub loop-key-preserved : goal.loop-key-preserved
loop-key-preserved g c =
    let cmp = g.K.Ord.cmp in
    let key = c.key-item.result in
    let first = take c.loop-key.key-index c.args.keys.now in
    let more = take_more c.args.keys.now c.loop-key.key-index key c.loop-key-test.true ∙ ap (λ k. first ++ k ∷ []) (sym c.key-item.is) in
    record {
      left =
          c.remove.ensures.keys
          ∙ ap (remove_key (is_at (cmp key))) c.loop-key.invariant.left
          ∙ unmet-next cmp g.met.K.Ord.total first key c.args.set.now.keys c.requires.ordered
          ∙ ap (unmet cmp c.args.set.now.keys) (sym more);
      ordered = c.remove.ensures.ordered;
    }
