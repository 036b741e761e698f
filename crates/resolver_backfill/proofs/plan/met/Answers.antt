use Rattle.std.proofs.Common.{◌≡◌, ◌∙◌, sym, ap, rules, take, ◌++◌, ◌∷◌, []}
use Rattle.std.proofs.lemmas.List.{take_more}
use Rattle.resolver_backfill.proofs.Told.{on-err}
use Rattle.std.specs.BTreeSet.{BTreeSet, insert_key}
use Rattle.resolver_backfill.specs.Plans.{met}
use Rattle.resolver_backfill.proofs.Keys.{met-next, met-past, met-some, met-start}
use Rattle.resolver_backfill.proofs.plan.met.Goals as goal
use Rattle.resolver_backfill.proofs.plan.met.Goals.{in-Some+in_ok-clone+in_ok-insert, in_default}

pub loop-key-init : goal.loop-key-init
loop-key-init g c = c.new-found.ensures.empty ∙ sym (met-start g.K.Ord.cmp g.met.K.Ord.total c.args.set.now.keys)

pub loop-key-preserved : goal.loop-key-preserved
loop-key-preserved g c =
    let cmp = g.K.Ord.cmp in
    let key = c.key-item.result in
    let first = take c.loop-key.key-index c.args.keys.now in
    let more = take_more c.args.keys.now c.loop-key.key-index key c.loop-key-test.true ∙ ap (λ k. first ++ k ∷ []) (sym c.key-item.is) in
    elim c.match-get.branch [
      | in-Some+in_ok-clone+in_ok-insert w ↦
          let own = w.in-Some.own.now in
          let same : w.in_ok-clone.field-0 ≡ own = search rules in
          ap (λ (set : BTreeSet g.row.K.Denot). set.keys) w.found-is
          ∙ w.in_ok-insert.ensures.keys
          ∙ ap (insert_key cmp c.loop-key.found.keys) same
          ∙ ap (λ keys. insert_key cmp keys own) c.loop-key.invariant
          ∙ met-next cmp g.met.K.Ord.total first key own c.args.set.now.keys c.requires.ordered (sym w.in-Some.ensures.key)
          ∙ ap (met cmp c.args.set.now.keys) (sym more)
      | in_default w ↦
          ap (λ (set : BTreeSet g.row.K.Denot). set.keys) w.found-is
          ∙ c.loop-key.invariant
          ∙ met-past cmp g.met.K.Ord.total first key c.args.set.now.keys (sym w.in_default.ensures.key)
          ∙ ap (met cmp c.args.set.now.keys) (sym more)
    ]

pub returns-in_err-clone-clause-some : goal.returns-in_err-clone-clause-some
returns-in_err-clone-clause-some g c =
    on-err c.from_residual.result _ (met-some g.K.Ord.cmp g.met.K.Ord.total c.args.set.now.keys c.args.keys.now c.loop-key.key-index c.key-item.result c.in-Some.own.now c.loop-key-test.true c.key-item.is (sym c.in-Some.ensures.key))

pub returns-in_err-insert-clause-some : goal.returns-in_err-insert-clause-some
returns-in_err-insert-clause-some g c =
    on-err c.from_residual-in_err-insert.result _ (met-some g.K.Ord.cmp g.met.K.Ord.total c.args.set.now.keys c.args.keys.now c.loop-key.key-index c.key-item.result c.in-Some.own.now c.loop-key-test.true c.key-item.is (sym c.in-Some.ensures.key))
