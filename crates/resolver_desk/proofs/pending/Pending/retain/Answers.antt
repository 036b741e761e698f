use Rattle.std.proofs.Common.{◌≡◌, ◌∙◌, ap, rules, List, ◌∷◌, ◌++◌, [], map}
use Rattle.resolver_types.specs.Names.{names}
use Rattle.resolver_messages.specs.Waiting.{Backlog, Item, backlog_of, item_of, kept, keys_kept, keys_of_items}
use Rattle.resolver_messages.proofs.Pruned.{apart-kept, keys-of-items}
use Rattle.resolver_messages.proofs.Right.{flips-by, follows-by, right-retain}
use Rattle.resolver_desk.proofs.pending.Pending.retain.Goals as goal

same_backlog : {K S M Q : Type 0} (r s : List Q) (b d : List (Item K S M)) → r ≡ s → b ≡ d
    → ◌≡◌ {A = Backlog K S M Q} (record { retains = r; batch = b }) (record { retains = s; batch = d })
same_backlog r s b d retains batch = λ i. record { retains = retains i; batch = batch i }

pub invariant_of-self-2 : goal.invariant_of-self-2
invariant_of-self-2 g c =
    let n = names g.K.Ord.cmp g.S.Ord.cmp in
    let keep = g.Q.Predicate.keeps c.args.keep in
    let apart = apart-kept n keep (map item_of c.self.inside.batch.items) c.self.invariant.apart in
    let pruned : map item_of c.prune_all.result.items ≡ kept keep (map item_of c.self.inside.batch.items) = search rules in
    let keys : keys_of_items c.prune_all.result.items ≡ keys_kept keep c.self.inside.batch.items = keys-of-items c.prune_all.result.items ∙ ap (λ items. map (λ item. item.key) items) pruned in
    record {
      placed = rw keys (search rules);
      apart = rw pruned apart;
    }

pub returns-clause-right : goal.returns-clause-right
returns-clause-right g c =
    let n = names g.K.Ord.cmp g.S.Ord.cmp in
    let right = right-retain n g.M.Metadata.merged
    (flips-by g.K.Ord.cmp g.met.K.Ord.total) (follows-by g.K.Ord.cmp g.met.K.Ord.total) (follows-by g.S.Ord.cmp g.met.S.Ord.total)
    g.Q.Predicate.keeps
    (λ test k l s t same same_too. g.met.Q.Predicate.alike test k l s t (g.met.K.Ord.matches_eq k l ∙ same) (g.met.S.Ord.matches_eq s t ∙ same_too))
    (backlog_of c.self.inside.retains.items c.self.inside.batch.items) c.args.keep in
    let pruned : map item_of c.prune_all.result.items ≡ kept (g.Q.Predicate.keeps c.args.keep) (map item_of c.self.inside.batch.items) = search rules in
    let retains : c.push_back_reserved.new.self.items ≡ c.self.inside.retains.items ++ c.args.keep ∷ [] = search rules in
    λ d k s. rw (← c.self.view_is, retains, pruned) (right d k s)

pub returns-clause-ok : goal.returns-clause-ok
returns-clause-ok g c =
    let retains : c.push_back_reserved.new.self.items ≡ c.self.inside.retains.items ++ c.args.keep ∷ [] = c.push_back_reserved.ensures.items ∙ ap (λ items. items ++ c.args.keep ∷ []) c.reserve.ensures.items in
    let pruned : map item_of c.prune_all.result.items ≡ kept (g.Q.Predicate.keeps c.args.keep) (map item_of c.self.inside.batch.items) =
    c.prune_all.ensures ∙ ap (λ batch. kept (g.Q.Predicate.keeps c.args.keep) (map item_of batch.items)) c.replace-batch.ensures.value in
    rw (← c.self.view_is) (same_backlog _ _ _ _ retains pruned)
