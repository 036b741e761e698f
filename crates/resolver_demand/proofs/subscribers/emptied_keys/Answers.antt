use Rattle.std.proofs.Common.{◌≡◌, ◌∙◌, sym, ap, true, false, ◌∷◌, ◌++◌, [], rules, append_assoc}
use Rattle.std.specs.List.{list_any}
use Rattle.std.specs.List.Sorted.{IsStrictlySortedBy}
use Rattle.std.specs.Map.{keys_of}
use Rattle.resolver_types.specs.Table.{emptied}
use Rattle.resolver_demand.proofs.Emptied.{emptied-gone, emptied-kept, emptied-ordered}
use Rattle.resolver_demand.proofs.subscribers.emptied_keys.Goals as goal

pub loop-key-preserved-in_ok-push : goal.loop-key-preserved-in_ok-push
loop-key-preserved-in_ok-push g c =
    let gone : list_any (λ s. g.Q.Predicate.keeps c.args.keep.now c.in-Some.key.now s.0) c.in-Some.subscribers.now ≡ false = search rules in
    let pushed : c.push.new.self.items ≡ c.loop-key.emptied.items ++ c.in-Some.key.now ∷ [] = search rules in
    rw (pushed, append_assoc)
    (ap (λ keys. c.loop-key.emptied.items ++ keys) (sym (emptied-gone (g.Q.Predicate.keeps c.args.keep.now) c.in-Some.key.now c.in-Some.subscribers.now c.next.new.self gone))
    ∙ sym (ap (λ es. c.loop-key.emptied.items ++ emptied (g.Q.Predicate.keeps c.args.keep.now) es) c.in-Some.ensures.steps)
    ∙ c.loop-key.invariant)

pub loop-key-preserved : goal.loop-key-preserved
loop-key-preserved g c =
    let stays : list_any (λ s. g.Q.Predicate.keeps c.args.keep.now c.in-Some.key.now s.0) c.in-Some.subscribers.now ≡ true = search rules in
    ap (λ keys. c.loop-key.emptied.items ++ keys) (sym (emptied-kept (g.Q.Predicate.keeps c.args.keep.now) c.in-Some.key.now c.in-Some.subscribers.now c.next.new.self stays))
    ∙ sym (ap (λ es. c.loop-key.emptied.items ++ emptied (g.Q.Predicate.keeps c.args.keep.now) es) c.in-Some.ensures.steps)
    ∙ c.loop-key.invariant

pub returns-clause-ordered : goal.returns-clause-ordered
returns-clause-ordered g c =
    let all : c.loop-key.emptied.items ≡ emptied (g.Q.Predicate.keeps c.args.keep.now) c.args.demand.now.entries = search rules in
    let ordered : IsStrictlySortedBy g.K.Ord.cmp (keys_of c.args.demand.now.entries) = search rules in
    rw all (emptied-ordered (g.Q.Predicate.keeps c.args.keep.now) g.K.Ord.cmp c.args.demand.now.entries ordered)
