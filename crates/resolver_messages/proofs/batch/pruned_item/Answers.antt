use Rattle.std.proofs.Common.{◌≡◌, ◌∙◌, sym, ap, rules, ◌<◌, length, filter, []}
use Rattle.std.proofs.lemmas.Fn.{filter_same}
use Rattle.resolver_messages.specs.Waiting.{item_of}
use Rattle.resolver_messages.proofs.Pruned.{kept-none, kept-some}
use Rattle.resolver_messages.proofs.batch.pruned_item.Goals as goal

pub returns-in_default : goal.returns-in_default
returns-in_default g c =
    let left : c.retain.new.self.items ≡ filter (λ s. g.Q.Predicate.keeps c.args.keep.now c.args.item.key s.0) c.into_vec-left.result.items = filter_same _ _ _ (λ x b f' k. search rules) _ _ c.retain.ensures.filtered in
    let all : c.into_vec-left.result.items ≡ c.args.item.subscribers = search rules in
    let none : c.retain.new.self.items ≡ [] = search rules in
    kept-none (g.Q.Predicate.keeps c.args.keep.now) (item_of c.args.item) (ap (filter (λ s. g.Q.Predicate.keeps c.args.keep.now c.args.item.key s.0)) (sym all) ∙ sym left ∙ none)

pub returns : goal.returns
returns g c =
    let left : c.retain.new.self.items ≡ filter (λ s. g.Q.Predicate.keeps c.args.keep.now c.args.item.key s.0) c.into_vec-left.result.items = filter_same _ _ _ (λ x b f' k. search rules) _ _ c.retain.ensures.filtered in
    let all : c.into_vec-left.result.items ≡ c.args.item.subscribers = search rules in
    let same : c.in-Ok.subscribers ≡ c.retain.new.self.items = search rules in
    let some : 0 < length c.retain.new.self.items = search rules in
    rw same (kept-some (g.Q.Predicate.keeps c.args.keep.now) (item_of c.args.item) c.retain.new.self.items (left ∙ ap (filter (λ s. g.Q.Predicate.keeps c.args.keep.now c.args.item.key s.0)) all) some)
