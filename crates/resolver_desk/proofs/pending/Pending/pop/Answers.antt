use Rattle.std.proofs.Common.{◌≡◌, ◌∙◌, ◌<◌, refl, sym, ap, take, map, length, List, [], ◌∷◌, rules, arith}
use Rattle.resolver_types.specs.Names.{names}
use Rattle.resolver_messages.specs.Waiting.{Backlog, Fetches, backlog_of, behind_first, item_of, waiting}
use Rattle.resolver_messages.specs.declared.message.FetchKey.{FetchKey}
use Rattle.resolver_desk.proofs.Drained.{filed-none}
use Rattle.resolver_desk.proofs.pending.Pending.pop.Goals as goal

pub invariant_of-self-2 : goal.invariant_of-self-2
invariant_of-self-2 g c = filed-none (names g.K.Ord.cmp g.S.Ord.cmp) _ _ (search rules) (ap (λ batch. batch.items) c.replace-batch.ensures.after ∙ c.new.ensures.items)

pub returns-in-Some : goal.returns-in-Some
returns-in-Some g c = record {
  first = ap (λ retains. take 1 (waiting (backlog_of retains c.self.inside.batch.items))) (sym c.in-Some.ensures.items) ∙ ap (λ backlog. take 1 (waiting backlog)) c.self.view_is;
  rest = ap (λ retains. behind_first (backlog_of retains c.self.inside.batch.items)) (sym c.in-Some.ensures.items) ∙ ap behind_first c.self.view_is;
}

module _ {K S M Q : Type 0} where
  -- nothing waits
  popped-none : (retains left : List Q) (batch : List (FetchKey K S M)) (backlog : Backlog K S M Q) → backlog_of retains batch ≡ backlog
      → retains ≡ [] → left ≡ [] → length batch ≡ 0 → ([] ≡ take 1 (waiting backlog)) × (backlog_of left batch ≡ behind_first backlog)
  popped-none retains left [] backlog is none same empty = rw (← is, none, same) (refl, refl)
  popped-none retains left (fetch ∷ batch) backlog is none same empty = absurd (omega (arith, empty))

  -- only fetches wait
  popped-batch : (retains left : List Q) (batch taken rest : List (FetchKey K S M)) (backlog : Backlog K S M Q) → backlog_of retains batch ≡ backlog
      → retains ≡ [] → left ≡ [] → 0 < length batch → taken ≡ batch → rest ≡ []
      → (Fetches (map item_of taken) ∷ [] ≡ take 1 (waiting backlog)) × (backlog_of left rest ≡ behind_first backlog)
  popped-batch retains left [] taken rest backlog is none same some own gone = absurd (omega (arith, some))
  popped-batch retains left (fetch ∷ batch) taken rest backlog is none same some own gone = rw (← is, none, same, own, gone) (refl, refl)

pub returns-then-is_empty : goal.returns-then-is_empty
returns-then-is_empty g c =
    let none : c.self.inside.retains.items ≡ [] = search rules in
    let left : c.pop_front.new.self.items ≡ [] = search rules in
    let empty : length c.self.inside.batch.items ≡ 0 = search (rules, arith) in
    let all = popped-none c.self.inside.retains.items c.pop_front.new.self.items c.self.inside.batch.items c.args.self.now c.self.view_is none left empty in
    record { first = all.0; rest = all.1 }

pub returns : goal.returns
returns g c =
    let none : c.self.inside.retains.items ≡ [] = search rules in
    let left : c.pop_front.new.self.items ≡ [] = search rules in
    let some : 0 < length c.self.inside.batch.items = search (rules, arith) in
    let all = popped-batch c.self.inside.retains.items c.pop_front.new.self.items c.self.inside.batch.items c.replace-batch.result.items c.replace-batch.new.dest.items c.args.self.now
    c.self.view_is none left some (ap (λ batch. batch.items) c.replace-batch.ensures.value) (ap (λ batch. batch.items) c.replace-batch.ensures.after ∙ c.new.ensures.items) in
    record { first = all.0; rest = all.1 }
