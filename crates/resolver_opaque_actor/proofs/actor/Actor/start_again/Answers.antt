use Rattle.std.proofs.Common.{◌≡◌, ◌∙◌, ◌+◌, Some, ap, find, rules, subst}
use Rattle.std.specs.Ordering.{is_eq}
use Rattle.resolver_model_opaque.proofs.Joined.{keys-rows}
use Rattle.resolver_types.specs.Names.{names}
use Rattle.resolver_model_opaque.proofs.OpaqueGoing.{start_again_goes, agree-staged, at-idle, goes-told}
use Rattle.resolver_opaque_actor.proofs.actor.Actor.start_again.Goals as goal

pub invariant_of-self-2 : goal.invariant_of-self-2
invariant_of-self-2 g c = record {
  delay = c.self.invariant.delay;
  agree = agree-staged (names g.K.Ord.cmp g.S.Ord.cmp) c.self.inside.demand c.self.inside.stages.entries c.self.invariant.agree c.self.inside.stages.next_attempt c.self.inside.delay c.self.inside.status c.args.key _ c.ask_again.new.self.entries (ap (λ s. s.entries) c.in_ok-attempt.ensures.ok);
}

pub returns : goal.returns
returns g c =
    let idle = rw (← c.self.view_is) at c.requires.idle in
    let next_is : c.ask_again.new.self.next_attempt ≡ c.self.inside.stages.next_attempt + 1 = ap (λ s. s.next_attempt) c.in_ok-attempt.ensures.ok in
    rw (← c.self.view_is)
    (at-idle _ _ idle (λ row found waits.
    goes-told _ c.args.effects.now.items c.tell.new.effects.items _ c.tell.result _ c.tell.ensures.told c.tell.ensures.only (λ told.
    start_again_goes (names g.K.Ord.cmp g.S.Ord.cmp) c.self.inside.demand c.self.inside.stages.entries c.self.invariant.agree c.self.inside.stages.next_attempt c.self.inside.delay c.self.inside.status c.args.key row c.args.effects.now.items c.tell.new.effects.items c.ask_again.new.self.entries c.in_ok-attempt.attempt c.ask_again.new.self.next_attempt
    found waits c.in_ok-attempt.ensures.attempt (search rules) next_is (rw c.in_ok-attempt.ensures.attempt (ap (λ s. s.entries) c.in_ok-attempt.ensures.ok)) told)))

pub ask_again-requires-clause-own : goal.ask_again-requires-clause-own
ask_again-requires-clause-own g c =
    let own = rw (← c.self.view_is) at c.requires.own in
    subst (λ ks. find (λ k. is_eq (g.K.Ord.cmp c.args.key k)) ks ≡ Some c.args.key) (keys-rows c.self.inside.demand c.self.inside.stages.entries.keys c.self.invariant.agree.same ∙ c.self.invariant.agree.same) own
