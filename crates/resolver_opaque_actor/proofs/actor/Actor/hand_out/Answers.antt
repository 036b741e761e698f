use Rattle.std.proofs.Common.{◌≡◌, ◌∙◌, ℕ, List, ◌∷◌, ◌++◌, [], Option, None, Some, ap, sym, refl, arith}
use Rattle.std.specs.Prelude.{IfSome}
use Rattle.resolver_types.specs.declared.delivery.Delivery.{Delivery}
use Rattle.resolver_model_opaque.specs.declared.effects.Effect.{Effect}
use Rattle.resolver_model_opaque.specs.declared.effects.Effect.TheVariants.{Deliver}
use Rattle.resolver_types.specs.Names.{names}
use Rattle.resolver_model_opaque.proofs.OpaqueGoing.{hand_out_goes, agree-delivered, asked-idle, asked-stage, at-idle, idle-asked, idle-tracked, idle-free_number, asked-none, goes-told}
use Rattle.resolver_opaque_actor.proofs.actor.Actor.hand_out.Goals as goal

pub unreachable-requires : goal.unreachable-requires
unreachable-requires g c =
    let idle = asked-idle _ (rw (← c.self.view_is) at c.requires.asked) in
    let asked = idle-asked (names g.K.Ord.cmp g.S.Ord.cmp) c.self.inside.demand c.self.inside.stages.entries.keys c.self.invariant.agree c.args.key idle in
    asked-none _ asked (sym c.in_default.is ∙ c.in_ok-subscribers.ensures.ok)

pub deliver-requires-clause-tracked : goal.deliver-requires-clause-tracked
deliver-requires-clause-tracked g c =
    let idle = asked-idle _ (rw (← c.self.view_is) at c.requires.asked) in
    let tracked = idle-tracked (names g.K.Ord.cmp g.S.Ord.cmp) c.self.inside.demand c.self.inside.stages.entries.keys c.self.invariant.agree c.args.key idle in
    rw tracked refl

pub deliver-requires-clause-asked : goal.deliver-requires-clause-asked
deliver-requires-clause-asked g c = asked-stage (names g.K.Ord.cmp g.S.Ord.cmp) c.self.inside.demand c.self.inside.stages.entries.keys c.self.invariant.agree c.args.key (rw (← c.self.view_is) at c.requires.asked)

pub deliver-requires-clause-idle : goal.deliver-requires-clause-idle
deliver-requires-clause-idle g c =
    let idle = asked-idle _ (rw (← c.self.view_is) at c.requires.asked) in
    idle-free_number (names g.K.Ord.cmp g.S.Ord.cmp) c.self.inside.demand c.self.inside.stages.entries.keys c.self.invariant.agree c.args.key idle

pub invariant_of-self-2 : goal.invariant_of-self-2
invariant_of-self-2 g c = record {
  delay = c.self.invariant.delay;
  agree = agree-delivered (names g.K.Ord.cmp g.S.Ord.cmp) c.self.inside.demand c.self.inside.stages.entries c.self.invariant.agree c.self.inside.stages.next_attempt c.self.inside.delay c.self.inside.status c.args.key c.in-Some.subscribers _ c.deliver.new.self.entries (ap (λ s. s.entries) c.in_ok-number.ensures.ok);
}

told-is : {K V S : Type 0} (before after : List (Effect K V S)) (number : ℕ) (told delivery : Delivery K S) (value : V)
    → after ≡ before ++ Deliver number number told value ∷ [] → told ≡ delivery → after ≡ before ++ Deliver number number delivery value ∷ []
told-is before after number told delivery value put same = put ∙ ap (λ one. before ++ Deliver number number one value ∷ []) same

pub returns : goal.returns
returns g c =
    let idle = asked-idle _ (rw (← c.self.view_is) at c.requires.asked) in
    let put = rw (ap (λ copies. copies.1) c.in_ok-told.ensures) at (ap (λ s. s.entries) c.in_ok-number.ensures.ok) in
    let wanted = sym c.in_ok-subscribers.ensures.ok ∙ c.in-Some.is in
    rw (← c.self.view_is, ap (λ s. s.next_attempt) c.in_ok-number.ensures.ok)
    (at-idle _ _ idle (λ row found waits.
    goes-told _ c.args.effects.now.items c.tell.new.effects.items _ c.tell.result _ c.tell.ensures.told c.tell.ensures.only (λ told.
    hand_out_goes (names g.K.Ord.cmp g.S.Ord.cmp) c.self.inside.demand c.self.inside.stages.entries c.self.invariant.agree c.self.inside.stages.next_attempt c.self.inside.delay c.self.inside.status c.args.key row c.in-Some.subscribers c.args.value c.args.effects.now.items c.tell.new.effects.items c.deliver.new.self.entries c.in_ok-number.number
    found wanted c.in_ok-number.ensures.number (omega arith) put
    (told-is _ _ _ _ _ _ told (ap (λ copies. copies.0) c.in_ok-told.ensures)))))

-- what holds of whatever is there
of-any : {R : Type 0} (found : Option R) (P : R → Type 0) → ((row : R) → P row) → IfSome found P
of-any None P holds = tt
of-any (Some row) P holds = holds row

pub copies-requires : goal.copies-requires
copies-requires g c = record { keys_clone = c.requires.keys_clone; values_clone = c.requires.values_clone; subscribers_clone = c.requires.subscribers_clone }

pub invariant_of-self : goal.invariant_of-self
invariant_of-self g c = rw c.in_err-number.ensures.err c.self.invariant
