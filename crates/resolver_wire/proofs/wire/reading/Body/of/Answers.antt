use Rattle.std.proofs.Common.{arith, ◌∷◌, ap, ◌∙◌}
use Rattle.std.proofs.lemmas.Grind.{common_steps}
use Rattle.resolver_wire.specs.Reading.{payload_at}
use Rattle.resolver_wire.proofs.Layouts.{response_lies}
use Rattle.resolver_wire.proofs.wire.reading.Body.of.Goals as goal

pub returns-in_ok-front_of-in-1-clause-lies : goal.returns-in_ok-front_of-in-1-clause-lies
returns-in_ok-front_of-in-1-clause-lies g c =
    let tagged = c.in-Some.ensures.cases.0 ∙ ap (λ tag. tag ∷ c.in-Some.rest.now) c.in-1.is in
    let len = c.in_ok-value-in-1.ensures in
    let there = c.in_ok-front_of-in-1.ensures in
    response_lies _ _ _ _ _ _ _ _ tagged len.length len.after there.front there.taken.1 there.after.0

pub returns-in_ok-key-in-0-clause-lies : goal.returns-in_ok-key-in-0-clause-lies
unfolding payload_at
returns-in_ok-key-in-0-clause-lies g c = grind (arith, common_steps)

pub returns-in_default-tag-clause-lies : goal.returns-in_default-tag-clause-lies
unfolding payload_at
returns-in_default-tag-clause-lies g c = grind (arith, common_steps)
