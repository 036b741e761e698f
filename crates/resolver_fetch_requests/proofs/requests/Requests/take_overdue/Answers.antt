use Rattle.std.proofs.Common.{◌≡◌, Some, Option, ℕ, true, option_map, rules}
use Rattle.std.specs.Prelude.{nat_le}
use Rattle.resolver_fetch_requests.specs.Requests.{soonest}
use Rattle.resolver_fetch_requests.proofs.Soonest.{taken-first}
use Rattle.resolver_fetch_requests.proofs.requests.Requests.take_overdue.Goals as goal

pub returns-then-deadline-now-clause-taken : goal.returns-then-deadline-now-clause-taken
returns-then-deadline-now-clause-taken g c =
    let over : nat_le c.in_ok-id.deadline c.args.now ≡ true = search rules in
    let first : ◌≡◌ {A = Option (ℕ × ℕ)} (Some (c.in_ok-id.id, c.in_ok-id.deadline)) (option_map (λ r. (r.0, r.1.deadline)) (soonest c.args.self.now)) = search rules in
    rw (c.remove.ensures.value, c.remove.ensures.after) (taken-first c.args.self.now c.args.now c.in_ok-id.id c.in_ok-id.deadline first c.first.ensures.found over)
