use Rattle.std.proofs.Common.{◌≡◌, drop}
use Rattle.resolver_fetch_requests.specs.Ids.{next_free, next_id}
use Rattle.resolver_fetch_requests.proofs.requests.Requests.next_id.Given as goal

-- From here, with as many ids left to try, the same id is found.
abbrev pub invariant-loop-tried : goal.invariant-loop-tried
invariant-loop-tried g l = next_free l.fn.self (drop l._tried l.fn.self) l.id ≡ next_id l.fn.self l.fn.last
