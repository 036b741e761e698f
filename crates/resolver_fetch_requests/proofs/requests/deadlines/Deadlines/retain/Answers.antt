use Rattle.std.proofs.Common.{◌≡◌, is_some, rules}
use Rattle.std.proofs.lemmas.Fn.{filter_same}
use Rattle.resolver_priority_set.specs.Priorities.{retained}
use Rattle.resolver_fetch_requests.specs.Deadlines.{times_of}
use Rattle.resolver_fetch_requests.specs.Requests.{request_of}
use Rattle.resolver_fetch_requests.proofs.Timed.{has-time, listed-part}
use Rattle.resolver_fetch_requests.proofs.requests.deadlines.Deadlines.retain.Goals as goal

pub returns-in-Listed : goal.returns-in-Listed
returns-in-Listed g c = λ times timed part.
    let held = c.args.held.now in
    let ids : c.retain.new.self.keys ≡ retained (λ id. is_some (request_of held id)) c.in-Listed.pairs.keys =
    filter_same _ _ _ (λ x b f' k. search rules) _ _ c.retain.ensures.filtered in
    rw ids (listed-part (λ id. is_some (request_of held id)) (times_of held) times c.in-Listed.pairs.keys (has-time held) part (rw c.in-Listed.is at timed))
