use Rattle.resolver_fetch_requests.proofs.Timed.{listed-without}
use Rattle.resolver_fetch_requests.proofs.requests.deadlines.Deadlines.remove.Goals as goal

pub returns-in-Listed : goal.returns-in-Listed
returns-in-Listed c = λ times timed there.
    rw c.remove.ensures.keys (listed-without times c.args.id c.args.deadline c.in-Listed.pairs.keys (rw c.in-Listed.is at timed) there)
