use Rattle.resolver_fetch_requests.specs.Deadlines.{times_of}
use Rattle.resolver_fetch_requests.proofs.Timed.{listed-put}
use Rattle.resolver_fetch_requests.proofs.requests.deadlines.Deadlines.put.Goals as goal

pub returns-then-precede-clause-ok : goal.returns-then-precede-clause-ok
returns-then-precede-clause-ok g c = c.precede.ensures c.if-precede.true

pub returns-in-Listed-clause-ok : goal.returns-in-Listed-clause-ok
returns-in-Listed-clause-ok g c =
    rw c.in_ok-insert.ensures.keys (listed-put (times_of c.args.requests.now) c.args.id c.args.deadline c.in-Listed.pairs.keys (rw c.in-Listed.is at c.requires.timed) c.requires.new_id)

pub returns-clause-ok : goal.returns-clause-ok
returns-clause-ok g c =
    rw c.in_ok-insert-2.ensures.keys (listed-put (times_of c.args.requests.now) c.args.id c.args.deadline c.in_ok-pairs.pairs.keys c.in_ok-pairs.ensures.pairs c.requires.new_id)
