use Rattle.std.proofs.Common.{◌≡◌, ap, sym, ◌∙◌, Bool, if◌then◌else◌, is_some, option_map, rules}
use Rattle.std.specs.NonZero.{non_zero_u32_get}
use Rattle.resolver_fetch_requests.specs.Requests.{IsTaken}
use Rattle.resolver_fetch_scan.specs.Fetcher.{Fetcher, pop_request}
use Rattle.resolver_fetch_scan.specs.Known.{Known, known_by}
use Rattle.resolver_fetch_scan.specs.Orders.{orders}
use Rattle.resolver_fetch_scan.specs.Waiting.{waiter_freed}
use Rattle.resolver_fetch_waiting.specs.Pending.{Pending, awake}
use Rattle.resolver_fetch.proofs.Kept.{closed-any, freed-pending, kept-taken, load-taken, request-popped}
use Rattle.resolver_fetch.proofs.Phases.{idle-then}
use Rattle.resolver_fetch.proofs.fetcher.Fetcher.pop_request.Goals as goal
use Rattle.resolver_fetch.proofs.fetcher.Fetcher.pop_request.Goals.{else-is_limited, then-is_limited}

pub invariant_of-self-then-is_limited : goal.invariant_of-self-then-is_limited
invariant_of-self-then-is_limited g c =
    let a = c.self.inside in
    let out : IsTaken a.requests c.take_matching.new.self c.in_ok-request.request = search rules in
    let counted = ap (λ (k : Known g.row.P.Denot). k.load) c.freed.ensures
    ∙ load-taken g.P.Ord.cmp (option_map non_zero_u32_get a.peer_limit) (known_by g.P.Ord.cmp a.peers).load a.requests c.take_matching.new.self c.in_ok-request.request c.self.invariant.1 out in
    let shut = ap is_some (ap (λ (f : Fetcher g.row.K.Denot g.row.P.Denot). f.scan) c.self.view_is) ∙ c.requires.closed in
    rw c.wake.ensures
    (kept-taken g.met.K.Ord.total a.fetch_timeout a.retry_delay a.last_id a.pending.keys a.requests c.self.invariant.0 c.in_ok-request.request c.take_matching.new.self out, counted, closed-any a.cursor shut _)

pub invariant_of-self-else-is_limited : goal.invariant_of-self-else-is_limited
invariant_of-self-else-is_limited g c =
    let a = c.self.inside in
    let out : IsTaken a.requests c.take_matching.new.self c.in_ok-request.request = search rules in
    let counted = ap (λ (k : Known g.row.P.Denot). k.load) c.freed.ensures
    ∙ load-taken g.P.Ord.cmp (option_map non_zero_u32_get a.peer_limit) (known_by g.P.Ord.cmp a.peers).load a.requests c.take_matching.new.self c.in_ok-request.request c.self.invariant.1 out in
    let shut = ap is_some (ap (λ (f : Fetcher g.row.K.Denot g.row.P.Denot). f.scan) c.self.view_is) ∙ c.requires.closed in
    (kept-taken g.met.K.Ord.total a.fetch_timeout a.retry_delay a.last_id a.pending.keys a.requests c.self.invariant.0 c.in_ok-request.request c.take_matching.new.self out, counted, closed-any a.cursor shut _)

pub returns-clause-idle : goal.returns-clause-idle
returns-clause-idle g c =
    let a = c.self.inside in
    let out : IsTaken a.requests c.take_matching.new.self c.in_ok-request.request = search rules in
    let idle = idle-then g.met.K.Ord.total out.0 c.in_ok-request.request a.pending.keys a.requests c.self.invariant.0.once out.1 in
    elim c.if-is_limited.branch [
      | then-is_limited w ↦ rw (w.self-is, w.wake.ensures) (record { not_waiting = idle.0; not_asked = rw out.2 idle.1 })
      | else-is_limited w ↦ rw w.self-is (record { not_waiting = idle.0; not_asked = rw out.2 idle.1 })
    ]

pub returns-clause-popped : goal.returns-clause-popped
returns-clause-popped g c =
    let a = c.self.inside in
    let out : IsTaken a.requests c.take_matching.new.self c.in_ok-request.request = search rules in
    let counted = ap (λ (k : Known g.row.P.Denot). k.load) c.freed.ensures
    ∙ load-taken g.P.Ord.cmp (option_map non_zero_u32_get a.peer_limit) (known_by g.P.Ord.cmp a.peers).load a.requests c.take_matching.new.self c.in_ok-request.request c.self.invariant.1 out in
    let woken = λ (b : Bool). (if b then awake a.pending else a.pending).waiter in
    let waiter : waiter_freed a.peer_limit a.pending.waiter ≡ woken c.is_limited.result =
    sym (ap woken c.is_limited.ensures
    ∙ ap (λ (p : Pending g.row.K.Denot). p.waiter) (freed-pending g.P.Ord.cmp non_zero_u32_get c.freed.new.self.counts a.peer_limit c.take_matching.new.self a.pending counted)) in
    let set = ap (λ (k : Known g.row.P.Denot). k.set) c.freed.ensures in
    let blocked = ap (λ (k : Known g.row.P.Denot). k.blocked) c.freed.ensures in
    let local = ap (λ (k : Known g.row.P.Denot). k.local) c.freed.ensures in
    let o = orders g.K.Ord.cmp g.P.Ord.cmp in
    let is = rw (← c.self.view_is) at (request-popped o c.args.self.now c.in_ok-request.request c.take_matching.new.self c.args.id c.args.peer.now) in
    let popped = sym (is c.in_ok-request.ensures.taken) ∙ ap (pop_request o c.args.id c.args.peer.now) c.self.view_is in
    elim c.if-is_limited.branch [
      | then-is_limited w ↦ rw (w.self-is, w.wake.ensures, set, blocked, local) (rw (waiter ∙ ap woken w.if-is_limited.true) at popped)
      | else-is_limited w ↦ rw (w.self-is, set, blocked, local) (rw (waiter ∙ ap woken w.if-is_limited.false) at popped)
    ]
