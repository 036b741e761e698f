use Rattle.std.proofs.Common.{ap, sym, ◌∙◌, is_some, option_map, rules}
use Rattle.resolver_fetch_requests.specs.Requests.{IsTaken}
use Rattle.std.specs.NonZero.{non_zero_u32_get}
use Rattle.resolver_fetch_scan.specs.Known.{Company, Known, known_by}
use Rattle.resolver_fetch_scan.specs.Orders.{orders}
use Rattle.resolver_fetch_scan.specs.Fetcher.{Fetcher, pop_missing}
use Rattle.resolver_fetch.proofs.Kept.{closed-any, kept-taken, load-taken, missing-none, missing-popped}
use Rattle.resolver_fetch.proofs.Phases.{idle-then}
use Rattle.resolver_fetch.proofs.fetcher.Fetcher.pop_missing.Goals as goal

pub invariant_of-self-2 : goal.invariant_of-self-2
invariant_of-self-2 g c =
    let a = c.self.inside in
    let shut = ap is_some (ap (λ (f : Fetcher g.row.K.Denot g.row.P.Denot). f.scan) c.self.view_is) ∙ c.requires.closed in
    let out : IsTaken a.requests c.take_matching.new.self c.in_ok-missed.missed = search rules in
    let loaded = ap (λ (k : Company g.row.P.Denot). (known_by g.P.Ord.cmp k).load) c.record.ensures
    ∙ ap (λ (k : Known g.row.P.Denot). k.load) c.freed.ensures
    ∙ load-taken g.P.Ord.cmp (option_map non_zero_u32_get a.peer_limit) (known_by g.P.Ord.cmp a.peers).load a.requests c.take_matching.new.self c.in_ok-missed.missed c.self.invariant.1 out in
    (kept-taken g.met.K.Ord.total a.fetch_timeout a.retry_delay a.last_id a.pending.keys a.requests c.self.invariant.0 c.in_ok-missed.missed c.take_matching.new.self out, loaded, closed-any a.cursor shut _)

pub returns-clause-idle : goal.returns-clause-idle
returns-clause-idle g c =
    let a = c.self.inside in
    let out : IsTaken a.requests c.take_matching.new.self c.in_ok-missed.missed = search rules in
    let idle = idle-then g.met.K.Ord.total out.0 c.in_ok-missed.missed a.pending.keys a.requests c.self.invariant.0.once out.1 in
    record { not_waiting = idle.0; not_asked = rw out.2 idle.1 }

pub returns-clause-popped : goal.returns-clause-popped
returns-clause-popped g c =
    let o = orders g.K.Ord.cmp g.P.Ord.cmp in
    let is = rw (← c.self.view_is) at (missing-popped o c.args.self.now c.in_ok-missed.missed c.take_matching.new.self c.args.id c.args.peer.now c.args.now) in
    let set = ap (λ (k : Known g.row.P.Denot). k.set) c.freed.ensures in
    let blocked = ap (λ (k : Known g.row.P.Denot). k.blocked) c.freed.ensures in
    let local = ap (λ (k : Known g.row.P.Denot). k.local) c.freed.ensures in
    rw (c.record.ensures, set, blocked, local, c.charged-time.ensures, c.elapsed_since.ensures) (sym (is c.in_ok-missed.ensures.taken) ∙ ap (pop_missing o c.args.id c.args.peer.now c.args.now) c.self.view_is)

pub invariant_of-self : goal.invariant_of-self
invariant_of-self g c =
    let is = rw (← c.self.view_is) at (missing-none (orders g.K.Ord.cmp g.P.Ord.cmp) c.args.self.now c.take_matching.new.self c.args.id c.args.peer.now c.args.now) in
    rw (is c.in_err-missed.ensures.taken).0 c.self.invariant

pub returns-in_err-missed-clause-popped : goal.returns-in_err-missed-clause-popped
returns-in_err-missed-clause-popped g c =
    let o = orders g.K.Ord.cmp g.P.Ord.cmp in
    let is = rw (← c.self.view_is) at (missing-none o c.args.self.now c.take_matching.new.self c.args.id c.args.peer.now c.args.now) in
    let none = is c.in_err-missed.ensures.taken in
    rw (c.from_residual.ensures, none.0) (sym none.1 ∙ ap (pop_missing o c.args.id c.args.peer.now c.args.now) c.self.view_is)
