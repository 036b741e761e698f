use Rattle.std.proofs.Common.{ap, sym, ◌∙◌, ◌+◌, Option, is_some, option_map}
use Rattle.std.specs.NonZero.{non_zero_u32_get}
use Rattle.resolver_fetch_requests.specs.Loads.{Load, one_more}
use Rattle.resolver_fetch_requests.proofs.Loaded.{load-put}
use Rattle.resolver_fetch_scan.specs.Known.{Company, Known, known_by}
use Rattle.resolver_fetch_scan.specs.Pools.{resampled}
use Rattle.resolver_fetch_requests.specs.declared.requests.request.Request.{Request}
use Rattle.resolver_fetch_scan.specs.Fetcher.{Fetcher}
use Rattle.resolver_fetch_scan.specs.Orders.{orders}
use Rattle.resolver_fetch_scan.specs.Trying.{Trying, sampled}
use Rattle.resolver_fetch_scan.specs.declared.step.Step.TheVariants.{Accept}
use Rattle.resolver_fetch.specs.Cursor.{opened, scan_of}
use Rattle.resolver_fetch.specs.Stepping.{after_step}
use Rattle.resolver_fetch.proofs.Kept.{closed-any, closed-none, kept-sent, loaded-by}
use Rattle.resolver_fetch.proofs.Phases.{tried-apart, tried-kind}
use Rattle.resolver_fetch.proofs.Recounting.{sampled-sent}
use Rattle.resolver_fetch.proofs.Weighing.{all-tried}
use Rattle.resolver_fetch.proofs.fetcher.Fetcher.accept.Goals as goal

pub send-requires-clause-new_key : goal.send-requires-clause-new_key
send-requires-clause-new_key g c =
    rw (← c.self.view_is) at (tried-apart (orders g.K.Ord.cmp g.P.Ord.cmp) g.met.K.Ord.total c.args.self.now c.args.cursor.moment c.args.cursor.trail c.args.cursor.trying c.requires.right.tries (rw (← c.self.view_is) c.self.invariant.0.once))

pub send-requires-clause-loaded : goal.send-requires-clause-loaded
send-requires-clause-loaded g c =
    let a = c.self.inside in
    loaded-by g.P.Ord.cmp (option_map non_zero_u32_get a.peer_limit) a.requests (known_by g.P.Ord.cmp a.peers).load c.self.invariant.1

pub remove-requires : goal.remove-requires
remove-requires g c =
    let kind = rw (← c.self.view_is) at (tried-kind (orders g.K.Ord.cmp g.P.Ord.cmp) g.met.K.Ord.total c.args.self.now c.args.cursor.moment c.args.cursor.trail c.args.cursor.trying c.requires.right.tries (rw (← c.self.view_is) c.self.invariant.0.once)) in
    let is = c.trying.view_is ∙ c.into_trying-trying.ensures in
    let key = ap (λ (t : Trying g.row.K.Denot g.row.P.Denot). t.key) is in
    let is_retry = ap (λ (t : Trying g.row.K.Denot g.row.P.Denot). t.place.is_retry) is in
    rw (key, is_retry) (record { waits = kind })

pub invariant_of-self : goal.invariant_of-self
invariant_of-self g c =
    let a = c.self.inside in
    let shut = ap is_some (ap (λ (f : Fetcher g.row.K.Denot g.row.P.Denot). f.scan) c.self.view_is) ∙ c.requires.closed in
    let idle = rw (← c.self.view_is) at (tried-apart (orders g.K.Ord.cmp g.P.Ord.cmp) g.met.K.Ord.total c.args.self.now c.args.cursor.moment c.args.cursor.trail c.args.cursor.trying c.requires.right.tries (rw (← c.self.view_is) c.self.invariant.0.once)) in
    let new = rw (← c.self.view_is) at c.requires.new_id in
    let taken = rw (← c.self.view_is) at c.requires.taken in
    let key = ap (λ (t : Trying g.row.K.Denot g.row.P.Denot). t.key) (c.trying.view_is ∙ c.into_trying-trying.ensures) in
    let request : Request g.row.K.Denot g.row.P.Denot =
    record { key = c.args.cursor.trying.key; peer = c.args.peer; start = c.args.cursor.moment; deadline = c.args.cursor.moment + a.fetch_timeout } in
    let loaded = ap (λ (k : Company g.row.P.Denot). (known_by g.P.Ord.cmp k).load) c.keep_pool.ensures
    ∙ ap (λ (k : Known g.row.P.Denot). k.load) c.in-Ok.ensures.counted
    ∙ ap (option_map (one_more g.P.Ord.cmp c.args.peer)) c.self.invariant.1
    ∙ sym (load-put g.P.Ord.cmp (option_map non_zero_u32_get a.peer_limit) c.args.id request a.requests new) in
    rw (c.remove.ensures, c.in-Ok.ensures.ok, key)
    (kept-sent g.met.K.Ord.total a.fetch_timeout a.retry_delay a.last_id a.pending.keys a.requests c.self.invariant.0 c.args.id request new idle taken, loaded, closed-any a.cursor shut _)

pub keep_pool-requires : goal.keep_pool-requires
keep_pool-requires g c =
    let R = g.P.Ord.cmp in
    let a = c.self.inside in
    let all = rw (← c.self.view_is) at (all-tried (orders g.K.Ord.cmp g.P.Ord.cmp) c.args.self.now c.args.cursor.moment c.args.cursor.trail c.args.cursor.trying c.requires.right.tries) in
    rw c.into_trying-trying.ensures
    (record {
      all = λ none.
          sampled-sent g.met.P.Ord.total c.args.peer a.peers c.send.new.peers c.order.ensures.ordered c.in-Ok.ensures.counted c.in-Ok.name c.in-Ok.ensures.name
          ∙ ap (resampled R (known_by R c.send.new.peers) c.in-Ok.name)
          (ap (λ (load : Option (Load g.row.P.Denot)). sampled R (record (known_by R a.peers) { load = load })) c.self.invariant.1 ∙ sym (all none));
    })

pub invariant_of-self-in-Err : goal.invariant_of-self-in-Err
invariant_of-self-in-Err g c =
    let set = ap (λ (k : Known g.row.P.Denot). k.set) c.in-Err.ensures.err_peers in
    let blocked = ap (λ (k : Known g.row.P.Denot). k.blocked) c.in-Err.ensures.err_peers in
    let local = ap (λ (k : Known g.row.P.Denot). k.local) c.in-Err.ensures.err_peers in
    rw (c.in-Err.ensures.err, set, blocked, local) (
      c.self.invariant.0,
      ap (λ (k : Known g.row.P.Denot). k.load) c.in-Err.ensures.err_peers ∙ c.self.invariant.1,
      record {
        moment_fits = c.requires.right.moment_fits;
        tries = rw (← c.self.view_is) at c.requires.right.tries;
        new_id = rw (← c.self.view_is) at c.requires.right.new_id;
      },
    )

pub returns-in-Ok-clause-ok : goal.returns-in-Ok-clause-ok
returns-in-Ok-clause-ok g c =
    let o = orders g.K.Ord.cmp g.P.Ord.cmp in
    let shut = ap is_some (ap (λ (f : Fetcher g.row.K.Denot g.row.P.Denot). f.scan) c.self.view_is) ∙ c.requires.closed in
    let key = ap (λ (t : Trying g.row.K.Denot g.row.P.Denot). t.key) (c.trying.view_is ∙ c.into_trying-trying.ensures) in
    let set = ap (λ (k : Known g.row.P.Denot). k.set) c.in-Ok.ensures.counted in
    let blocked = ap (λ (k : Known g.row.P.Denot). k.blocked) c.in-Ok.ensures.counted in
    let local = ap (λ (k : Known g.row.P.Denot). k.local) c.in-Ok.ensures.counted in
    rw (c.keep_pool.ensures, c.remove.ensures, c.in-Ok.ensures.ok, key, set, blocked, local, closed-none c.self.inside.cursor shut)
    (ap (after_step o (scan_of c.args.cursor) c.args.cursor.trying.key (Accept c.args.peer c.args.id)) c.self.view_is)

pub returns-in-Err-clause-err : goal.returns-in-Err-clause-err
returns-in-Err-clause-err g c =
    let set = ap (λ (k : Known g.row.P.Denot). k.set) c.in-Err.ensures.err_peers in
    let blocked = ap (λ (k : Known g.row.P.Denot). k.blocked) c.in-Err.ensures.err_peers in
    let local = ap (λ (k : Known g.row.P.Denot). k.local) c.in-Err.ensures.err_peers in
    rw (c.in-Err.ensures.err, set, blocked, local) (ap (opened c.args.cursor) c.self.view_is)
