use Rattle.std.proofs.Common.{ap, None}
use Rattle.resolver_fetch_scan.specs.Orders.{orders}
use Rattle.resolver_fetch.specs.Cursor.{opened, scan_of}
use Rattle.resolver_fetch.specs.Stepping.{expecting}
use Rattle.resolver_fetch.proofs.Stepping.{asks-kept, asks-new}
use Rattle.resolver_fetch.proofs.fetcher.Fetcher.expect.Goals.{in-Checking-2, in-FirstId-2, in-Sending-2, in-Mode-2}
use Rattle.resolver_fetch.proofs.fetcher.Fetcher.expect.Goals as goal

pub returns-in-Ok-clause-asked : goal.returns-in-Ok-clause-asked
returns-in-Ok-clause-asked g c =
    let o = orders g.K.Ord.cmp g.P.Ord.cmp in
    let t = c.args.cursor in
    rw (c.in-Ok.ensures.ok, c.wake.ensures)
    (rw (← c.self.view_is) at (asks-kept o c.args.self.now t.moment t.trail t.trying c.args.expected c.args.last_id None c.requires.right.tries))

pub invariant_of-self : goal.invariant_of-self
invariant_of-self g c =
    let kept = c.self.invariant.0 in
    rw c.wake.ensures (
      record {
        timely = kept.timely;
        once = kept.once;
        none_yet = rw (← c.self.view_is) at c.requires.none_yet;
      },
      c.self.invariant.1,
      record {
        moment_fits = c.requires.right.moment_fits;
        tries = rw (← c.self.view_is) at c.requires.right.tries;
        new_id = rw (← c.self.view_is) at c.requires.new_id;
      },
    )

pub invariant_of-self-in-Err : goal.invariant_of-self-in-Err
invariant_of-self-in-Err g c = (
  c.self.invariant.0,
  c.self.invariant.1,
  record {
    moment_fits = c.requires.right.moment_fits;
    tries = rw (← c.self.view_is) at c.requires.right.tries;
    new_id = rw (← c.self.view_is) at c.requires.right.new_id;
  },
)

pub invariant_of-self-in-Err-2 : goal.invariant_of-self-in-Err-2
invariant_of-self-in-Err-2 g c = (
  c.self.invariant.0,
  c.self.invariant.1,
  record {
    moment_fits = c.requires.right.moment_fits;
    tries = rw (← c.self.view_is) at c.requires.right.tries;
    new_id = rw (← c.self.view_is) at c.requires.right.new_id;
  },
)

pub invariant_of-self-in-Err-3 : goal.invariant_of-self-in-Err-3
invariant_of-self-in-Err-3 g c = (
  c.self.invariant.0,
  c.self.invariant.1,
  record {
    moment_fits = c.requires.right.moment_fits;
    tries = rw (← c.self.view_is) at c.requires.right.tries;
    new_id = rw (← c.self.view_is) at c.requires.right.new_id;
  },
)

pub invariant_of-self-in-Err-4 : goal.invariant_of-self-in-Err-4
invariant_of-self-in-Err-4 g c = (
  c.self.invariant.0,
  c.self.invariant.1,
  record {
    moment_fits = c.requires.right.moment_fits;
    tries = rw (← c.self.view_is) at c.requires.right.tries;
    new_id = rw (← c.self.view_is) at c.requires.right.new_id;
  },
)

pub returns-in-Ok-clause-ok : goal.returns-in-Ok-clause-ok
returns-in-Ok-clause-ok g c =
    rw c.wake.ensures
    (ap (expecting (orders g.K.Ord.cmp g.P.Ord.cmp) (scan_of c.args.cursor) c.args.expected c.args.last_id) c.self.view_is)

pub returns-in-Ok-clause-new_id : goal.returns-in-Ok-clause-new_id
returns-in-Ok-clause-new_id g c =
    rw c.in-Ok.ensures.ok
    (asks-new (orders g.K.Ord.cmp g.P.Ord.cmp) (record c.args.self.now { asked = c.self.inside.requests }) c.self.inside.priority_requests c.args.cursor.trying c.args.last_id c.args.expected (rw (← c.self.view_is) at c.requires.new_id))

pub returns-in-Err-clause-err : goal.returns-in-Err-clause-err
returns-in-Err-clause-err g c =
    let same = ap (opened c.args.cursor) c.self.view_is in
    elim c.match-expected.branch [
      | in-Checking-2 w ↦ rw w.self-is same
      | in-FirstId-2 w ↦ rw w.self-is same
      | in-Sending-2 w ↦ rw w.self-is same
      | in-Mode-2 w ↦ rw w.self-is same
    ]
