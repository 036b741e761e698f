use Rattle.std.proofs.Common.{refl, ap, ◌∙◌, sym, [], ◌∷◌, ◌++◌}
use Rattle.resolver_fetch_scan.specs.declared.cursor.Cursor.{Cursor}
use Rattle.resolver_fetch_scan.specs.declared.trail.Try.{Try}
use Rattle.resolver_fetch.specs.Cursor.{opened}
use Rattle.resolver_fetch_scan.specs.Orders.{orders}
use Rattle.resolver_fetch.specs.Seeking.{next_for, scan_at, tried_again}
use Rattle.resolver_fetch.proofs.Passes.{passes}
use Rattle.resolver_fetch.proofs.fetcher.Fetcher.pass.Goals as goal

pub go_on-requires-clause-next : goal.go_on-requires-clause-next
go_on-requires-clause-next g c =
    let o = orders g.K.Ord.cmp g.P.Ord.cmp in
    let f = c.args.self.now in
    let t = c.args.cursor in
    let noted = c.in_default.ensures.ok in
    let tried : Try g.row.K.Denot g.row.P.Denot = record { key = t.trying.key; peer = c.args.peer; reason = c.args.reason } in
    let past = passes o f t.moment t.trail tried g.met.K.Ord.total t.trying refl c.requires.last c.find_behind.ensures.ordered c.requires.right.tries in
    let next = rw noted at c.in-Ok.ensures.ok in
    rw (c.into_trail.ensures, c.find_behind.ensures.same, noted) (next ∙ ap (λ found. next_for o found (tried_again o f (scan_at t.moment (t.trail ++ tried ∷ [])))) (sym past))

pub invariant_of-self-in-Err-find_behind : goal.invariant_of-self-in-Err-find_behind
invariant_of-self-in-Err-find_behind g c =
    let t = c.args.cursor in
    let noted = c.in_default.ensures.ok in
    let back = c.pop.ensures t.trail (record { key = t.trying.key; peer = c.args.peer; reason = c.args.reason }) (ap (λ (n : Cursor g.row.K.Denot g.row.P.Denot). n.trail) noted) in
    rw (back, noted) (
      c.self-in-Err-find_behind.invariant.0,
      c.self-in-Err-find_behind.invariant.1,
      record {
        moment_fits = c.requires.right.moment_fits;
        tries = rw (← c.find_behind.ensures.same, ← c.self-in-Err-find_behind.view_is) at c.requires.right.tries;
        new_id = rw (← c.find_behind.ensures.same, ← c.self-in-Err-find_behind.view_is) at c.requires.right.new_id;
      },
    )

pub returns-in-Ok-clause-ok : goal.returns-in-Ok-clause-ok
returns-in-Ok-clause-ok g c =
    let noted = c.in_default.ensures.ok in
    rw (c.into_trail.ensures, noted, c.find_behind.ensures.same) at c.go_on.ensures.after

pub invariant_of-self : goal.invariant_of-self
invariant_of-self g c =
    rw c.in-Err.ensures.err (
      c.self.invariant.0,
      c.self.invariant.1,
      record {
        moment_fits = c.requires.right.moment_fits;
        tries = rw (← c.self.view_is) at c.requires.right.tries;
        new_id = rw (← c.self.view_is) at c.requires.right.new_id;
      },
    )

pub returns-clause-err : goal.returns-clause-err
returns-clause-err g c =
    let t = c.args.cursor in
    let noted = c.in_default.ensures.ok in
    let back = c.pop.ensures t.trail (record { key = t.trying.key; peer = c.args.peer; reason = c.args.reason }) (ap (λ (n : Cursor g.row.K.Denot g.row.P.Denot). n.trail) noted) in
    rw (back, noted)
    (ap (opened t) (c.self-in-Err-find_behind.view_is ∙ c.find_behind.ensures.same))

pub returns-in-Err-clause-err : goal.returns-in-Err-clause-err
returns-in-Err-clause-err g c = rw c.in-Err.ensures.err (ap (opened c.args.cursor) c.self.view_is)

pub go_on-requires-clause-closed : goal.go_on-requires-clause-closed
go_on-requires-clause-closed g c = rw c.find_behind.ensures.same c.requires.closed

pub go_on-requires-clause-moment : goal.go_on-requires-clause-moment
go_on-requires-clause-moment g c = rw c.in_default.ensures.ok c.requires.right.moment_fits
