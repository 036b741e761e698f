use Rattle.std.proofs.Common.{refl, ap, ◌∙◌, sym, ◌<◌, [], ◌∷◌, ◌++◌, length, arith}
use Rattle.std.proofs.lemmas.Bool.{eqb-true, eqb-false}
use Rattle.resolver_fetch_scan.specs.declared.trail.Try.{Try}
use Rattle.resolver_fetch.specs.Cursor.{opened}
use Rattle.resolver_fetch_scan.specs.Fetcher.{snapshot}
use Rattle.resolver_fetch_scan.specs.Orders.{orders}
use Rattle.resolver_fetch_scan.specs.Trying.{apart_from}
use Rattle.resolver_fetch.proofs.Continues.{goes-on-with-key}
use Rattle.resolver_fetch.proofs.Nexts.{tries-next}
use Rattle.resolver_fetch.proofs.fetcher.Fetcher.fail.Goals as goal

pub pass-requires-clause-last : goal.pass-requires-clause-last
pass-requires-clause-last g c =
    eqb-true (length (apart_from g.P.Ord.cmp c.args.peer c.args.cursor.trying.left)) 0 (sym c.is_last.ensures ∙ c.if-is_last.true)

pub go_on-requires-clause-next : goal.go_on-requires-clause-next
go_on-requires-clause-next g c =
    let o = orders g.K.Ord.cmp g.P.Ord.cmp in
    let f = c.args.self.now in
    let t = c.args.cursor in
    let failed = c.in_default.ensures.ok in
    let others = eqb-false (length (apart_from g.P.Ord.cmp c.args.peer t.trying.left)) 0 (sym c.is_last.ensures ∙ c.if-is_last.false) in
    let some : 0 < length (apart_from g.P.Ord.cmp c.args.peer t.trying.left) = omega (arith, others) in
    let tried : Try g.row.K.Denot g.row.P.Denot = record { key = t.trying.key; peer = c.args.peer; reason = c.args.reason } in
    let is = goes-on-with-key o (snapshot o f) t.moment t.trail tried g.met.K.Ord.total t.trying refl some c.requires.right.tries in
    rw (c.into_tries-trail.ensures, failed) (sym (tries-next o f t.moment (t.trail ++ tried ∷ []) _ is))

pub invariant_of-self : goal.invariant_of-self
invariant_of-self g c =
    rw c.in-Err.ensures.err (
      c.self.invariant.0,
      c.self.invariant.1,
      record {
        moment_fits = c.requires.right.moment_fits;
        tries = rw (← c.self.view_is) at c.requires.right.tries;
        new_id = rw (← c.self.view_is) at c.requires.right.new_id;
      },
    )

pub pass-requires-clause-right : goal.pass-requires-clause-right
pass-requires-clause-right g c = record {
  moment_fits = c.requires.right.moment_fits;
  tries = c.requires.right.tries;
  new_id = c.requires.right.new_id;
}

pub returns-clause-ok : goal.returns-clause-ok
returns-clause-ok g c = rw (c.into_tries-trail.ensures, c.in_default.ensures.ok) at c.go_on.ensures.after

pub returns-in-Err-clause-err : goal.returns-in-Err-clause-err
returns-in-Err-clause-err g c = rw c.in-Err.ensures.err (ap (opened c.args.cursor) c.self.view_is)
