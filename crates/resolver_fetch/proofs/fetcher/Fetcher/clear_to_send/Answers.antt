use Rattle.std.proofs.Common.{◌≡◌, refl, ap, sym, ◌∙◌, None, Some}
use Rattle.resolver_fetch_requests.specs.Ids.{next_id}
use Rattle.resolver_fetch_scan.specs.declared.trail.Expected.TheVariants.{FirstId}
use Rattle.resolver_fetch_scan.specs.Orders.{orders}
use Rattle.resolver_fetch_scan.specs.Scan.{clears}
use Rattle.resolver_fetch_scan.proofs.Outcomes.{onto-ok}
use Rattle.resolver_fetch.specs.Cursor.{scan_of}
use Rattle.resolver_fetch_scan.specs.Fetcher.{Fetcher, snapshot, turned}
use Rattle.resolver_fetch.specs.Stepping.{expecting}
use Rattle.resolver_fetch.proofs.fetcher.Fetcher.clear_to_send.Goals as goal

pub expect-requires-clause-new_id : goal.expect-requires-clause-new_id
expect-requires-clause-new_id g c = (rw (← c.self.view_is) c.next_id-id.ensures.free, refl)

pub expect-requires-clause-right : goal.expect-requires-clause-right
expect-requires-clause-right g c = c.requires.right

pub expect-requires-in-None-clause-right : goal.expect-requires-in-None-clause-right
expect-requires-in-None-clause-right g c = c.requires.right

pub returns-in-Some-clause-ok : goal.returns-in-Some-clause-ok
returns-in-Some-clause-ok g c =
    let last : c.args.self.now.last_id ≡ Some c.in-Some.last = sym (ap (λ (f : Fetcher g.row.K.Denot g.row.P.Denot). f.last_id) c.self.view_is) ∙ c.in-Some.is in
    let id : c.next_id-id.result ≡ next_id c.args.self.now.asked c.in-Some.last =
    c.next_id-id.ensures.value ∙ ap (λ (f : Fetcher g.row.K.Denot g.row.P.Denot). next_id f.asked c.in-Some.last) c.self.view_is in
    rw (last, ← id) c.expect.ensures.ok

pub returns-in-None-clause-ok : goal.returns-in-None-clause-ok
returns-in-None-clause-ok g c =
    let o = orders g.K.Ord.cmp g.P.Ord.cmp in
    let f = c.args.self.now in
    let scan = scan_of c.args.cursor in
    let last : c.args.self.now.last_id ≡ None = sym (ap (λ (f : Fetcher g.row.K.Denot g.row.P.Denot). f.last_id) c.self.view_is) ∙ c.in-None.is in
    onto-ok c.expect-in-None.result _ _
    (λ is. is
    ∙ ap (λ l. expecting o scan (FirstId c.args.peer) l f) (sym last)
    ∙ ap (λ l. turned o (clears o (snapshot o f) scan c.args.peer l) f) (sym last))
    c.expect-in-None.ensures.ok
