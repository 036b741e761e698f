use Rattle.std.proofs.Common.{◌≡◌, refl, ap, ◌∙◌, sym, is_some, None, Some}
use Rattle.resolver_fetch_scan.specs.Fetcher.{Fetcher}
use Rattle.resolver_fetch_waiting.specs.Pending.{waits_until}
use Rattle.resolver_fetch_scan.specs.Orders.{orders}
use Rattle.resolver_fetch.specs.Seeking.{next_of}
use Rattle.resolver_fetch_scan.specs.declared.trail.Expected.TheVariants.{Mode}
use Rattle.resolver_fetch_scan.specs.declared.trying.Next.TheVariants.{Try as Tries, Wait}
use Rattle.resolver_fetch_scan.specs.Trying.{Trying}
use Rattle.resolver_fetch.proofs.Kept.{closed-any, closed-none}
use Rattle.resolver_fetch.proofs.Nexts.{next-tries, tries-after, waits-after}
use Rattle.resolver_fetch.proofs.Stepping.{asks-kept}
use Rattle.resolver_fetch.proofs.fetcher.Fetcher.go_on.Goals as goal

pub returns-in-Wait-clause-after : goal.returns-in-Wait-clause-after
returns-in-Wait-clause-after g c =
    let o = orders g.K.Ord.cmp g.P.Ord.cmp in
    let is : next_of o c.args.self.now c.args.moment c.args.trail ≡ Wait c.in-Wait.other = sym c.requires.next ∙ c.in-Wait.is in
    let shut = ap is_some (ap (λ (f : Fetcher g.row.K.Denot g.row.P.Denot). f.scan) c.self.view_is) ∙ c.requires.closed in
    rw (c.sleep.ensures, closed-none c.self.inside.cursor shut)
    (ap (λ (f : Fetcher g.row.K.Denot g.row.P.Denot). record f { scan = None; waiter = Some (waits_until c.args.moment c.in-Wait.other f.waiting) }) c.self.view_is
    ∙ sym (waits-after o c.args.self.now c.args.moment c.args.trail c.in-Wait.other is))

pub invariant_of-self : goal.invariant_of-self
invariant_of-self g c =
    let o = orders g.K.Ord.cmp g.P.Ord.cmp in
    let is : next_of o c.args.self.now c.args.moment c.args.trail ≡ Tries c.in-Try.trying = sym c.requires.next ∙ c.in-Try.is in
    rw c.wake.ensures (
      c.self.invariant.0,
      c.self.invariant.1,
      record {
        moment_fits = c.requires.moment;
        tries = rw (← c.self.view_is) at (next-tries o c.args.self.now c.args.moment c.args.trail c.in-Try.trying is);
        new_id = tt;
      },
    )

pub returns-in-Try-clause-asked : goal.returns-in-Try-clause-asked
returns-in-Try-clause-asked g c =
    let o = orders g.K.Ord.cmp g.P.Ord.cmp in
    let is : next_of o c.args.self.now c.args.moment c.args.trail ≡ Tries c.in-Try.trying = sym c.requires.next ∙ c.in-Try.is in
    let tries = next-tries o c.args.self.now c.args.moment c.args.trail c.in-Try.trying is in
    let retries = ap (λ (t : Trying g.row.K.Denot g.row.P.Denot). t.retries) c.trying.view_is in
    rw (c.from-bound.ensures, retries, c.wake.ensures)
    (rw (← c.self.view_is) at (asks-kept o c.args.self.now c.args.moment c.args.trail c.in-Try.trying Mode c.self.inside.last_id None tries))

pub invariant_of-self-in-Wait-1 : goal.invariant_of-self-in-Wait-1
invariant_of-self-in-Wait-1 g c =
    let shut = ap is_some (ap (λ (f : Fetcher g.row.K.Denot g.row.P.Denot). f.scan) c.self.view_is) ∙ c.requires.closed in
    rw c.sleep.ensures (c.self.invariant.0, c.self.invariant.1, closed-any c.self.inside.cursor shut _)

pub returns-in-Try-clause-after : goal.returns-in-Try-clause-after
returns-in-Try-clause-after g c =
    let o = orders g.K.Ord.cmp g.P.Ord.cmp in
    let is : next_of o c.args.self.now c.args.moment c.args.trail ≡ Tries c.in-Try.trying = sym c.requires.next ∙ c.in-Try.is in
    rw c.wake.ensures
    (ap (λ (f : Fetcher g.row.K.Denot g.row.P.Denot). record f { scan = Some (record { moment = c.args.moment; trail = c.args.trail; expects = Some Mode }); waiter = None }) c.self.view_is
    ∙ sym (tries-after o c.args.self.now c.args.moment c.args.trail c.in-Try.trying is))

pub returns-in-Wait-clause-asked : goal.returns-in-Wait-clause-asked
returns-in-Wait-clause-asked g c =
    let shut = ap is_some (ap (λ (f : Fetcher g.row.K.Denot g.row.P.Denot). f.scan) c.self.view_is) ∙ c.requires.closed in
    rw (closed-none c.self.inside.cursor shut) refl
