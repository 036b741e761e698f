use Rattle.std.proofs.Common.{◌≡◌, None, Some, rules}
use Rattle.std.specs.BTreeMap.{is_at}
use Rattle.std.specs.Map.{lookup}
use Rattle.resolver_fetch_requests.specs.Requests.{request_of}
use Rattle.resolver_fetch_requests.proofs.Names.{asked-once, for-none, for-one, held-for}
use Rattle.resolver_fetch_requests.proofs.requests.Requests.get_for.Goals as goal

pub returns-in_err-id-clause-value : goal.returns-in_err-id-clause-value
returns-in_err-id-clause-value g c =
    let a = c.self.inside in
    let name : lookup (is_at (g.K.Ord.cmp c.args.key.now)) a.by_key.entries ≡ None = search rules in
    let none = for-none g.met.K.Ord.total a.by_id a.by_key.entries c.self.invariant.named c.self.invariant.ids c.args.key.now name in
    search (rules, none)

pub returns-in_err-id-clause-once : goal.returns-in_err-id-clause-once
returns-in_err-id-clause-once g c = rw (← c.self.view_is) (asked-once g.met.K.Ord.total c.self.inside.by_id c.self.inside.by_key.entries c.self.invariant.named c.self.invariant.ids c.args.key.now)

pub returns-in_err-request-clause-value : goal.returns-in_err-request-clause-value
returns-in_err-request-clause-value g c =
    let a = c.self.inside in
    let name : lookup (is_at (g.K.Ord.cmp c.args.key.now)) a.by_key.entries ≡ Some c.in_ok-id.id.now = search rules in
    let gone : request_of a.by_id c.in_ok-id.id.now ≡ None = search rules in
    absurd (held-for g.met.K.Ord.total a.by_id a.by_key.entries c.self.invariant.named c.self.invariant.ids c.args.key.now c.in_ok-id.id.now name gone)

pub returns-in_err-request-clause-once : goal.returns-in_err-request-clause-once
returns-in_err-request-clause-once g c = rw (← c.self.view_is) (asked-once g.met.K.Ord.total c.self.inside.by_id c.self.inside.by_key.entries c.self.invariant.named c.self.invariant.ids c.args.key.now)

pub returns-clause-value : goal.returns-clause-value
returns-clause-value g c =
    let a = c.self.inside in
    let name : lookup (is_at (g.K.Ord.cmp c.args.key.now)) a.by_key.entries ≡ Some c.in_ok-id.id.now = search rules in
    let there : request_of a.by_id c.in_ok-id.id.now ≡ Some c.in_ok-request.request.now = search rules in
    let is = for-one g.met.K.Ord.total a.by_id a.by_key.entries c.self.invariant.named c.self.invariant.ids c.args.key.now c.in_ok-id.id.now c.in_ok-request.request.now name there in
    search (rules, is)

pub returns-clause-once : goal.returns-clause-once
returns-clause-once g c = rw (← c.self.view_is) (asked-once g.met.K.Ord.total c.self.inside.by_id c.self.inside.by_key.entries c.self.invariant.named c.self.invariant.ids c.args.key.now)
