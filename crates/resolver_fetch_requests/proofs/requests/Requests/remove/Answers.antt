use Rattle.std.proofs.Common.{◌≡◌, ◌∙◌, ℕ, ap, Some, option_map, rules}
use Rattle.resolver_fetch_requests.specs.Deadlines.{times_of, without_time}
use Rattle.resolver_fetch_requests.specs.declared.requests.request.Request.{Request}
use Rattle.resolver_fetch_requests.specs.Requests.{request_of}
use Rattle.resolver_sequence.proofs.Entries.{lookup-taken}
use Rattle.resolver_fetch_requests.proofs.Timed.{timed-same, times-without}
use Rattle.resolver_fetch_requests.proofs.Names.{named-without}
use Rattle.resolver_fetch_requests.proofs.requests.Requests.remove.Goals as goal

pub invariant_of-self : goal.invariant_of-self
invariant_of-self g c =
    let same : c.remove.new.self ≡ c.self.inside.by_id = search rules in
    rw same c.self.invariant

pub invariant_of-self-2 : goal.invariant_of-self-2
invariant_of-self-2 g c =
    let a = c.self.inside in
    let there : request_of a.by_id c.args.id ≡ Some c.in_ok-request.request = search rules in
    let updates = λ (q : ℕ). ap (λ es. request_of es q) c.remove.ensures.after ∙ lookup-taken c.args.id q a.by_id c.self.invariant.ids in
    let time : times_of a.by_id c.args.id ≡ Some c.in_ok-request.request.deadline = ap (option_map (λ (r : Request _ _). r.deadline)) there in
    record {
      ids = c.remove.ensures.ordered;
      timed = timed-same (without_time (times_of a.by_id) c.args.id) (times_of c.remove.new.self) c.remove-2.new.self (times-without c.args.id a.by_id c.remove.new.self updates)
          (c.remove-2.ensures (times_of a.by_id) c.self.invariant.timed time);
      named = named-without g.met.K.Ord.total c.args.id c.in_ok-request.request a.by_id c.remove.new.self a.by_key.entries _ c.self.invariant.named there updates c.remove-3.ensures.updates.0;
    }
