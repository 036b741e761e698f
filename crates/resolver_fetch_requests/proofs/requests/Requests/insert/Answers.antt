use Rattle.std.proofs.Common.{◌≡◌, ◌∙◌, ℕ, ap, refl, sym, false, None, option_map}
use Rattle.std.specs.BTreeMap.{is_at}
use Rattle.std.specs.Map.{lookup}
use Rattle.resolver_fetch_requests.specs.Deadlines.{times_of, with_time, without_time}
use Rattle.resolver_fetch_requests.specs.declared.requests.request.Request.{Request}
use Rattle.resolver_fetch_requests.specs.Ids.{is_held}
use Rattle.resolver_fetch_requests.specs.Requests.{is_asked, request_of}
use Rattle.resolver_sequence.proofs.Entries.{lookup-put}
use Rattle.resolver_fetch_requests.proofs.Timed.{time-back, time-here, timed-same, times-put}
use Rattle.resolver_fetch_requests.proofs.Names.{asked-named, name-gone, named-put, named-same, none-is}
use Rattle.resolver_fetch_requests.proofs.requests.Requests.insert.Goals as goal

pub put-requires-clause-new_id : goal.put-requires-clause-new_id
put-requires-clause-new_id g c =
    let free : is_held c.self.inside.by_id c.args.id ≡ false = rw c.self.view_is c.requires.new_id in
    ap (option_map (λ (r : Request _ _). r.deadline)) (none-is _ free)

pub invariant_of-self-in-Err : goal.invariant_of-self-in-Err
invariant_of-self-in-Err g c =
    let a = c.self.inside in
    let total = g.met.K.Ord.total in
    let apart : is_asked g.K.Ord.cmp a.by_id c.args.request.key ≡ false = rw c.self.view_is c.requires.new_key in
    let none : lookup (is_at (g.K.Ord.cmp c.args.request.key)) a.by_key.entries ≡ None = none-is _ (sym (asked-named total a.by_id a.by_key.entries c.self.invariant.named c.self.invariant.ids c.args.request.key) ∙ apart) in
    let key = c.requires.keys_clone c.args.request.key c.in_ok-key.key c.in_ok-key.ensures.cases in
    let puts = rw key at c.in_ok-insert.ensures.updates.0 in
    record {
      ids = c.self.invariant.ids;
      timed = rw c.in-Err.ensures.err c.self.invariant.timed;
      named = named-same total a.by_id a.by_id a.by_key.entries _ c.self.invariant.named (λ q. refl)
          (name-gone total c.args.request.key a.by_key.entries c.insert.new.self.entries _ c.args.id none puts c.remove.ensures.updates.0);
    }

pub invariant_of-self-in-Err-insert : goal.invariant_of-self-in-Err-insert
invariant_of-self-in-Err-insert g c =
    let a = c.self.inside in
    let total = g.met.K.Ord.total in
    let apart : is_asked g.K.Ord.cmp a.by_id c.args.request.key ≡ false = rw c.self.view_is c.requires.new_key in
    let none : lookup (is_at (g.K.Ord.cmp c.args.request.key)) a.by_key.entries ≡ None = none-is _ (sym (asked-named total a.by_id a.by_key.entries c.self.invariant.named c.self.invariant.ids c.args.request.key) ∙ apart) in
    let times = times_of a.by_id in
    let free : times c.args.id ≡ None = ap (option_map (λ (r : Request _ _). r.deadline)) (none-is _ (rw c.self.view_is c.requires.new_id)) in
    let key = c.requires.keys_clone c.args.request.key c.in_ok-key.key c.in_ok-key.ensures.cases in
    let puts = rw key at c.in_ok-insert.ensures.updates.0 in
    let takes = rw c.in-Err-insert.ensures.value_returned at c.remove-in-Err-insert-2.ensures.updates.0 in
    let put = with_time times c.args.id c.args.request.deadline in
    rw c.in-Err-insert.ensures.err (record {
      ids = c.self.invariant.ids;
      timed = timed-same (without_time put c.args.id) times c.remove-in-Err-insert.new.self (time-back times c.args.id c.args.request.deadline free)
          (c.remove-in-Err-insert.ensures put c.in_default.ensures.ok (time-here times c.args.id c.args.request.deadline));
      named = named-same total a.by_id a.by_id a.by_key.entries _ c.self.invariant.named (λ q. refl)
          (name-gone total c.args.request.key a.by_key.entries c.insert.new.self.entries _ c.args.id none puts takes);
    })

pub invariant_of-self-in_default-insert : goal.invariant_of-self-in_default-insert
invariant_of-self-in_default-insert g c =
    let a = c.self.inside in
    let total = g.met.K.Ord.total in
    let apart : is_asked g.K.Ord.cmp a.by_id c.args.request.key ≡ false = rw c.self.view_is c.requires.new_key in
    let none : lookup (is_at (g.K.Ord.cmp c.args.request.key)) a.by_key.entries ≡ None = none-is _ (sym (asked-named total a.by_id a.by_key.entries c.self.invariant.named c.self.invariant.ids c.args.request.key) ∙ apart) in
    let free : is_held a.by_id c.args.id ≡ false = rw c.self.view_is c.requires.new_id in
    let key = c.requires.keys_clone c.args.request.key c.in_ok-key.key c.in_ok-key.ensures.cases in
    let puts = rw key at c.in_ok-insert.ensures.updates.0 in
    let all = c.insert-2.new.self in
    let updates = λ (q : ℕ). ap (λ es. request_of es q) c.in_default-insert.ensures.ok ∙ lookup-put c.args.id c.args.request q a.by_id in
    record {
      ids = c.in_default-insert.ensures.ordered;
      timed = timed-same (with_time (times_of a.by_id) c.args.id c.args.request.deadline) (times_of all) c.put.new.self
          (times-put c.args.id c.args.request a.by_id all updates) c.in_default.ensures.ok;
      named = named-put total c.args.id c.args.request a.by_id all a.by_key.entries c.insert.new.self.entries c.self.invariant.named free none updates puts;
    }
