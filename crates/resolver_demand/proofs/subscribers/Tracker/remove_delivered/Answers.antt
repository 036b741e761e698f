use Rattle.std.proofs.Common.{◌≡◌}
use Rattle.resolver_demand.proofs.subscribers.Tracker.remove_delivered.Goals as goal

pub returns : goal.returns
returns g c =
    let key : c.in_ok-clone.field-0 ≡ c.args.key.now = c.requires.keys_clone _ _ c.in_ok-clone.ensures.cases in
    record {
      ok = rw (← key, ← c.as_slice.ensures.value, ← c.self.view_is) c.serve.ensures.ok;
      rest = rw (← key, ← c.as_slice.ensures.value, ← c.self.view_is) c.serve.ensures.rest;
      listed = c.serve.ensures.rest_listed;
      err = rw (← c.self.view_is) c.serve.ensures.err;
      only = c.serve.ensures.only;
    }
