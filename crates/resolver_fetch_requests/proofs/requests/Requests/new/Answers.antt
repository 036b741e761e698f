use Rattle.std.proofs.Common.{ap}
use Rattle.std.specs.List.Sorted.{IsStrictlySortedBy}
use Rattle.resolver_fetch_requests.specs.Deadlines.{times_of}
use Rattle.resolver_fetch_requests.proofs.requests.Requests.new.Goals as goal

pub invariant_of-result : goal.invariant_of-result
unfolding IsStrictlySortedBy
invariant_of-result g c = record {
  ids = rw c.new.ensures tt;
  timed = c.new-2.ensures (times_of c.new.result) (λ id. ap (λ es. times_of es id) c.new.ensures);
  named = record {
    named = λ id r there. absurd (let gone = rw c.new.ensures at there in cc);
    held = λ key id names. absurd (let gone = rw c.new-3.ensures.empty at names in cc);
  };
}
