use Rattle.std.proofs.Common.{◌≡◌, ap, refl, [], rules, arith}
use Rattle.resolver_fetch_waiting.specs.Pending.{Pending}
use Rattle.resolver_fetch.proofs.fetcher.Fetcher.new.Goals as goal

pub invariant_of-result : goal.invariant_of-result
invariant_of-result g c =
    let keys : c.new.result.keys ≡ [] = ap (λ (p : Pending _). p.keys) c.new.ensures in
    rw (keys, c.new-2.ensures) (record { timely = c.requires; once = λ key. omega arith; none_yet = λ none. refl }, search rules, tt)
