use Rattle.std.proofs.Common.{◌≡◌, ◌∙◌, ap, sym, Some, rules}
use Rattle.std.specs.Map.{lookup, set_value}
use Rattle.std.specs.BTreeMap.{is_at}
use Rattle.std.proofs.lemmas.Map.Steps.{set_value_same}
use Rattle.resolver_fetch_scan.specs.Waiting.{once_more}
use Rattle.resolver_fetch_scan.proofs.Entries.{insert-held}
use Rattle.resolver_fetch_scan.proofs.Outcomes.{on-err}
use Rattle.resolver_fetch_waiting.proofs.retries.count_retry.Goals as goal

pub returns-in_err-put-clause-as_before : goal.returns-in_err-put-clause-as_before
returns-in_err-put-clause-as_before g c =
    let there : lookup (is_at (g.K.Ord.cmp c.args.key)) c.args.retries.now.entries ≡ Some c.in-Some.count.now = sym c.in-Some.ensures.value in
    let same : (c.get_mut.follows.lender c.in-Some.count.now).entries ≡ c.args.retries.now.entries =
    (c.get_mut.follows.holds c.in-Some.count.now).0
    ∙ set_value_same _ c.args.retries.now.entries c.in-Some.count.now there in
    on-err c.from_residual.result _ same

pub returns-in-Some-clause-counted : goal.returns-in-Some-clause-counted
returns-in-Some-clause-counted g c =
    let there : lookup (is_at (g.K.Ord.cmp c.args.key)) c.args.retries.now.entries ≡ Some c.in-Some.count.now = sym c.in-Some.ensures.value in
    let more : c.saturating_add.result ≡ once_more c.in-Some.count.now = search rules in
    rw there
    ((c.get_mut.follows.holds c.saturating_add.result).0
    ∙ ap (λ w. set_value (is_at (g.K.Ord.cmp c.args.key)) c.args.retries.now.entries w) more
    ∙ sym (insert-held g.met.K.Ord.total c.args.key (once_more c.in-Some.count.now) c.in-Some.count.now
    c.args.retries.now.entries c.get_mut.ensures.ordered there))

pub returns-in-Some-clause-ok : goal.returns-in-Some-clause-ok
returns-in-Some-clause-ok g c = c.in_ok-put.ensures.ok
