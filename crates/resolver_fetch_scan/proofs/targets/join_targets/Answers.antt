use Rattle.std.proofs.Common.{◌≡◌, ◌∙◌, ap, sym, Some, rules}
use Rattle.std.specs.Map.{lookup, set_value}
use Rattle.std.specs.BTreeMap.{is_at}
use Rattle.std.proofs.lemmas.Map.Steps.{set_value_same}
use Rattle.resolver_fetch_scan.specs.Peers.{with_targets}
use Rattle.resolver_fetch_scan.proofs.Entries.{insert-held}
use Rattle.resolver_fetch_scan.proofs.Outcomes.{on-err, onto-err, onto-ok}
use Rattle.resolver_fetch_scan.proofs.targets.join_targets.Goals as goal

pub returns-in-Some-clause-ok : goal.returns-in-Some-clause-ok
returns-in-Some-clause-ok g c =
    let there : lookup (is_at (g.K.Ord.cmp c.args.key)) c.args.targets.now.entries ≡ Some c.in-Some.there.now = sym c.in-Some.ensures.value in
    let entries = (c.get_mut.follows.holds c.join.new.self).0 in
    let held = sym (insert-held g.met.K.Ord.total c.args.key (with_targets g.P.Ord.cmp c.in-Some.there.now c.args.peers.items) c.in-Some.there.now
    c.args.targets.now.entries c.get_mut.ensures.ordered there) in
    onto-ok c.join.result _ _
    (λ joined. rw there (entries ∙ ap (λ w. set_value (is_at (g.K.Ord.cmp c.args.key)) c.args.targets.now.entries w) joined ∙ held)) c.join.ensures.ok

pub returns-in-Some-clause-err : goal.returns-in-Some-clause-err
returns-in-Some-clause-err g c =
    let there : lookup (is_at (g.K.Ord.cmp c.args.key)) c.args.targets.now.entries ≡ Some c.in-Some.there.now = sym c.in-Some.ensures.value in
    let entries = (c.get_mut.follows.holds c.join.new.self).0 in
    let same = set_value_same _ c.args.targets.now.entries c.in-Some.there.now there in
    onto-err c.join.result _ _
    (λ kept. entries ∙ ap (λ w. set_value (is_at (g.K.Ord.cmp c.args.key)) c.args.targets.now.entries w) kept ∙ same) c.join.ensures.err

pub returns-in_err-insert-clause-err : goal.returns-in_err-insert-clause-err
returns-in_err-insert-clause-err g c =
    let same : c.insert.new.self.entries ≡ c.args.targets.now.entries = search rules in
    on-err c.from_residual-in_err-insert.result _ same
