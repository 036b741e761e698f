use Rattle.std.proofs.Common.{◌≡◌, ◌∙◌, ap, filter, true, rules}
use Rattle.std.proofs.lemmas.Map.Made.{filter_same_pairs}
use Rattle.std.proofs.lemmas.Cmp.{eq_by_cmp_equiv}
use Rattle.std.proofs.lemmas.Map.Keys.{IsDistinct-from_sorted}
use Rattle.std.proofs.lemmas.Map.Entries.{lookup-filter-values}
use Rattle.std.specs.BTreeMap.{is_at}
use Rattle.std.specs.Map.{lookup}
use Rattle.resolver_fetch_requests.specs.Deadlines.{times_of}
use Rattle.resolver_fetch_requests.specs.Ids.{is_held}
use Rattle.resolver_fetch_requests.specs.Requests.{is_for}
use Rattle.resolver_fetch_requests.proofs.Names.{ids-counted, named-retained, none-left}
use Rattle.resolver_fetch_requests.proofs.Timed.{times-part}
use Rattle.resolver_fetch_requests.proofs.requests.Requests.retain.Goals as goal

pub invariant_of-self : goal.invariant_of-self
invariant_of-self g c =
    let found = c.retain.ensures.found in
    let names : c.retain-3.new.self.entries ≡ filter (λ e. is_held c.retain.new.self e.1) c.self.inside.by_key.entries =
    filter_same_pairs _ (λ e. is_held c.retain.new.self e.1) _ (λ k v b w f' t. (search rules, search rules, search rules)) _ _ c.retain-3.ensures.filtered in
    record {
      ids = c.retain.ensures.ordered;
      timed = c.retain-2.ensures (times_of c.self.inside.by_id) c.self.invariant.timed (times-part c.self.inside.by_id c.retain.new.self found);
      named = named-retained g.met.K.Ord.total c.self.inside.by_id c.retain.new.self c.self.inside.by_key.entries _ c.self.invariant.named found (λ k.
          ap (lookup (is_at (g.K.Ord.cmp k))) names
          ∙ lookup-filter-values (eq_by_cmp_equiv g.met.K.Ord.total) (is_held c.retain.new.self) k c.self.inside.by_key.entries (IsDistinct-from_sorted g.K.Ord.cmp _ c.retain-3.ensures.was_ordered));
    }

pub returns-clause-kept : goal.returns-clause-kept
returns-clause-kept g c = λ test pure.
    c.retain.ensures.kept (λ r. test r.key) (record { by = λ r b called. pure.by r.key b (search rules) })
    ∙ ap (filter (λ r. test r.1.key)) c.self.view_is

pub returns-clause-fewer : goal.returns-clause-fewer
returns-clause-fewer g c = λ key.
    rw (← c.self.view_is) (ids-counted g.K.Ord.cmp key c.retain.new.self c.self.inside.by_id (c.retain.ensures.fewer (is_for g.K.Ord.cmp key)))

pub returns-clause-none : goal.returns-clause-none
returns-clause-none g c = λ none. none-left c.self.inside.by_id c.retain.new.self (c.self.view_is ∙ none) (c.retain.ensures.fewer (λ r. true))
