use Rattle.std.proofs.Common.{◌≡◌, ◌∙◌, sym, ap, ℕ, List, [], false}
use Rattle.std.specs.BTreeMap.{insert_entry}
use Rattle.resolver_types.specs.Names.{Names, names}
use Rattle.resolver_types.specs.Subscribers.{attached_all}
use Rattle.resolver_types.specs.Table.{asked_beside, asked_one, is_asked, subscribers_of}
use Rattle.resolver_types.proofs.Undone.{none-of}
use Rattle.resolver_demand.specs.Rows.{IsListed}
use Rattle.resolver_demand.proofs.ListedRows.{attached_all-listed-new, all-insert}
use Rattle.resolver_demand.proofs.subscribers.Tracker.insert_new.Goals as goal

pub invariant_of-self-2 : goal.invariant_of-self-2
invariant_of-self-2 g c =
    let listed : IsListed g.S.Ord.cmp c.in_ok-fresh.fresh = rw c.in_ok-fresh.ensures (attached_all-listed-new g.S.Ord.cmp g.met.S.Ord.total _ c.into_vec.ensures.positive) in
    rw c.in_ok-insert.ensures.entries (all-insert g.S.Ord.cmp _ c.self.inside.demand.entries _ _ listed c.self.invariant)

-- a key that isn't there is put at its place
asked-new : {K S : Type 0} (n : Names K S) (d : List (K × List (S × ℕ))) (key : K) (ss : List (S × ℕ)) → is_asked n d key ≡ false
    → asked_one n d (key, ss) ≡ insert_entry n.key d key (attached_all n.subscriber [] ss)
asked-new n d key ss absent = ap (asked_beside n d (key, ss)) (none-of (subscribers_of n d key) absent)

pub returns-clause-ok : goal.returns-clause-ok
returns-clause-ok g c =
    let fresh : c.in_ok-fresh.fresh ≡ attached_all g.S.Ord.cmp [] c.args.subscribers = c.in_ok-fresh.ensures ∙ ap (attached_all g.S.Ord.cmp []) c.into_vec.ensures.items in
    c.in_ok-insert.ensures.entries
    ∙ ap (insert_entry g.K.Ord.cmp c.self.inside.demand.entries c.args.key) fresh
    ∙ ap (λ d. insert_entry g.K.Ord.cmp d c.args.key (attached_all g.S.Ord.cmp [] c.args.subscribers)) c.self.view_is
    ∙ sym (asked-new (names g.K.Ord.cmp g.S.Ord.cmp) c.args.self.now c.args.key c.args.subscribers c.requires.absent)
