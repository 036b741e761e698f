use denote.Param.Always.{mut_by}
use Rattle.std.proofs.Common.{◌≡◌, ◌∙◌, ap, refl, sym, subst, filter, rules}
use Rattle.std.specs.BTreeMap.{is_at}
use Rattle.std.specs.Map.{lookup}
use Rattle.std.specs.Ordering.{nat_cmp}
use Rattle.resolver_sequence.specs.Sequence.{AreKept, IsKeptBy, entries_of}
use Rattle.resolver_sequence.proofs.Slots.{AreKeptBy, entries-left, entries-sorted, fewer-left, found-left, kept-in-turn, kept-left}
use Rattle.resolver_sequence.proofs.sequence.Sequence.retain.Goals as goal

pub retain-requires : goal.retain-requires
retain-requires g c = mut_by _ (λ f. goal.F-IsAlwaysCallable g f.0.now) (λ s a i. i) (λ s a r t i e.
    let same : t.0.now ≡ s.0.now = search rules in
    subst (λ f. goal.F-IsAlwaysCallable g f) (sym same) i) _ c.requires

are : (g : _) (c : goal.After-drop-keep g) → AreKeptBy g.F.Fn c.args.keep c.retain.ensures.filtered.0 c.self.inside.slots.items
are g c =
    kept-in-turn g.F.Fn c.args.keep _ (λ f. f.0.now ≡ c.args.keep)
    (λ f slot b h i t.
    let says : IsKeptBy g.F.Fn f.0.now slot b = search rules in
    let same : h.0.now ≡ f.0.now = search rules in
    (subst (λ k. IsKeptBy g.F.Fn k slot b) i says, same ∙ i))
    _ _ _ _ refl c.retain.ensures.filtered.3

pub invariant_of-self : goal.invariant_of-self
invariant_of-self g c =
    let left = c.retain.ensures.filtered.4 in
    let slots = c.retain.new.self in
    subst (AreKept slots.items) (sym (c.len-self-inside.ensures ∙ slots.ok.0))
    (rw left (kept-left g.F.Fn c.args.keep c.retain.ensures.filtered.0 c.self.inside.slots.items c.self.inside.held c.self.invariant (are g c)))

pub returns-clause-kept : goal.returns-clause-kept
returns-clause-kept g c = λ test pure.
    ap entries_of c.retain.ensures.filtered.4
    ∙ entries-left g.F.Fn c.args.keep test pure c.retain.ensures.filtered.0 c.self.inside.slots.items c.retain.ensures.filtered.2 (are g c)
    ∙ ap (filter (λ e. test e.1)) c.self.view_is

pub returns-clause-fewer : goal.returns-clause-fewer
returns-clause-fewer g c = λ test.
    rw (c.retain.ensures.filtered.4, ← c.self.view_is) (fewer-left g.F.Fn c.args.keep test c.retain.ensures.filtered.0 c.self.inside.slots.items)

pub returns-clause-found : goal.returns-clause-found
returns-clause-found g c = λ number value some.
    ap (lookup (is_at (nat_cmp number))) (sym c.self.view_is)
    ∙ found-left g.F.Fn c.args.keep number value c.retain.ensures.filtered.0 c.self.inside.slots.items c.self.invariant.rising
    (ap (λ slots. lookup (is_at (nat_cmp number)) (entries_of slots)) (sym c.retain.ensures.filtered.4) ∙ some)

pub returns-clause-ordered : goal.returns-clause-ordered
returns-clause-ordered g c =
    let kept = kept-left g.F.Fn c.args.keep c.retain.ensures.filtered.0 c.self.inside.slots.items c.self.inside.held c.self.invariant (are g c) in
    rw c.retain.ensures.filtered.4 (entries-sorted _ kept.rising)
