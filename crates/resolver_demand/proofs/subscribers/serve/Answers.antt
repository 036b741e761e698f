use Rattle.std.proofs.Common.{◌≡◌, ◌∙◌, ◌<◌, None, Some, [], length, rules, sym, ap}
use Rattle.std.specs.Map.{lookup, remove_entry, set_value}
use Rattle.std.specs.BTreeMap.{insert_entry, is_at}
use Rattle.std.specs.BTreeMap.Entry.{entry_value}
use Rattle.resolver_types.specs.Names.{names}
use Rattle.resolver_types.specs.Subscribers.{without}
use Rattle.resolver_types.specs.Table.{without_named}
use Rattle.resolver_demand.specs.Rows.{AreListed, IsListed}
use Rattle.resolver_demand.proofs.Held.{insert_entry-there, remove_entry-absent}
use Rattle.resolver_demand.proofs.ListedRows.{all-remove, all-set, listed-of, without-listed}
use Rattle.resolver_demand.proofs.Served.{named-absent, named-none, named-some, rest-absent, rest-none, rest-some}
use Rattle.resolver_demand.proofs.subscribers.serve.Goals as goal

injective : {A : Type 0} (a b : A) → Some a ≡ Some b → a ≡ b
injective a b same = cc

-- some are left

there : (g : _) (c : goal.Joined-named-2 g) → lookup (is_at (g.K.Ord.cmp c.args.key)) c.args.demand.now.entries ≡ Some c.into_mut.result.now
there g c = sym c.in_ok-place.ensures.value ∙ ap entry_value c.in-Occupied.is ∙ c.into_mut.ensures.value

left : (g : _) (c : goal.Joined-named-2 g) → (c.in-Some.rest ≡ without g.S.Ord.cmp c.args.delivered.now c.into_mut.result.now) × (0 < length c.in-Some.rest)
left g c =
    let others = rw c.in-Some.is at c.in_ok-rest-in-Occupied.ensures in
    let same = injective c.get.result.now c.into_mut.result.now (sym c.get.ensures ∙ c.into_mut.ensures.value) in
    (others.0 ∙ ap (λ named. without g.S.Ord.cmp named c.get.result.now) c.in_ok-named-in-Occupied.ensures ∙ ap (without g.S.Ord.cmp c.args.delivered.now) same, others.1)

some : (g : _) (c : goal.Joined-named-2 g) → 0 < length (without g.S.Ord.cmp c.args.delivered.now c.into_mut.result.now)
some g c = rw (← (left g c).0) (left g c).1

-- the key has what is left as its subscribers
left_is : (g : _) (c : goal.Joined-named-2 g) → insert_entry g.K.Ord.cmp c.args.demand.now.entries c.args.key (without g.S.Ord.cmp c.args.delivered.now c.into_mut.result.now)
    ≡ set_value (is_at (g.K.Ord.cmp c.args.key)) c.args.demand.now.entries (without g.S.Ord.cmp c.args.delivered.now c.into_mut.result.now)
left_is g c = insert_entry-there g.met.K.Ord.total c.args.key c.into_mut.result.now _ c.args.demand.now.entries c.entry.ensures.ordered (there g c)

-- what is left are subscribers in their order
left_listed : (g : _) (c : goal.Joined-named-2 g) → IsListed g.S.Ord.cmp (without g.S.Ord.cmp c.args.delivered.now c.into_mut.result.now)
left_listed g c =
    let before = listed-of g.S.Ord.cmp (is_at (g.K.Ord.cmp c.args.key)) c.args.demand.now.entries c.into_mut.result.now c.requires.listed (there g c) in
    without-listed g.S.Ord.cmp c.args.delivered.now c.into_mut.result.now before (some g c)

pub returns-in-Some-clause-ok : goal.returns-in-Some-clause-ok
returns-in-Some-clause-ok g c =
    let m = c.args.demand.now.entries in
    let left = without g.S.Ord.cmp c.args.delivered.now c.into_mut.result.now in
    let whole = named-some (names g.K.Ord.cmp g.S.Ord.cmp) c.args.key c.args.delivered.now m c.into_mut.result.now (there g c) (some g c) in
    let go : (es : _) → es ≡ insert_entry g.K.Ord.cmp m c.args.key left → es ≡ without_named (names g.K.Ord.cmp g.S.Ord.cmp) c.args.key c.args.delivered.now m
    = λ es is. is ∙ left_is g c ∙ sym whole in
    go _ (search rules)

pub returns-in-Some-clause-rest : goal.returns-in-Some-clause-rest
returns-in-Some-clause-rest g c = ap Some (left g c).0
    ∙ sym (rest-some (names g.K.Ord.cmp g.S.Ord.cmp) c.args.key c.args.delivered.now c.args.demand.now.entries c.into_mut.result.now (there g c) (some g c))

pub returns-in-Some-clause-rest_listed : goal.returns-in-Some-clause-rest_listed
returns-in-Some-clause-rest_listed g c = rw (left g c).0 (left_listed g c)

pub returns-in-Some-clause-listed : goal.returns-in-Some-clause-listed
returns-in-Some-clause-listed g c =
    let m = c.args.demand.now.entries in
    let left = without g.S.Ord.cmp c.args.delivered.now c.into_mut.result.now in
    let go : (es : _) → es ≡ insert_entry g.K.Ord.cmp m c.args.key left → AreListed g.S.Ord.cmp es
    = λ es is. rw (is ∙ left_is g c) (all-set g.S.Ord.cmp (is_at (g.K.Ord.cmp c.args.key)) m left (left_listed g c) c.requires.listed) in
    go _ (search rules)

-- none is left

found : (g : _) (c : goal.Joined-named-3 g) → lookup (is_at (g.K.Ord.cmp c.args.key)) c.args.demand.now.entries ≡ Some c.get.result.now
found g c = sym c.in_ok-place.ensures.value ∙ ap entry_value c.in-Occupied.is ∙ c.get.ensures

none : (g : _) (c : goal.Joined-named-3 g) → without g.S.Ord.cmp c.args.delivered.now c.get.result.now ≡ []
none g c = rw (← c.in_ok-named-in-Occupied.ensures) (rw c.in-None.is at c.in_ok-rest-in-Occupied.ensures)

pub returns-in-Occupied-clause-ok : goal.returns-in-Occupied-clause-ok
returns-in-Occupied-clause-ok g c =
    let m = c.args.demand.now.entries in
    let whole = named-none (names g.K.Ord.cmp g.S.Ord.cmp) c.args.key c.args.delivered.now m c.get.result.now (found g c) (none g c) in
    let go : (es : _) → es ≡ remove_entry (is_at (g.K.Ord.cmp c.args.key)) m → es ≡ without_named (names g.K.Ord.cmp g.S.Ord.cmp) c.args.key c.args.delivered.now m
    = λ es is. is ∙ sym whole in
    go _ (search rules)

pub returns-in-Occupied-clause-rest : goal.returns-in-Occupied-clause-rest
returns-in-Occupied-clause-rest g c =
    sym (rest-none (names g.K.Ord.cmp g.S.Ord.cmp) c.args.key c.args.delivered.now c.args.demand.now.entries c.get.result.now (found g c) (none g c))

pub returns-in-Occupied-clause-listed : goal.returns-in-Occupied-clause-listed
returns-in-Occupied-clause-listed g c =
    let m = c.args.demand.now.entries in
    let at = is_at (g.K.Ord.cmp c.args.key) in
    let go : (es : _) → es ≡ remove_entry at m → AreListed g.S.Ord.cmp es = λ es is. rw is (all-remove g.S.Ord.cmp at m c.requires.listed) in
    go _ (search rules)

-- the key isn't there

absent : (g : _) (c : goal.Joined-remove-2 g) → lookup (is_at (g.K.Ord.cmp c.args.key)) c.args.demand.now.entries ≡ None
absent g c = rw c.in-Vacant.is at c.in_ok-place.ensures.found

pub returns-clause-ok : goal.returns-clause-ok
returns-clause-ok g c =
    let m = c.args.demand.now.entries in
    let at = is_at (g.K.Ord.cmp c.args.key) in
    let whole = named-absent (names g.K.Ord.cmp g.S.Ord.cmp) c.args.key c.args.delivered.now m (absent g c) in
    let go : (es : _) → es ≡ remove_entry at m → es ≡ without_named (names g.K.Ord.cmp g.S.Ord.cmp) c.args.key c.args.delivered.now m
    = λ es is. is ∙ remove_entry-absent at m (absent g c) ∙ sym whole in
    go _ (search rules)

pub returns-clause-rest : goal.returns-clause-rest
returns-clause-rest g c = sym (rest-absent (names g.K.Ord.cmp g.S.Ord.cmp) c.args.key c.args.delivered.now c.args.demand.now.entries (absent g c))

pub returns-clause-listed : goal.returns-clause-listed
returns-clause-listed g c =
    let m = c.args.demand.now.entries in
    let at = is_at (g.K.Ord.cmp c.args.key) in
    let go : (es : _) → es ≡ remove_entry at m → AreListed g.S.Ord.cmp es = λ es is. rw is (all-remove g.S.Ord.cmp at m c.requires.listed) in
    go _ (search rules)
