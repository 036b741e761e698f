use Rattle.std.proofs.Common.{◌≡◌, ap, refl, rules, None, Some, ◌∷◌, ◌++◌, []}
use Rattle.std.specs.List.{position}
use Rattle.std.specs.Map.{lookup}
use Rattle.std.specs.BTreeMap.{is_at}
use Rattle.resolver_types.specs.Names.{names}
use Rattle.resolver_messages.specs.Waiting.{item_of, keys_of_items}
use Rattle.resolver_messages.proofs.PlacesOfKeys.{absent-key, found-key, grows-none}
use Rattle.resolver_messages.proofs.Queue.{keys-present, keys-pushed, queued-absent, queued-present, set-back, undone-push, within-batch}
use Rattle.resolver_messages.proofs.batch.put.Goals as goal

-- a new key

pub returns-in_default-clause-ok : goal.returns-in_default-clause-ok
returns-in_default-clause-ok g c =
    let absent : lookup (is_at (g.K.Ord.cmp c.args.item.key)) c.args.places.now ≡ None = search rules in
    let pushed : c.push_reserved.new.self.items ≡ c.args.batch.now.items ++ c.args.item ∷ [] = search rules in
    rw pushed (queued-absent (names g.K.Ord.cmp g.S.Ord.cmp) g.M.Metadata.merged c.args.batch.now.items c.args.item
    (absent-key g.K.Ord.cmp c.args.places.now (keys_of_items c.args.batch.now.items) c.args.item.key c.requires.placed absent))

pub returns-in_default-clause-undone : goal.returns-in_default-clause-undone
returns-in_default-clause-undone g c =
    let pushed : c.push_reserved.new.self.items ≡ c.args.batch.now.items ++ c.args.item ∷ [] = search rules in
    rw pushed (undone-push c.args.batch.now.items c.args.item)

pub returns-in_default-clause-placed : goal.returns-in_default-clause-placed
returns-in_default-clause-placed g c =
    let pushed : c.push_reserved.new.self.items ≡ c.args.batch.now.items ++ c.args.item ∷ [] = search rules in
    rw (keys-pushed c.args.batch.now.items c.push_reserved.new.self.items c.args.item c.args.item.key pushed refl)
    (c.in_ok-make_place.ensures.placed (keys_of_items c.args.batch.now.items) c.requires.placed)

pub returns-in_default-clause-grows : goal.returns-in_default-clause-grows
returns-in_default-clause-grows g c =
    let pushed : c.push_reserved.new.self.items ≡ c.args.batch.now.items ++ c.args.item ∷ [] = search rules in (
      c.args.item.key ∷ [],
      keys-pushed c.args.batch.now.items c.push_reserved.new.self.items c.args.item c.args.item.key pushed refl,
      c.in_ok-make_place.ensures.back,
    )

-- a key that is there

pub index-requires : goal.index-requires
index-requires g c =
    let found : lookup (is_at (g.K.Ord.cmp c.args.item.key)) c.args.places.now ≡ Some c.in-Some.place = search rules in
    search (rules, within-batch g.K.Ord.cmp c.args.places.now c.args.batch.now.items c.args.item.key c.in-Some.place c.requires.placed found)

pub index_mut-requires : goal.index_mut-requires
index_mut-requires g c =
    let found : lookup (is_at (g.K.Ord.cmp c.args.item.key)) c.args.places.now ≡ Some c.in-Some.place = search rules in
    search (rules, within-batch g.K.Ord.cmp c.args.places.now c.args.batch.now.items c.args.item.key c.in-Some.place c.requires.placed found)

pub returns-clause-ok : goal.returns-clause-ok
returns-clause-ok g c =
    let found : lookup (is_at (g.K.Ord.cmp c.args.item.key)) c.args.places.now ≡ Some c.in-Some.place = search rules in
    let stands : position (is_at (g.K.Ord.cmp c.args.item.key)) (keys_of_items c.args.batch.now.items) ≡ Some c.in-Some.place =
    found-key g.K.Ord.cmp c.args.places.now (keys_of_items c.args.batch.now.items) c.args.item.key c.in-Some.place c.requires.placed found in
    let put : c.replace-was.new.dest ≡ c.in_ok-both.both = search rules in
    rw put (queued-present (names g.K.Ord.cmp g.S.Ord.cmp) g.M.Metadata.merged c.args.batch.now.items (item_of c.args.item) c.in-Some.place c.index.result.now c.in_ok-both.both stands c.index.ensures c.in_ok-both.ensures.both)

pub returns-clause-undone : goal.returns-clause-undone
returns-clause-undone g c =
    let was : c.replace-was.result ≡ c.index_mut.result.now = c.replace-was.ensures.value in
    rw was (set-back c.args.batch.now.items c.in-Some.place c.replace-was.new.dest c.index_mut.result.now c.index_mut.ensures.value)

pub returns-clause-placed : goal.returns-clause-placed
returns-clause-placed g c =
    let put : c.replace-was.new.dest ≡ c.in_ok-both.both = search rules in
    rw (put, keys-present c.args.batch.now.items c.in-Some.place c.index.result.now c.in_ok-both.both c.index.ensures (ap (λ item. item.key) c.in_ok-both.ensures.both)) c.requires.placed

pub returns-clause-grows : goal.returns-clause-grows
returns-clause-grows g c =
    let put : c.replace-was.new.dest ≡ c.in_ok-both.both = search rules in
    rw put (grows-none g.K.Ord.cmp (keys_of_items c.args.batch.now.items) _ c.args.places.now
    (keys-present c.args.batch.now.items c.in-Some.place c.index.result.now c.in_ok-both.both c.index.ensures (ap (λ item. item.key) c.in_ok-both.ensures.both)))
