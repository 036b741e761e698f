use Rattle.std.proofs.Common.{◌≡◌, ◌∙◌, sym, ap, refl, rules, arith, ◌∷◌, ◌++◌, [], drop, length, map}
use Rattle.std.proofs.lemmas.List.{drop-map}
use Rattle.std.specs.Vec.Iter.{into_iter_items}
use Rattle.resolver_types.specs.Names.{names}
use Rattle.resolver_messages.specs.Waiting.{item_of, keys_of_items, queued_all, undone_all}
use Rattle.resolver_types.specs.Undone.{without_each}
use Rattle.resolver_messages.proofs.PlacesOfKeys.{grown-back, grown-longer, grows-none, grows-on}
use Rattle.resolver_messages.proofs.Queue.{length-keys, undone_all-push}
use Rattle.resolver_messages.proofs.batch.put_all.Goals as goal

pub loop-item-init : goal.loop-item-init
loop-item-init g c = record {
  room = search rules;
  makes = search rules;
  back = search rules;
  placed = c.requires.placed;
  grown = grows-none g.K.Ord.cmp (keys_of_items c.args.batch.now.items) (keys_of_items c.args.batch.now.items) c.args.places.now refl;
  counted = search rules;
}

pub loop-item-preserved : goal.loop-item-preserved
loop-item-preserved g c =
    let before = c.loop-item.invariant in
    let left : into_iter_items c.loop-item.item-iterator ≡ c.in-Some.item ∷ into_iter_items c.next.new.self = c.in-Some.ensures.steps.0 in
    let pushed : c.push_reserved.new.self.items ≡ c.loop-item.changes.items ++ c.in-Ok.change ∷ [] = c.push_reserved.ensures.items in
    let put-it = c.in-Ok.ensures.ok in
    let one-less = ap length left in
    record {
      room = omega (arith, one-less, before.room, c.push_reserved.ensures.len, c.push_reserved.ensures.capacity);
      makes = rw put-it (ap (λ items. queued_all (names g.K.Ord.cmp g.S.Ord.cmp) g.M.Metadata.merged (map item_of c.loop-item.batch.items) (map item_of items)) (sym left) ∙ before.makes);
      back = rw pushed (undone_all-push c.loop-item.changes.items c.in-Ok.change c.put.new.batch.items ∙ ap (undone_all c.loop-item.changes.items) c.in-Ok.ensures.undone ∙ before.back);
      placed = c.in-Ok.ensures.placed;
      grown = grows-on g.K.Ord.cmp (keys_of_items c.args.batch.now.items) (keys_of_items c.loop-item.batch.items) (keys_of_items c.put.new.batch.items)
          c.args.places.now c.loop-item.places c.put.new.places before.grown c.in-Ok.ensures.grows;
      counted = before.counted;
    }

pub push_reserved-requires : goal.push_reserved-requires
push_reserved-requires g c =
    let one-less = ap length c.in-Some.ensures.steps.0 in
    omega (arith, one-less, c.loop-item.invariant.room)

pub returns-in-Err-clause-err : goal.returns-in-Err-clause-err
returns-in-Err-clause-err g c = c.take_back.ensures ∙ ap (undone_all c.loop-item.changes.items) c.in-Err.ensures.err ∙ c.loop-item.invariant.back

pub split_at-requires : goal.split_at-requires
split_at-requires g c =
    let before = c.loop-item.invariant in
    let longer = grown-longer g.K.Ord.cmp (keys_of_items c.args.batch.now.items) (keys_of_items c.loop-item.batch.items) c.args.places.now c.loop-item.places before.grown in
    let first = length-keys c.args.batch.now.items in
    let all = length-keys c.loop-item.batch.items in
    let same = ap length c.in-Err.ensures.err in
    omega (arith, before.counted, longer, first, all, same)

pub returns-in-Err-clause-err_places : goal.returns-in-Err-clause-err_places
returns-in-Err-clause-err_places g c =
    let before = c.loop-item.invariant in
    let batch = c.loop-item.batch.items in
    let count = c.len-count.result in
    let added : c.split_at.result.1.now ≡ drop count batch = c.split_at.ensures.back ∙ ap (drop count) (c.as_slice.ensures.value ∙ c.in-Err.ensures.err) in
    let keys : keys_of_items c.split_at.result.1.now ≡ drop count (keys_of_items batch) = ap keys_of_items added ∙ sym (drop-map (λ fetch. fetch.key) count batch) in
    c.forget.ensures
    ∙ ap (λ ks. without_each g.K.Ord.cmp ks c.put.new.places) keys
    ∙ ap (λ places. without_each g.K.Ord.cmp (drop count (keys_of_items batch)) places) c.in-Err.ensures.err_places
    ∙ grown-back g.K.Ord.cmp (keys_of_items c.args.batch.now.items) (keys_of_items batch) c.args.places.now c.loop-item.places count
    (before.counted ∙ sym (length-keys c.args.batch.now.items)) before.grown
