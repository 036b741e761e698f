use Rattle.std.proofs.Common.{◌≡◌, ◌∙◌, sym, ap, refl, rules, subst, ◌+◌, ◌++◌, ◌∷◌, [], List, true, false, append-nil, append_assoc, cond, drop, drop-cons, get_or, add-one, map}
use Rattle.std.proofs.Math.ListN.{drop_of_length-le}
use Rattle.std.specs.List.{list_any}
use Rattle.std.specs.BTreeMap.{is_at}
use Rattle.resolver_types.specs.Names.{names}
use Rattle.resolver_messages.specs.Waiting.{item_of, kept, keys_kept}
use Rattle.resolver_messages.specs.Places.{IsPlaced}
use Rattle.resolver_messages.proofs.PlacesOfKeys.{place-none, placed-none}
use Rattle.resolver_messages.proofs.Pruned.{absent-next, apart-kept, keys_kept-cons}
use Rattle.resolver_messages.proofs.Right.{flips-by}
use Rattle.resolver_messages.proofs.batch.kept_places.Goals.{then-keeps_any+in_ok-clone+in_ok-insert, else-keeps_any}
use Rattle.resolver_messages.proofs.batch.kept_places.Goals as goal

pub loop-item-init : goal.loop-item-init
loop-item-init g c =
    let none : c.new-places.result ≡ [] = c.new-places.ensures in
    ([], rw none (placed-none g.K.Ord.cmp), refl)

-- the fetches that are left, at an item that is kept
pub insert-requires : goal.insert-requires
insert-requires g c =
    let keep = g.Q.Predicate.keeps c.args.keep.now in
    let n = names g.K.Ord.cmp g.S.Ord.cmp in
    let item = c.item-item.result in
    let rest = drop (c.loop-item.item-index + 1) c.args.batch.now in
    let step : drop c.loop-item.item-index c.args.batch.now ≡ item ∷ rest = drop-cons c.args.batch.now c.loop-item.item-index item c.loop-item-test.true ∙ ap (λ i. get_or c.args.batch.now c.loop-item.item-index item ∷ drop i c.args.batch.now) (sym (add-one c.loop-item.item-index)) ∙ ap (λ x. x ∷ rest) (sym c.item-item.is) in
    let has : list_any (λ s. keep item.key s.0) item.subscribers ≡ true = search rules in
    let next : keys_kept keep (drop c.loop-item.item-index c.args.batch.now) ≡ item.key ∷ keys_kept keep rest = ap (keys_kept keep) step ∙ keys_kept-cons keep item rest ∙ ap (λ b. cond b (item.key ∷ keys_kept keep rest) (keys_kept keep rest)) has in
    let before = c.loop-item.invariant in
    let all = ap (λ keys. before.0 ++ keys) (sym next) ∙ before.2 in
    let absent = absent-next n (flips-by g.K.Ord.cmp g.met.K.Ord.total) (kept keep (map item_of c.args.batch.now)) before.0 item.key (keys_kept keep rest)
    (apart-kept n keep (map item_of c.args.batch.now) c.requires.apart) all in
    let key : c.in_ok-clone.field-0 ≡ item.key = c.requires.keys_clone item.key c.in_ok-clone.field-0 (search rules) in
    record { absent = rw key (before.1.found item.key ∙ place-none (is_at (g.K.Ord.cmp item.key)) 0 before.0 absent) }

pub loop-item-preserved : goal.loop-item-preserved
loop-item-preserved g c =
    let keep = g.Q.Predicate.keeps c.args.keep.now in
    let item = c.item-item.result in
    let rest = drop (c.loop-item.item-index + 1) c.args.batch.now in
    let step : drop c.loop-item.item-index c.args.batch.now ≡ item ∷ rest = drop-cons c.args.batch.now c.loop-item.item-index item c.loop-item-test.true ∙ ap (λ i. get_or c.args.batch.now c.loop-item.item-index item ∷ drop i c.args.batch.now) (sym (add-one c.loop-item.item-index)) ∙ ap (λ x. x ∷ rest) (sym c.item-item.is) in
    let cons = ap (keys_kept keep) step ∙ keys_kept-cons keep item rest in
    let before = c.loop-item.invariant in
    elim c.if-keeps_any.branch [
      | then-keeps_any+in_ok-clone+in_ok-insert w ↦
          let has : list_any (λ s. keep item.key s.0) item.subscribers ≡ true = search rules in
          let key : w.in_ok-clone.field-0 ≡ item.key = c.requires.keys_clone item.key w.in_ok-clone.field-0 (search rules) in
          let next = cons ∙ ap (λ b. cond b (item.key ∷ keys_kept keep rest) (keys_kept keep rest)) has in (
            before.0 ++ w.in_ok-clone.field-0 ∷ [],
            rw w.places-is (w.in_ok-insert.ensures.placed before.0 before.1),
            append_assoc before.0 (w.in_ok-clone.field-0 ∷ []) (keys_kept keep rest)
                ∙ ap (λ k. before.0 ++ k ∷ keys_kept keep rest) key
                ∙ ap (λ keys. before.0 ++ keys) (sym next)
                ∙ before.2,
          )
      | else-keeps_any w ↦
          let has : list_any (λ s. keep item.key s.0) item.subscribers ≡ false = search rules in
          let next = cons ∙ ap (λ b. cond b (item.key ∷ keys_kept keep rest) (keys_kept keep rest)) has in
          (before.0, rw w.places-is before.1, ap (λ keys. before.0 ++ keys) (sym next) ∙ before.2)
    ]

pub returns : goal.returns
returns g c =
    let keep = g.Q.Predicate.keeps c.args.keep.now in
    let before = c.loop-item.invariant in
    let none : drop c.loop-item.item-index c.args.batch.now ≡ [] = drop_of_length-le c.args.batch.now c.loop-item-test.false in
    subst (λ (keys : List g.row.K.Denot). IsPlaced g.K.Ord.cmp c.loop-item.places keys)
    (sym (append-nil before.0) ∙ ap (λ fetches. before.0 ++ keys_kept keep fetches) (sym none) ∙ before.2) before.1
