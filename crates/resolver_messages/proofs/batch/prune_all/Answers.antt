use Rattle.std.proofs.Common.{◌≡◌, ◌∙◌, sym, ap, arith, Bool, List, [], ◌∷◌, ◌++◌, append_assoc, length, map}
use Rattle.std.proofs.lemmas.List.{map-append}
use Rattle.resolver_messages.specs.declared.message.FetchKey.{FetchKey}
use Rattle.resolver_messages.specs.Waiting.{Item, item_of, kept}
use Rattle.resolver_messages.proofs.Pruned.{kept-cons}
use Rattle.resolver_messages.proofs.batch.prune_all.Goals as goal

module _ {K S M : Type 0} (keep : K → S → Bool) (room : List (FetchKey K S M)) (item : FetchKey K S M) (left rest : List (FetchKey K S M)) (all : List (Item K S M))
    (steps : left ≡ item ∷ rest) (before : map item_of room ++ kept keep (map item_of left) ≡ all) where
  -- what is kept of one more comes behind
  makes-on : (pruned : List (Item K S M)) → pruned ≡ kept keep (item_of item ∷ []) → map item_of room ++ (pruned ++ kept keep (map item_of rest)) ≡ all
  makes-on pruned is =
      ap (λ made. map item_of room ++ (made ++ kept keep (map item_of rest))) is
      ∙ ap (λ made. map item_of room ++ made) (sym (kept-cons keep (item_of item) (map item_of rest)))
      ∙ ap (λ items. map item_of room ++ kept keep (map item_of items)) (sym steps)
      ∙ before

  makes-with : (after : List (FetchKey K S M)) (one : FetchKey K S M) → after ≡ room ++ one ∷ [] → item_of one ∷ [] ≡ kept keep (item_of item ∷ [])
      → map item_of after ++ kept keep (map item_of rest) ≡ all
  makes-with after one put is =
      ap (λ items. map item_of items ++ kept keep (map item_of rest)) put
      ∙ ap (λ items. items ++ kept keep (map item_of rest)) (map-append item_of room (one ∷ []))
      ∙ append_assoc (map item_of room) (item_of one ∷ []) (kept keep (map item_of rest))
      ∙ makes-on (item_of one ∷ []) is

pub loop-item-preserved : goal.loop-item-preserved
loop-item-preserved g c = record {
  room = let one-less = ap length c.in-Some.ensures.steps.0 in omega (arith, one-less, c.loop-item.invariant.room);
  makes = makes-on (g.Q.Predicate.keeps c.args.keep.now) c.loop-item.room.items c.in-Some.item _ _ _ c.in-Some.ensures.steps.0 c.loop-item.invariant.makes [] c.in_default.ensures;
}

pub loop-item-preserved-in-Some-pruned_item : goal.loop-item-preserved-in-Some-pruned_item
loop-item-preserved-in-Some-pruned_item g c = record {
  room = let one-less = ap length c.in-Some.ensures.steps.0 in omega (arith, one-less, c.loop-item.invariant.room, c.push_reserved.ensures.len, c.push_reserved.ensures.capacity);
  makes = makes-with (g.Q.Predicate.keeps c.args.keep.now) c.loop-item.room.items c.in-Some.item _ _ _ c.in-Some.ensures.steps.0 c.loop-item.invariant.makes
      c.push_reserved.new.self.items c.in-Some-pruned_item.item c.push_reserved.ensures.items c.in-Some-pruned_item.ensures;
}
