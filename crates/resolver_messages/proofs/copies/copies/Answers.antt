use Rattle.std.proofs.Common.{◌≡◌, ◌∙◌, ◌+◌, ◌<◌, sym, ap, ℕ, List, [], ◌∷◌, ◌++◌, get_or, length, map, take}
use Rattle.std.proofs.lemmas.List.{map-append, take_more}
use Rattle.resolver_messages.specs.declared.message.FetchKey.{FetchKey}
use Rattle.resolver_messages.specs.Waiting.{item_of}
use Rattle.resolver_messages.proofs.copies.copies.Goals as goal

-- one more is there again
one-more : {K S M : Type 0} (items before after : List (FetchKey K S M)) (i : ℕ) (item copy : FetchKey K S M) → i < length items → item ≡ get_or items i item
    → item_of copy ≡ item_of item → after ≡ before ++ copy ∷ [] → map item_of before ≡ map item_of (take i items) → map item_of after ≡ map item_of (take (i + 1) items)
one-more items before after i item copy less is same put so-far =
    ap (map item_of) put
    ∙ map-append item_of before (copy ∷ [])
    ∙ ap (λ done. done ++ item_of copy ∷ []) so-far
    ∙ ap (λ one. map item_of (take i items) ++ one ∷ []) (same ∙ ap item_of is)
    ∙ sym (map-append item_of (take i items) (get_or items i item ∷ []))
    ∙ ap (map item_of) (sym (take_more items i item less))

pub loop-item-preserved : goal.loop-item-preserved
loop-item-preserved g c = one-more c.args.items.now c.loop-item.copies.items c.push.new.self.items c.loop-item.item-index c.item-item.result c.in_ok-copy.field-0
    c.loop-item-test.true c.item-item.is c.in_ok-copy.ensures.same c.in_ok-push.ensures.items c.loop-item.invariant
