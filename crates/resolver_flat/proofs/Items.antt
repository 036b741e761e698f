-- Names and items, whose proofs of their sizes don't matter.
use Rattle.std.proofs.Common.{◌≡◌, ℕ, ◌<◌, Bool, true, false, ltb, List, length, Some, refl, sym, ap, ◌∙◌, true≢false}
use denote.Struct.Props.{props}
use Rattle.std.proofs.lemmas.Bool.{ltb-true, lt-ltb}
use Rattle.resolver_flat.specs.Naming.{Shape}
use Rattle.resolver_flat.specs.Reading.{◌>>=◌, Reads, item_at, item_if, name_at, some_at, subscriber_at}

if_wanted : {K M : Type 0} (key : K) (subscribers : List (ℕ × ℕ)) (metadata : M) (wanted : 0 < length subscribers) (is : Bool) (e : ltb 0 (length subscribers) ≡ is)
    → item_if key subscribers metadata is e ≡ Some (record { key = key; subscribers = subscribers; metadata = metadata; wanted = wanted })
if_wanted key subscribers metadata wanted true e =
    let one_reason : IsProp (0 < length subscribers) = hlevel props in
    λ i. Some (record { key = key; subscribers = subscribers; metadata = metadata; wanted = one_reason (ltb-true 0 (length subscribers) e) wanted i })
if_wanted key subscribers metadata wanted false e = absurd (true≢false (sym (lt-ltb 0 (length subscribers) wanted) ∙ e))

-- an item is read from its parts
pub item_read : {K M : Type 0} (n : Shape K) (more : Reads M) (bytes after rest left : List ℕ) (key : K) (subscribers : List (ℕ × ℕ)) (metadata : M) (wanted : 0 < length subscribers)
    → name_at n bytes ≡ Some (key, after) → some_at subscriber_at after ≡ Some (subscribers, rest) → more rest ≡ Some (metadata, left)
    → item_at n more bytes ≡ Some (record { key = key; subscribers = subscribers; metadata = metadata; wanted = wanted }, left)
unfolding item_at
item_read n more bytes after rest left key subscribers metadata wanted named listed said =
    rw (named, listed, said) (ap (λ found. found >>= (λ item. Some (item, left))) (if_wanted key subscribers metadata wanted (ltb 0 (length subscribers)) refl))
