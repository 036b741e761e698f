-- How keys and peers compare. Two that are equal need not be identical.
use Rattle.std.specs.Prelude.{Bool, List}
use Rattle.std.specs.List.{list_any}
use Rattle.std.specs.Ordering.{is_eq}
use Rattle.std.specs.declared.cmp.Ordering.{Ordering}

pub record Orders (K P : Type 0) : Type 0 where
  pub key : K → K → Ordering
  pub peer : P → P → Ordering

-- as a clause writes them: `orders K.cmp P.cmp`
abbrev pub orders : {K P : Type 0} → (K → K → Ordering) → (P → P → Ordering) → Orders K P
orders by_key by_peer = record { key = by_key; peer = by_peer }

module _ {K P : Type 0} (o : Orders K P) where
  abbrev pub same_key : K → K → Bool
  same_key k l = is_eq (o.key k l)

  abbrev pub same_peer : P → P → Bool
  same_peer p q = is_eq (o.peer p q)

-- whether a peer is one of some
abbrev pub is_one_of : {P : Type 0} → (P → P → Ordering) → List P → P → Bool
is_one_of by_peer ps p = list_any (λ q. is_eq (by_peer p q)) ps
