-- How keys, subscribers and peers compare. Two that are equal need not be identical.
use Rattle.std.specs.declared.cmp.Ordering.{Ordering}
use Rattle.resolver_types.specs.Names.{Names, names}
use Rattle.resolver_fetch_scan.specs.Orders.{Orders, orders}

pub record Parties (K S P : Type 0) : Type 0 where
  pub key : K → K → Ordering
  pub subscriber : S → S → Ordering
  pub peer : P → P → Ordering

-- as a clause writes them: `parties K.cmp S.cmp P.cmp`
abbrev pub parties : {K S P : Type 0} → (K → K → Ordering) → (S → S → Ordering) → (P → P → Ordering) → Parties K S P
parties by_key by_subscriber by_peer = record { key = by_key; subscriber = by_subscriber; peer = by_peer }

abbrev pub names_of : {K S P : Type 0} → Parties K S P → Names K S
names_of a = names a.key a.subscriber

abbrev pub orders_of : {K S P : Type 0} → Parties K S P → Orders K P
orders_of a = orders a.key a.peer
