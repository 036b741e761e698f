-- How a key's subscribers stand: a few in a list, many in a map.
use Rattle.std.specs.Prelude.{ℕ, List}
use Rattle.resolver_demand.specs.declared.subscribers.listed.Form.{Form}
use Rattle.resolver_demand.specs.declared.subscribers.listed.Form.TheVariants.{Few, Many}

-- the subscribers in their order, with their marks
abbrev pub listed_in : {S : Type 0} → Form S → List (S × ℕ)
listed_in (Few list) = list.items
listed_in (Many map) = map.entries
