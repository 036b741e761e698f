-- What is called off where keys end, as the entries tell it.
use Rattle.std.specs.Prelude.{ℕ, List, Option, option_map}
use Rattle.std.specs.List.{filter_map}
use Rattle.std.specs.declared.cmp.Ordering.{Ordering}
use Rattle.resolver_delivery.specs.declared.entry.Entry.{Entry}
use Rattle.resolver_delivery.specs.Entries.{Numbered, number_of}
use Rattle.resolver_model_peer.specs.declared.named.Source.{Source}
use Rattle.resolver_model_peer.specs.declared.effects.Effect.{Effect as Told}
use Rattle.resolver_model_peer.specs.declared.effects.Effect.TheVariants as told

abbrev pub canceled : {K P S : Type 0} → Option ℕ → Option (Told K P S)
canceled number = option_map told.Cancel number

module _ {K P S : Type 0} where
  -- the judgements in progress of these keys
  abbrev pub each_canceled : (K → K → Ordering) → Numbered K S (List ℕ) (Source P) ℕ → List K → List (Told K P S)
  each_canceled cmp entries keys = filter_map (λ key. canceled (number_of cmp entries key)) keys

  -- the judgements in progress of all keys
  abbrev pub all_canceled : List (K × Entry (List ℕ) (Source P) ℕ) → List (Told K P S)
  all_canceled keys = filter_map (λ e. canceled e.1.number) keys
