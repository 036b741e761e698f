-- What targets a key has once some fetches are taken.
use Rattle.std.specs.Prelude.{Bool, List, [], ◌∷◌, Option, Some, if◌then◌else◌}
use Rattle.resolver_types.specs.Names.{Names, same_key}
use Rattle.resolver_types.specs.Targets.{targets_after}
use Rattle.resolver_messages.specs.Waiting.{Item}

-- Of one key: `was` is none where it isn't wanted, and else its targets.
abbrev pub fetched_targets : {K S P : Type 0} → Names K S → (P → P → Bool) → K → Option (Option (List P)) → List (Item K S (Option (List P))) → Option (Option (List P))
fetched_targets n same k was [] = was
fetched_targets n same k was (item ∷ items) = fetched_targets n same k (if same_key n k item.key then Some (targets_after same was item.metadata) else was) items
