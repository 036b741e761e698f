-- The peers that a fetch may ask: any of them, or those of a list.
use Rattle.std.specs.Prelude.{Bool, List, [], Option, None, Some}
use Rattle.std.specs.Option.{option_map}
use Rattle.resolver_types.specs.Joined.{joined}

-- Two fetches of one key, in turn: any peer will do where one of them names none.
abbrev pub merged_targets : {P : Type 0} → (P → P → Bool) → Option (List P) → Option (List P) → Option (List P)
merged_targets same None theirs = None
merged_targets same (Some mine) None = None
merged_targets same (Some mine) (Some theirs) = Some (joined same mine theirs)

-- The targets of a key once it is fetched again, or for the first time: `was` is none where it is
-- new. Each of its first targets stands once.
abbrev pub targets_after : {P : Type 0} → (P → P → Bool) → Option (Option (List P)) → Option (List P) → Option (List P)
targets_after same None given = option_map (joined same []) given
targets_after same (Some targets) given = merged_targets same targets given
