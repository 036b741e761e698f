-- A plan of wanted keys for one subscriber, and what its calls answer.
use Rattle.std.specs.Prelude.{ℕ, Bool, false, not, ◌&&◌, ◌||◌, List, [], ◌∷◌, Option, None, Some, filter, map, if◌then◌else◌}
use Rattle.std.specs.List.{list_any}
use Rattle.std.specs.BTreeMap.{is_at}
use Rattle.std.specs.BTreeSet.{insert_key}
use Rattle.std.specs.Ordering.{is_lt}
use Rattle.std.specs.declared.cmp.Ordering.{Ordering}
use Rattle.resolver_types.specs.Names.{Names, same_subscriber}
use Rattle.resolver_types.specs.declared.fetch.Fetch.{Fetch}

-- who wants keys, with which mark, and the wanted keys in their order
pub record Plan (K S : Type 0) : Type 0 where
  pub subscriber : S
  pub mark : ℕ
  pub wanted : List K

-- one subscriber, let go from some keys and from all below a bound, if there is one
pub record Without (K S : Type 0) : Type 0 where
  pub subscriber : S
  pub keys : List K
  pub below : Option K

module _ {K : Type 0} (cmp : K → K → Ordering) where
  -- whether a key is one of these
  abbrev pub has : List K → K → Bool
  has keys key = list_any (is_at (cmp key)) keys

  -- whether a key is below a bound, which isn't below itself
  abbrev pub is_below : K → K → Bool
  is_below bound key = is_lt (cmp key bound)

  -- no key is below a bound that isn't there
  abbrev pub is_below_any : Option K → K → Bool
  is_below_any None key = false
  is_below_any (Some bound) key = is_below bound key

  -- with some more keys, each at its place; of equal ones the first stays
  abbrev pub with_keys : List K → List K → List K
  with_keys keys [] = keys
  with_keys keys (key ∷ more) = with_keys (insert_key cmp keys key) more

  -- those of the keys that aren't wanted, in their order, each once
  abbrev pub lacking : List K → List K → List K
  lacking wanted keys = with_keys [] (filter (λ key. not (has wanted key)) keys)

  -- those of the wanted keys that are among the keys
  abbrev pub met : List K → List K → List K
  met wanted keys = filter (has keys) wanted

  -- the wanted keys that aren't
  abbrev pub unmet : List K → List K → List K
  unmet wanted keys = filter (λ key. not (has keys key)) wanted

  -- the wanted keys from a bound on
  abbrev pub from_bound : List K → K → List K
  from_bound wanted bound = filter (λ key. not (is_below bound key)) wanted

module _ {K S : Type 0} where
  -- a fetch of each of some keys, for the plan's subscriber and with the plan's mark
  abbrev pub fetches_of : Plan K S → List K → List (Fetch K S)
  fetches_of plan keys = map (λ key. record { key = key; subscriber = plan.subscriber; mark = plan.mark }) keys

  -- a subscriber that is let go from some keys, if there are any
  abbrev pub without_keys : S → List K → Option (Without K S)
  without_keys subscriber [] = None
  without_keys subscriber (key ∷ keys) = Some (record { subscriber = subscriber; keys = key ∷ keys; below = None })

  -- a subscriber that is let go from all keys below a bound
  abbrev pub without_below : S → K → Without K S
  without_below subscriber bound = record { subscriber = subscriber; keys = []; below = Some bound }

  module _ (cmp : K → K → Ordering) where
    -- the plan that wants some keys more
    abbrev pub wanting : Plan K S → List K → Plan K S
    wanting plan keys = record plan { wanted = with_keys cmp plan.wanted (lacking cmp plan.wanted keys) }

    -- what is fetched then
    abbrev pub fetched : Plan K S → List K → List (Fetch K S)
    fetched plan keys = fetches_of plan (lacking cmp plan.wanted keys)

    -- the plan that has done with some keys
    abbrev pub settled : Plan K S → List K → Plan K S
    settled plan keys = record plan { wanted = unmet cmp plan.wanted keys }

    -- what is let go then
    abbrev pub let_go : Plan K S → List K → Option (Without K S)
    let_go plan keys = without_keys plan.subscriber (met cmp plan.wanted keys)

    -- the plan that has done with all keys below a bound
    abbrev pub settled_below : Plan K S → K → Plan K S
    settled_below plan bound = record plan { wanted = from_bound cmp plan.wanted bound }

    -- what is let go then: all below the bound, if one of them was wanted
    abbrev pub let_go_below : Plan K S → K → Option (Without K S)
    let_go_below plan bound = if list_any (is_below cmp bound) plan.wanted then Some (without_below plan.subscriber bound) else None

    -- whether the subscriber is let go from a key
    abbrev pub is_gone : Without K S → K → Bool
    is_gone without key = has cmp without.keys key || is_below_any cmp without.below key

module _ {K S : Type 0} (n : Names K S) where
  -- every subscriber of every key, but this one of these keys
  abbrev pub keeps : Without K S → K → S → Bool
  keeps without key subscriber = not (same_subscriber n subscriber without.subscriber && is_gone n.key without key)
