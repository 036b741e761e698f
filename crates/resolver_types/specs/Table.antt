-- Who is asked for, as a table: the keys in their order, and for each its subscribers in theirs, with their marks.
use Rattle.std.specs.Prelude.{ℕ, Bool, not, nat_lt, List, [], ◌∷◌, Option, None, Some, is_some, option_and_then, filter, map, length}
use Rattle.std.specs.Map.{keys_of, lookup, set_value, remove_entry}
use Rattle.std.specs.BTreeMap.{insert_entry}
use Rattle.resolver_types.specs.Names.{Names, same_key, same_subscriber}
use Rattle.resolver_types.specs.Subscribers.{attached_all, without}

-- a list of subscribers, if it has any
abbrev pub some_of : {S : Type 0} → List (S × ℕ) → Option (List (S × ℕ))
some_of [] = None
some_of (s ∷ ss) = Some (s ∷ ss)

module _ {K S : Type 0} where
  abbrev pub has_subscribers : K × List (S × ℕ) → Bool
  has_subscribers e = nat_lt 0 (length e.1)

  abbrev pub pruned : (K → S → Bool) → K × List (S × ℕ) → K × List (S × ℕ)
  pruned keep e = (e.0, filter (λ s. keep e.0 s.0) e.1)

  -- only the subscribers that are kept, and the keys that have any then
  abbrev pub kept : (K → S → Bool) → List (K × List (S × ℕ)) → List (K × List (S × ℕ))
  kept keep d = filter has_subscribers (map (pruned keep) d)

  -- the keys that have no subscriber that is kept, in their order
  abbrev pub emptied : (K → S → Bool) → List (K × List (S × ℕ)) → List K
  emptied keep d = keys_of (filter (λ e. not (has_subscribers e)) (map (pruned keep) d))

module _ {K S : Type 0} (n : Names K S) where
  -- a key's subscribers, if it is asked for
  abbrev pub subscribers_of : List (K × List (S × ℕ)) → K → Option (List (S × ℕ))
  subscribers_of d key = lookup (same_key n key) d

  abbrev pub is_asked : List (K × List (S × ℕ)) → K → Bool
  is_asked d key = is_some (subscribers_of d key)

  abbrev pub asked_beside : List (K × List (S × ℕ)) → K × List (S × ℕ) → Option (List (S × ℕ)) → List (K × List (S × ℕ))
  asked_beside d item None = insert_entry n.key d item.0 (attached_all n.subscriber [] item.1)
  asked_beside d item (Some subscribers) = set_value (same_key n item.0) d (attached_all n.subscriber subscribers item.1)

  -- A key that is there takes the subscribers, and one that is there keeps its mark.
  abbrev pub asked_one : List (K × List (S × ℕ)) → K × List (S × ℕ) → List (K × List (S × ℕ))
  asked_one d item = asked_beside d item (subscribers_of d item.0)

  abbrev pub asked : List (K × List (S × ℕ)) → List (K × List (S × ℕ)) → List (K × List (S × ℕ))
  asked d [] = d
  asked d (item ∷ items) = asked (asked_one d item) items

  abbrev pub without_key : K → List (K × List (S × ℕ)) → List (K × List (S × ℕ))
  without_key key d = remove_entry (same_key n key) d

  -- the key has these subscribers from now on
  abbrev pub left_with : K → List (S × ℕ) → List (K × List (S × ℕ)) → List (K × List (S × ℕ))
  left_with key [] d = without_key key d
  left_with key (s ∷ rest) d = set_value (same_key n key) d (s ∷ rest)

  abbrev pub without_these : K → List (S × ℕ) → List (K × List (S × ℕ)) → Option (List (S × ℕ)) → List (K × List (S × ℕ))
  without_these key named d None = d
  without_these key named d (Some subscribers) = left_with key (without n.subscriber named subscribers) d

  -- without the named subscribers of a key
  abbrev pub without_named : K → List (S × ℕ) → List (K × List (S × ℕ)) → List (K × List (S × ℕ))
  without_named key named d = without_these key named d (subscribers_of d key)

  -- the subscribers of a key beside the named ones, if there are any
  abbrev pub rest_of : K → List (S × ℕ) → List (K × List (S × ℕ)) → Option (List (S × ℕ))
  rest_of key named d = option_and_then (λ subscribers. some_of (without n.subscriber named subscribers)) (subscribers_of d key)

  abbrev pub mark_in : Option (List (S × ℕ)) → S → Option ℕ
  mark_in None s = None
  mark_in (Some subscribers) s = lookup (same_subscriber n s) subscribers

  -- the mark of a key and a subscriber
  abbrev pub mark_of : List (K × List (S × ℕ)) → K → S → Option ℕ
  mark_of d k s = mark_in (subscribers_of d k) s
