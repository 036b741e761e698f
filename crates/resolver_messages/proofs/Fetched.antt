-- The targets of a key that some fetches ask for, in a batch and one after another.
use Rattle.std.proofs.Common.{◌≡◌, ◌∙◌, sym, ap, refl, Bool, true, false, cond, List, [], ◌∷◌, ◌++◌, Option, None, Some}
use Rattle.std.specs.Prelude.{◌||◌}
use Rattle.std.specs.List.{list_any}
use Rattle.resolver_types.specs.Joined.{joined, joined_one}
use Rattle.resolver_types.specs.Names.{Names, same_key, same_subscriber}
use Rattle.resolver_types.specs.Targets.{merged_targets, targets_after}
use Rattle.resolver_messages.specs.Waiting.{IsApart, Item, merged_item, queued, queued_all}
use Rattle.resolver_messages.specs.Fetched.{fetched_targets}
use Rattle.resolver_messages.proofs.Right.{apart-queued}

module _ {P : Type 0} (same : P → P → Bool) where
  abbrev has : List P → P → Bool
  has items b = list_any (λ (other : P). same other b) items

  -- one that is there stays there
  has-last : (items : List P) (a b : P) → has items b ≡ true → has (items ++ a ∷ []) b ≡ true
  has-last [] a b h = absurd (let wrong = h in cc)
  has-last (item ∷ items) a b h = cases (λ f. has-last items a b f) (same item b) h where
    cases : (has items b ≡ true → has (items ++ a ∷ []) b ≡ true) → (t : Bool) → (t || has items b) ≡ true → (t || has (items ++ a ∷ []) b) ≡ true
    cases after true f = refl
    cases after false f = after f

  has-one : (items : List P) (a b : P) → has items b ≡ true → has (joined_one same items a) b ≡ true
  has-one items a b h = cases (has items a) where
    cases : (t : Bool) → has (cond t items (items ++ a ∷ [])) b ≡ true
    cases true = h
    cases false = has-last items a b h

  has-more : (items more : List P) (b : P) → has items b ≡ true → has (joined same items more) b ≡ true
  has-more items [] b h = h
  has-more items (a ∷ more) b h = has-more (joined_one same items a) more b (has-one items a b h)

  -- an item that is put last
  has-new : (items : List P) (a b : P) → same a b ≡ true → has (items ++ a ∷ []) b ≡ true
  has-new [] a b h = rw h refl
  has-new (item ∷ items) a b h = cases (has-new items a b h) (same item b) where
    cases : has (items ++ a ∷ []) b ≡ true → (t : Bool) → (t || has (items ++ a ∷ []) b) ≡ true
    cases after true = refl
    cases after false = after

  joined-last : (items more : List P) (b : P) → joined same items (more ++ b ∷ []) ≡ joined_one same (joined same items more) b
  joined-last items [] b = refl
  joined-last items (a ∷ more) b = joined-last (joined_one same items a) more b

  module _ (follows : (a b c : P) → same a b ≡ true → same b c ≡ true → same a c ≡ true) where
    -- what equals an item that is there is there
    has-like : (items : List P) (a b : P) → same a b ≡ true → has items a ≡ true → has items b ≡ true
    has-like [] a b e h = absurd (let wrong = h in cc)
    has-like (item ∷ items) a b e h = cases (λ f. has-like items a b e f) (same item a) refl h where
      later : has items b ≡ true → (u : Bool) → (u || has items b) ≡ true
      later after true = refl
      later after false = after

      cases : (has items a ≡ true → has items b ≡ true) → (t : Bool) → same item a ≡ t → (t || has items a) ≡ true → (same item b || has items b) ≡ true
      cases after true is f = rw (follows item a b is e) refl
      cases after false is f = later (after f) (same item b)

    -- an item of what is joined is there then
    has-joined : (items more : List P) (b : P) → has more b ≡ true → has (joined same items more) b ≡ true
    has-joined items [] b h = absurd (let wrong = h in cc)
    has-joined items (a ∷ more) b h = cases (λ f. has-joined (joined_one same items a) more b f) (same a b) refl h where
      one : same a b ≡ true → (u : Bool) → has items a ≡ u → has (cond u items (items ++ a ∷ [])) b ≡ true
      one is true there = has-like items a b is there
      one is false there = has-new items a b is

      cases : (has more b ≡ true → has (joined same (joined_one same items a) more) b ≡ true) → (t : Bool) → same a b ≡ t → (t || has more b) ≡ true → has (joined same (joined_one same items a) more) b ≡ true
      cases after true is f = has-more (joined_one same items a) more b (one is (has items a) refl)
      cases after false is f = after f

    joined-one : (items more : List P) (b : P) → joined same items (joined_one same more b) ≡ joined_one same (joined same items more) b
    joined-one items more b = cases (has more b) refl where
      there : (t : Bool) → has (joined same items more) b ≡ t → t ≡ true → joined same items more ≡ cond t (joined same items more) (joined same items more ++ b ∷ [])
      there true is h = refl
      there false is h = absurd (let wrong = h in cc)

      cases : (t : Bool) → has more b ≡ t → joined same items (cond t more (more ++ b ∷ [])) ≡ joined_one same (joined same items more) b
      cases true is = there (has (joined same items more) b) refl (has-joined items more b is)
      cases false is = joined-last items more b

    -- lists that are joined in turn
    joined-assoc : (items more others : List P) → joined same items (joined same more others) ≡ joined same (joined same items more) others
    joined-assoc items more [] = refl
    joined-assoc items more (b ∷ others) =
        joined-assoc items (joined_one same more b) others ∙ ap (λ list. joined same list others) (joined-one items more b)

    -- two fetches of a key, as one and one after another
    after-merged : (was : Option (Option (List P))) (mine theirs : Option (List P))
        → targets_after same was (merged_targets same mine theirs) ≡ targets_after same (Some (targets_after same was mine)) theirs
    after-merged None None theirs = refl
    after-merged None (Some mine) None = refl
    after-merged None (Some mine) (Some theirs) = ap Some (joined-assoc [] mine theirs)
    after-merged (Some None) None theirs = refl
    after-merged (Some None) (Some mine) None = refl
    after-merged (Some None) (Some mine) (Some theirs) = refl
    after-merged (Some (Some targets)) None theirs = refl
    after-merged (Some (Some targets)) (Some mine) None = refl
    after-merged (Some (Some targets)) (Some mine) (Some theirs) = ap Some (joined-assoc targets mine theirs)

    module _ {K S : Type 0} (n : Names K S)
        (flips : (a b : K) → same_key n a b ≡ same_key n b a)
        (follows_key : (a b c : K) → same_key n a b ≡ true → same_key n a c ≡ same_key n b c)
        (follows_subscriber : (a b c : S) → same_subscriber n a b ≡ true → same_subscriber n a c ≡ same_subscriber n b c) where
      -- fetches that come behind others
      fetched-behind : (k : K) (was : Option (Option (List P))) (items more : List (Item K S (Option (List P))))
          → fetched_targets n same k was (items ++ more) ≡ fetched_targets n same k (fetched_targets n same k was items) more
      fetched-behind k was [] more = refl
      fetched-behind k was (item ∷ items) more =
          fetched-behind k (cond (same_key n k item.key) (Some (targets_after same was item.metadata)) was) items more

      -- fetches of other keys
      fetched-others : (k a : K) (was : Option (Option (List P))) (items : List (Item K S (Option (List P)))) → same_key n k a ≡ true
          → list_any (λ (other : Item K S (Option (List P))). same_key n a other.key) items ≡ false → fetched_targets n same k was items ≡ was
      fetched-others k a was [] e h = refl
      fetched-others k a was (item ∷ items) e h = cases (λ f. fetched-others k a was items e f) (same_key n a item.key) refl h where
        cases : (list_any (λ (other : Item K S (Option (List P))). same_key n a other.key) items ≡ false → fetched_targets n same k was items ≡ was) → (t : Bool) → same_key n a item.key ≡ t → (t || list_any (λ (other : Item K S (Option (List P))). same_key n a other.key) items) ≡ false
            → fetched_targets n same k (cond (same_key n k item.key) (Some (targets_after same was item.metadata)) was) items ≡ was
        cases after true is f = absurd (let wrong = f in cc)
        cases after false is f = rw (follows_key k a item.key e ∙ is) (after f)

      fetched-queued : (k : K) (was : Option (Option (List P))) (batch : List (Item K S (Option (List P)))) (later : Item K S (Option (List P))) → IsApart n batch
          → fetched_targets n same k was (queued n (merged_targets same) batch later) ≡ fetched_targets n same k was (batch ++ later ∷ [])
      fetched-queued k was [] later apart = refl
      fetched-queued k was (item ∷ batch) later apart =
          cases (fetched-queued k (cond (same_key n k item.key) (Some (targets_after same was item.metadata)) was) batch later apart.1) (same_key n later.key item.key) refl where
            now : Option (Option (List P))
            now = cond (same_key n k item.key) (Some (targets_after same was item.metadata)) was

            hit : (t : Bool) → same_key n k item.key ≡ t → same_key n k later.key ≡ t
                → fetched_targets n same k (cond t (Some (targets_after same was (merged_targets same item.metadata later.metadata))) was) batch
                ≡ cond t (Some (targets_after same (fetched_targets n same k (cond t (Some (targets_after same was item.metadata)) was) batch) later.metadata)) (fetched_targets n same k (cond t (Some (targets_after same was item.metadata)) was) batch)
            hit true is is_later =
                fetched-others k item.key _ batch is apart.0
                ∙ ap Some (after-merged was item.metadata later.metadata)
                ∙ ap (λ targets. Some (targets_after same targets later.metadata)) (sym (fetched-others k item.key (Some (targets_after same was item.metadata)) batch is apart.0))
            hit false is is_later = refl

            cases : fetched_targets n same k now (queued n (merged_targets same) batch later) ≡ fetched_targets n same k now (batch ++ later ∷ []) → (t : Bool) → same_key n later.key item.key ≡ t
                → fetched_targets n same k was (cond t (merged_item n.subscriber (merged_targets same) item later ∷ batch) (item ∷ queued n (merged_targets same) batch later)) ≡ fetched_targets n same k was (item ∷ batch ++ later ∷ [])
            cases after true is =
                let alike : same_key n k later.key ≡ same_key n k item.key = flips k later.key ∙ follows_key later.key item.key k is ∙ flips item.key k in
                hit (same_key n k item.key) refl alike
                ∙ ap (λ (t : Bool). cond t (Some (targets_after same (fetched_targets n same k now batch) later.metadata)) (fetched_targets n same k now batch)) (sym alike)
                ∙ sym (fetched-behind k now batch (later ∷ []))
            cases after false is = after

      pub fetched-queued_all : (k : K) (was : Option (Option (List P))) (batch items : List (Item K S (Option (List P)))) → IsApart n batch
          → fetched_targets n same k was (queued_all n (merged_targets same) batch items) ≡ fetched_targets n same k was (batch ++ items)
      fetched-queued_all k was batch [] apart = sym (fetched-behind k was batch [])
      fetched-queued_all k was batch (later ∷ items) apart =
          fetched-queued_all k was (queued n (merged_targets same) batch later) items (apart-queued n (merged_targets same) flips follows_key follows_subscriber batch later apart)
          ∙ fetched-behind k was (queued n (merged_targets same) batch later) items
          ∙ ap (λ targets. fetched_targets n same k targets items) (fetched-queued k was batch later apart ∙ fetched-behind k was batch (later ∷ []))
          ∙ sym (fetched-behind k was batch (later ∷ items))
