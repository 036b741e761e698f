-- What a list of fetches asks for, by look-ups of marks.
use Rattle.std.proofs.Common.{◌≡◌, ◌∙◌, sym, ap, refl, Bool, true, false, ℕ, List, [], ◌∷◌, ◌++◌, Option, None, Some, cond}
use Rattle.std.specs.Prelude.{is_some, ◌&&◌, ◌||◌}
use Rattle.std.specs.List.{list_any}
use Rattle.resolver_types.specs.Names.{Names, same_key, same_subscriber}
use Rattle.resolver_types.specs.Joined.{joined_one}
use Rattle.resolver_types.specs.Subscribers.{joined_subscribers}
use Rattle.resolver_types.specs.Demand.{Pair, added, added_all, mark_of, is_pair, pairs_of}

-- the first, or else the second
abbrev pub or_else : Option ℕ → Option ℕ → Option ℕ
or_else None e = e
or_else (Some x) e = Some x

pub or_else-none : (e : Option ℕ) → or_else e None ≡ e
or_else-none None = refl
or_else-none (Some x) = refl

pub or_else-assoc : (a b c : Option ℕ) → or_else (or_else a b) c ≡ or_else a (or_else b c)
or_else-assoc None b c = refl
or_else-assoc (Some x) b c = refl

-- one that is there hides the second
or_else-some : (a b : Option ℕ) → is_some a ≡ true → or_else a b ≡ a
or_else-some None b h = absurd (let wrong = h in cc)
or_else-some (Some x) b h = refl

or_else-cond : (t : Bool) (m : ℕ) (e : Option ℕ) → or_else (cond t (Some m) None) e ≡ cond t (Some m) e
or_else-cond true m e = refl
or_else-cond false m e = refl

-- a second one that is none, or hidden
hides : (t : Bool) (a : Option ℕ) (m : ℕ) → (t ≡ true → is_some a ≡ true) → or_else a (cond t (Some m) None) ≡ a
hides true a m h = or_else-some a (Some m) (h refl)
hides false a m h = or_else-none a

pub both-true : (a b : Bool) → (a && b) ≡ true → (a ≡ true) × (b ≡ true)
both-true true true h = (refl, refl)
both-true true false h = absurd (let wrong = h in cc)
both-true false b h = absurd (let wrong = h in cc)

module _ {K S : Type 0} (n : Names K S) where
  pub mark_of-append : (d e : List (Pair K S)) (k : K) (s : S) → mark_of n (d ++ e) k s ≡ or_else (mark_of n d k s) (mark_of n e k s)
  mark_of-append [] e k s = refl
  mark_of-append (p ∷ d) e k s = cases (mark_of-append d e k s) (is_pair n k s p) where
    cases : mark_of n (d ++ e) k s ≡ or_else (mark_of n d k s) (mark_of n e k s) → (t : Bool) → cond t (Some p.mark) (mark_of n (d ++ e) k s) ≡ or_else (cond t (Some p.mark) (mark_of n d k s)) (mark_of n e k s)
    cases after true = refl
    cases after false = after

  module _ (follows : (a b c : K) → same_key n a b ≡ true → same_key n a c ≡ same_key n b c)
      (follows_too : (a b c : S) → same_subscriber n a b ≡ true → same_subscriber n a c ≡ same_subscriber n b c) where
    -- equal names have one mark
    pub mark_of-like : (d : List (Pair K S)) (k l : K) (s t : S) → same_key n k l ≡ true → same_subscriber n s t ≡ true → mark_of n d k s ≡ mark_of n d l t
    mark_of-like [] k l s t e f = refl
    mark_of-like (p ∷ d) k l s t e f = rw (follows k l p.key e, follows_too s t p.subscriber f, mark_of-like d k l s t e f) refl

    pub mark_of-added : (d : List (Pair K S)) (p : Pair K S) (k : K) (s : S) → mark_of n (added n d p) k s ≡ or_else (mark_of n d k s) (mark_of n (p ∷ []) k s)
    mark_of-added d p k s = cases (is_some (mark_of n d p.key p.subscriber)) refl where
      cases : (t : Bool) → is_some (mark_of n d p.key p.subscriber) ≡ t → mark_of n (cond t d (d ++ p ∷ [])) k s ≡ or_else (mark_of n d k s) (mark_of n (p ∷ []) k s)
      cases true is = sym (hides (is_pair n k s p) (mark_of n d k s) p.mark (λ h.
          let both = both-true (same_key n k p.key) (same_subscriber n s p.subscriber) h in
          ap is_some (mark_of-like d k p.key s p.subscriber both.0 both.1) ∙ is))
      cases false is = mark_of-append d (p ∷ []) k s

    -- what is asked for first stays
    pub mark_of-added_all : (d ps : List (Pair K S)) (k : K) (s : S) → mark_of n (added_all n d ps) k s ≡ or_else (mark_of n d k s) (mark_of n ps k s)
    mark_of-added_all d [] k s = sym (or_else-none (mark_of n d k s))
    mark_of-added_all d (p ∷ ps) k s =
        mark_of-added_all (added n d p) ps k s
        ∙ ap (λ (m : Option ℕ). or_else m (mark_of n ps k s)) (mark_of-added d p k s)
        ∙ or_else-assoc (mark_of n d k s) (mark_of n (p ∷ []) k s) (mark_of n ps k s)
        ∙ ap (or_else (mark_of n d k s)) (or_else-cond (is_pair n k s p) p.mark (mark_of n ps k s))

    -- the pairs of equal keys
    pub mark_of-pairs-like : (a b : K) (ss : List (S × ℕ)) (k : K) (s : S) → same_key n k a ≡ same_key n k b → mark_of n (pairs_of a ss) k s ≡ mark_of n (pairs_of b ss) k s
    mark_of-pairs-like a b [] k s e = refl
    mark_of-pairs-like a b (t ∷ ss) k s e = rw (e, mark_of-pairs-like a b ss k s e) refl

    -- another key's pairs have no mark
    pub mark_of-pairs-other : (a : K) (ss : List (S × ℕ)) (k : K) (s : S) → same_key n k a ≡ false → mark_of n (pairs_of a ss) k s ≡ None
    mark_of-pairs-other a [] k s e = refl
    mark_of-pairs-other a (t ∷ ss) k s e = rw (e) (mark_of-pairs-other a ss k s e)

    -- one that is listed has a mark
    listed-marked : (a : K) (ts : List (S × ℕ)) (one : S × ℕ) (k : K) (s : S) → same_key n k a ≡ true → same_subscriber n s one.0 ≡ true
        → list_any (λ (other : S × ℕ). same_subscriber n one.0 other.0) ts ≡ true → is_some (mark_of n (pairs_of a ts) k s) ≡ true
    listed-marked a [] one k s e f h = absurd (let wrong = h in cc)
    listed-marked a (t ∷ ts) one k s e f h = rw (e, follows_too s one.0 t.0 f) (cases (listed-marked a ts one k s e f) (same_subscriber n one.0 t.0) refl h) where
      cases : (list_any (λ (other : S × ℕ). same_subscriber n one.0 other.0) ts ≡ true → is_some (mark_of n (pairs_of a ts) k s) ≡ true)
          → (b : Bool) → same_subscriber n one.0 t.0 ≡ b → (b || list_any (λ (other : S × ℕ). same_subscriber n one.0 other.0) ts) ≡ true
          → is_some (cond b (Some t.1) (mark_of n (pairs_of a ts) k s)) ≡ true
      cases after true is listed = refl
      cases after false is listed = after listed

    mark_of-joined_one : (a : K) (ts : List (S × ℕ)) (one : S × ℕ) (k : K) (s : S)
        → mark_of n (pairs_of a (joined_one (λ (other one : S × ℕ). same_subscriber n one.0 other.0) ts one)) k s
        ≡ or_else (mark_of n (pairs_of a ts) k s) (mark_of n (pairs_of a (one ∷ [])) k s)
    mark_of-joined_one a ts one k s = cases (list_any (λ (other : S × ℕ). same_subscriber n one.0 other.0) ts) refl where
      pairs-append : (us vs : List (S × ℕ)) → pairs_of a (us ++ vs) ≡ pairs_of a us ++ pairs_of a vs
      pairs-append [] vs = refl
      pairs-append (u ∷ us) vs = rw (pairs-append us vs) refl

      cases : (b : Bool) → list_any (λ (other : S × ℕ). same_subscriber n one.0 other.0) ts ≡ b
          → mark_of n (pairs_of a (cond b ts (ts ++ one ∷ []))) k s ≡ or_else (mark_of n (pairs_of a ts) k s) (mark_of n (pairs_of a (one ∷ [])) k s)
      cases true is = sym (hides (same_key n k a && same_subscriber n s one.0) (mark_of n (pairs_of a ts) k s) one.1 (λ h.
          let both = both-true (same_key n k a) (same_subscriber n s one.0) h in
          listed-marked a ts one k s both.0 both.1 is))
      cases false is = rw (pairs-append ts (one ∷ [])) (mark_of-append (pairs_of a ts) (pairs_of a (one ∷ [])) k s)

    pub mark_of-joined : (a : K) (ts us : List (S × ℕ)) (k : K) (s : S)
        → mark_of n (pairs_of a (joined_subscribers n.subscriber ts us)) k s ≡ or_else (mark_of n (pairs_of a ts) k s) (mark_of n (pairs_of a us) k s)
    mark_of-joined a ts [] k s = sym (or_else-none (mark_of n (pairs_of a ts) k s))
    mark_of-joined a ts (u ∷ us) k s =
        mark_of-joined a (joined_one (λ (other one : S × ℕ). same_subscriber n one.0 other.0) ts u) us k s
        ∙ ap (λ (m : Option ℕ). or_else m (mark_of n (pairs_of a us) k s)) (mark_of-joined_one a ts u k s)
        ∙ or_else-assoc (mark_of n (pairs_of a ts) k s) (mark_of n (pairs_of a (u ∷ [])) k s) (mark_of n (pairs_of a us) k s)
        ∙ ap (or_else (mark_of n (pairs_of a ts) k s)) (or_else-cond (same_key n k a && same_subscriber n s u.0) u.1 (mark_of n (pairs_of a us) k s))
