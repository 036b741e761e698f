-- What each word on a demand that is kept as pairs does to the mark of a key and a subscriber.
use Rattle.std.proofs.Common.{◌≡◌, refl, ap, sym, ◌∙◌, ℕ, Bool, true, false, ◌&&◌, cond, List, [], ◌∷◌, ◌++◌, Option, None, Some, is_some}
use Rattle.std.specs.Prelude.{◌||◌}
use Rattle.std.specs.Option.{option_or}
use Rattle.std.specs.Map.{lookup}
use Rattle.std.specs.Cmp.{IsEquivalence}
use Rattle.resolver_model.specs.Lawful.{AnswersAlike}
use Rattle.resolver_types.specs.Names.{Names, same_key, same_subscriber}
use Rattle.resolver_types.specs.Demand.{Pair, is_pair, mark_of, has_pair, added, added_all, pairs_of, kept}
use Rattle.resolver_model.proofs.Marks.{option_or-none, option_or-assoc}

both-true : (a b : Bool) → a && b ≡ true → (a ≡ true) × (b ≡ true)
both-true true true is = (refl, refl)
both-true true false is = cc
both-true false b is = cc

-- where there is no mark, none is kept
pub no_mark : (b : Bool) → let none : Option ℕ = None in none ≡ cond b none none
no_mark true = refl
no_mark false = refl

module _ {K S : Type 0} (n : Names K S) where
  -- of two lists, the first has its say first
  pub mark-append : (d e : List (Pair K S)) (k : K) (s : S) → mark_of n (d ++ e) k s ≡ option_or (mark_of n d k s) (mark_of n e k s)
  mark-append [] e k s = refl
  mark-append (p ∷ d) e k s = at (is_pair n k s p) (mark-append d e k s)
    where
      at : (b : Bool) → mark_of n (d ++ e) k s ≡ option_or (mark_of n d k s) (mark_of n e k s)
          → cond b (Some p.mark) (mark_of n (d ++ e) k s) ≡ option_or (cond b (Some p.mark) (mark_of n d k s)) (mark_of n e k s)
      at true rest = refl
      at false rest = rest

  -- where there is a mark, the key has a pair
  pub has_pair-mark : (d : List (Pair K S)) (k : K) (s : S) (m : ℕ) → mark_of n d k s ≡ Some m → has_pair n d k ≡ true
  has_pair-mark [] k s m is = cc
  has_pair-mark (p ∷ d) k s m is = at (same_key n k p.key) (same_subscriber n s p.subscriber) (has_pair-mark d k s m) is
    where
      at : (a b : Bool) → (mark_of n d k s ≡ Some m → has_pair n d k ≡ true) → cond (a && b) (Some p.mark) (mark_of n d k s) ≡ Some m → a || has_pair n d k ≡ true
      at true b rest is = refl
      at false b rest is = rest is

  module _ (keys : IsEquivalence (same_key n)) (subscribers : IsEquivalence (same_subscriber n)) where
    -- equal names have one mark
    pub mark-same : (d : List (Pair K S)) (k l : K) (s t : S) → same_key n k l ≡ true → same_subscriber n s t ≡ true → mark_of n d k s ≡ mark_of n d l t
    mark-same [] k l s t same_k same_s = refl
    mark-same (p ∷ d) k l s t same_k same_s = rw (keys.congr k l p.key same_k, subscribers.congr s t p.subscriber same_s, mark-same d k l s t same_k same_s) refl

    -- a pair that is there keeps its mark
    pub mark-added : (d : List (Pair K S)) (p : Pair K S) (k : K) (s : S) → mark_of n (added n d p) k s ≡ option_or (mark_of n d k s) (mark_of n (p ∷ []) k s)
    mark-added d p k s = at (mark_of n d p.key p.subscriber) refl
      where
        there : (m : ℕ) → mark_of n d p.key p.subscriber ≡ Some m → (b : Bool) → is_pair n k s p ≡ b → mark_of n d k s ≡ option_or (mark_of n d k s) (cond b (Some p.mark) None)
        there m is true here =
            let same = both-true (same_key n k p.key) (same_subscriber n s p.subscriber) here in
            let found : mark_of n d k s ≡ Some m = mark-same d k p.key s p.subscriber same.0 same.1 ∙ is in
            found ∙ sym (ap (λ o. option_or o (Some p.mark)) found)
        there m is false here = option_or-none (mark_of n d k s)

        at : (o : Option ℕ) → mark_of n d p.key p.subscriber ≡ o → mark_of n (cond (is_some (mark_of n d p.key p.subscriber)) d (d ++ p ∷ [])) k s ≡ option_or (mark_of n d k s) (mark_of n (p ∷ []) k s)
        at None is = ap (λ o. mark_of n (cond (is_some o) d (d ++ p ∷ [])) k s) is ∙ mark-append d (p ∷ []) k s
        at (Some m) is = ap (λ o. mark_of n (cond (is_some o) d (d ++ p ∷ [])) k s) is ∙ there m is (is_pair n k s p) refl

    pub mark-added_all : (d ps : List (Pair K S)) (k : K) (s : S) → mark_of n (added_all n d ps) k s ≡ option_or (mark_of n d k s) (mark_of n ps k s)
    mark-added_all d [] k s = option_or-none (mark_of n d k s)
    mark-added_all d (p ∷ ps) k s =
        mark-added_all (added n d p) ps k s
        ∙ (ap (λ o. option_or o (mark_of n ps k s)) (mark-added d p k s)
        ∙ (option_or-assoc (mark_of n d k s) (mark_of n (p ∷ []) k s) (mark_of n ps k s)
        ∙ ap (option_or (mark_of n d k s)) (sym (mark-append (p ∷ []) ps k s))))

    -- the marks of one key's pairs
    pub mark-pairs_of : (key : K) (ss : List (S × ℕ)) (k : K) (s : S) → mark_of n (pairs_of key ss) k s ≡ cond (same_key n key k) (lookup (same_subscriber n s) ss) None
    mark-pairs_of key [] k s = no_mark (same_key n key k)
    mark-pairs_of key (t ∷ ss) k s = rw (keys.symm k key, mark-pairs_of key ss k s) (at (same_key n key k) (same_subscriber n s t.0))
      where
        at : (a b : Bool) → cond (a && b) (Some t.1) (cond a (lookup (same_subscriber n s) ss) None) ≡ cond a (cond b (Some t.1) (lookup (same_subscriber n s) ss)) None
        at true true = refl
        at true false = refl
        at false b = refl

    -- the marks stay that a predicate keeps
    pub mark-kept : (keep : K → S → Bool) → AnswersAlike n keep → (d : List (Pair K S)) (k : K) (s : S) → mark_of n (kept keep d) k s ≡ cond (keep k s) (mark_of n d k s) None
    mark-kept keep alike [] k s = no_mark (keep k s)
    mark-kept keep alike (p ∷ d) k s = at (keep p.key p.subscriber) refl (is_pair n k s p) refl (keep k s) refl (mark-kept keep alike d k s)
      where
        at : (a : Bool) → keep p.key p.subscriber ≡ a → (b : Bool) → is_pair n k s p ≡ b → (c : Bool) → keep k s ≡ c → mark_of n (kept keep d) k s ≡ cond (keep k s) (mark_of n d k s) None
            → mark_of n (cond a (p ∷ kept keep d) (kept keep d)) k s ≡ cond c (cond b (Some p.mark) (mark_of n d k s)) None
        at true keeps true here true wants rest = ap (λ b. cond b (Some p.mark) (mark_of n (kept keep d) k s)) here
        at true keeps true here false wants rest =
            let same = both-true (same_key n k p.key) (same_subscriber n s p.subscriber) here in
            let answers = alike k p.key s p.subscriber same.0 same.1 in
            let clash : true ≡ false = sym keeps ∙ (answers ∙ wants) in cc
        at false drops true here true wants rest =
            let same = both-true (same_key n k p.key) (same_subscriber n s p.subscriber) here in
            let answers = alike k p.key s p.subscriber same.0 same.1 in
            let clash : true ≡ false = sym wants ∙ (sym answers ∙ drops) in cc
        at false drops true here false wants rest = rest ∙ ap (λ c. cond c (mark_of n d k s) None) wants
        at true keeps false other c wants rest = ap (λ b. cond b (Some p.mark) (mark_of n (kept keep d) k s)) other ∙ (rest ∙ ap (λ c. cond c (mark_of n d k s) None) wants)
        at false drops false other c wants rest = rest ∙ ap (λ c. cond c (mark_of n d k s) None) wants

    -- a key with a pair has a mark
    pub mark-has_pair : (d : List (Pair K S)) (k : K) → has_pair n d k ≡ true → (s : S) × (is_some (mark_of n d k s) ≡ true)
    mark-has_pair [] k is = cc
    mark-has_pair (p ∷ d) k is = at (same_key n k p.key) refl (mark-has_pair d k) is
      where
        behind : (s : S) → is_some (mark_of n d k s) ≡ true → (b : Bool) → is_some (cond b (Some p.mark) (mark_of n d k s)) ≡ true
        behind s found true = refl
        behind s found false = found

        at : (a : Bool) → same_key n k p.key ≡ a → (has_pair n d k ≡ true → (s : S) × (is_some (mark_of n d k s) ≡ true)) → a || has_pair n d k ≡ true
            → (s : S) × (is_some (mark_of n (p ∷ d) k s) ≡ true)
        at true here rest is = (p.subscriber, rw (here, subscribers.refl p.subscriber) refl)
        at false other rest is = ((rest is).0, behind (rest is).0 (rest is).1 (is_pair n k (rest is).0 p))
