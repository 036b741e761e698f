-- What each word on the table of who is asked for does to the mark of a key and a subscriber.
use Rattle.std.proofs.Common.{◌≡◌, refl, ap, sym, ◌∙◌, subst, ℕ, Bool, true, false, not, ◌&&◌, cond, List, [], ◌∷◌, map, Option, None, Some}
use Rattle.std.specs.Prelude.{nat_lt, length}
use Rattle.std.specs.List.{IsDistinct}
use Rattle.std.specs.Map.{lookup, keys_of}
use Rattle.std.specs.Cmp.{IsEquivalence}
use Rattle.std.proofs.Common.{arith}
use Rattle.std.specs.Prelude.{⊤}
use Rattle.std.specs.Option.{option_or}
use Rattle.resolver_types.specs.Table.{asked_one, asked_beside}
use Rattle.resolver_model.proofs.Rows.{lookup-inserted}
use Rattle.std.specs.Cmp.{IsTotalOrder}
use Rattle.std.specs.BTreeMap.{is_at}
use Rattle.std.specs.Ordering.{match_ordering, is_eq, ordering_reverse}
use Rattle.std.specs.declared.cmp.Ordering.{Ordering}
use Rattle.std.specs.declared.cmp.Ordering.TheVariants.{Less, Equal, Greater}
use Rattle.resolver_types.specs.Subscribers.{attached, attached_all}
use Rattle.resolver_model.specs.Lawful.{Each}
use Rattle.resolver_model.proofs.Deliveries.{Each-imply, Each-found}
use Rattle.std.proofs.lemmas.Bool.{lt-ltb}
use Rattle.std.proofs.lemmas.Map.Entries.{lookup-filter-values, lookup-filter-keys, option_filter}
use Rattle.resolver_types.specs.Names.{Names, same_key, same_subscriber}
use Rattle.resolver_types.specs.Subscribers.{is_among, without}
use Rattle.resolver_types.specs.Table.{mark_in, mark_of, kept, pruned, without_key, without_named, without_these, left_with}
use Rattle.resolver_model.proofs.Rows.{lookup-set, lookup-removed, lookup-same}

equal_of : (o : Ordering) → is_eq o ≡ true → o ≡ Equal
equal_of Less is = cc
equal_of Equal is = refl
equal_of Greater is = cc

pub option_or-none : {X : Type 0} (o : Option X) → o ≡ option_or o None
option_or-none None = refl
option_or-none (Some x) = refl

pub option_or-assoc : {X : Type 0} (o p q : Option X) → option_or (option_or o p) q ≡ option_or o (option_or p q)
option_or-assoc None p q = refl
option_or-assoc (Some x) p q = refl

module _ {S : Type 0} (cmp : S → S → Ordering) (order : IsTotalOrder cmp) where
  -- subscribers in their order
  abbrev pub Rising : List (S × ℕ) → Type 0
  Rising [] = ⊤
  Rising (t ∷ ts) = Each (λ u. cmp t.0 u.0 ≡ Less) ts × Rising ts

  Each-attached : (P : S × ℕ → Type 0) (ts : List (S × ℕ)) (s : S × ℕ) → Each P ts → P s → Each P (attached cmp ts s)
  Each-attached P [] s ps p = (p, tt)
  Each-attached P (t ∷ ts) s ps p = at (Each-attached P ts s ps.1 p) (cmp s.0 t.0)
    where
      at : Each P (attached cmp ts s) → (o : Ordering) → Each P (match_ordering o (s ∷ t ∷ ts) (t ∷ ts) (t ∷ attached cmp ts s))
      at rest Less = (p, ps)
      at rest Equal = ps
      at rest Greater = (ps.0, rest)

  pub Rising-attached : (ts : List (S × ℕ)) (s : S × ℕ) → Rising ts → Rising (attached cmp ts s)
  Rising-attached [] s rising = (tt, tt)
  Rising-attached (t ∷ ts) s rising = at (Rising-attached ts s rising.1) (cmp s.0 t.0) refl
    where
      at : Rising (attached cmp ts s) → (o : Ordering) → cmp s.0 t.0 ≡ o → Rising (match_ordering o (s ∷ t ∷ ts) (t ∷ ts) (t ∷ attached cmp ts s))
      at rest Less is = ((is, Each-imply (λ u. cmp t.0 u.0 ≡ Less) (λ u. cmp s.0 u.0 ≡ Less) (λ u less. order.trans s.0 t.0 u.0 is less) ts rising.0), rising)
      at rest Equal is = rising
      at rest Greater is = (Each-attached (λ u. cmp t.0 u.0 ≡ Less) ts s rising.0 (order.antisymm t.0 s.0 ∙ ap ordering_reverse is), rest)

  lookup-above : (q : S) (ts : List (S × ℕ)) → Each (λ u. cmp q u.0 ≡ Less) ts → lookup (is_at (cmp q)) ts ≡ None
  lookup-above q [] above = refl
  lookup-above q (t ∷ ts) above = rw above.0 (lookup-above q ts above.1)

  -- one that is there keeps its mark
  pub lookup-attached : (q : S) (ts : List (S × ℕ)) (s : S × ℕ) → Rising ts
      → lookup (is_at (cmp q)) (attached cmp ts s) ≡ option_or (lookup (is_at (cmp q)) ts) (lookup (is_at (cmp q)) (s ∷ []))
  lookup-attached q [] s rising = refl
  lookup-attached q (t ∷ ts) s rising = at (lookup-attached q ts s rising.1) (cmp s.0 t.0) refl
    where
      like_s : is_eq (cmp q s.0) ≡ true → cmp q t.0 ≡ cmp s.0 t.0
      like_s same = order.congr q s.0 t.0 (equal_of (cmp q s.0) same)

      none : cmp s.0 t.0 ≡ Less → is_eq (cmp q s.0) ≡ true → lookup (is_at (cmp q)) (t ∷ ts) ≡ None
      none less same =
          lookup-above q (t ∷ ts)
          (like_s same ∙ less, Each-imply (λ u. cmp t.0 u.0 ≡ Less) (λ u. cmp q u.0 ≡ Less) (λ u above. order.trans q t.0 u.0 (like_s same ∙ less) above) ts rising.0)

      before : cmp s.0 t.0 ≡ Less → (a : Bool) → is_eq (cmp q s.0) ≡ a
          → cond a (Some s.1) (lookup (is_at (cmp q)) (t ∷ ts)) ≡ option_or (lookup (is_at (cmp q)) (t ∷ ts)) (cond a (Some s.1) None)
      before less true same = sym (ap (λ o. option_or o (Some s.1)) (none less same))
      before less false same = option_or-none (lookup (is_at (cmp q)) (t ∷ ts))

      there : cmp s.0 t.0 ≡ Equal → (a : Bool) → is_eq (cmp q s.0) ≡ a
          → lookup (is_at (cmp q)) (t ∷ ts) ≡ option_or (lookup (is_at (cmp q)) (t ∷ ts)) (cond a (Some s.1) None)
      there equal true same = found ∙ sym (ap (λ o. option_or o (Some s.1)) found)
        where
          found : lookup (is_at (cmp q)) (t ∷ ts) ≡ Some t.1
          found = ap (λ o. cond (is_eq o) (Some t.1) (lookup (is_at (cmp q)) ts)) (like_s same ∙ equal)
      there equal false same = option_or-none (lookup (is_at (cmp q)) (t ∷ ts))

      behind : lookup (is_at (cmp q)) (attached cmp ts s) ≡ option_or (lookup (is_at (cmp q)) ts) (lookup (is_at (cmp q)) (s ∷ [])) → (b : Bool)
          → cond b (Some t.1) (lookup (is_at (cmp q)) (attached cmp ts s)) ≡ option_or (cond b (Some t.1) (lookup (is_at (cmp q)) ts)) (lookup (is_at (cmp q)) (s ∷ []))
      behind rest true = refl
      behind rest false = rest

      at : lookup (is_at (cmp q)) (attached cmp ts s) ≡ option_or (lookup (is_at (cmp q)) ts) (lookup (is_at (cmp q)) (s ∷ []))
          → (o : Ordering) → cmp s.0 t.0 ≡ o
          → lookup (is_at (cmp q)) (match_ordering o (s ∷ t ∷ ts) (t ∷ ts) (t ∷ attached cmp ts s)) ≡ option_or (lookup (is_at (cmp q)) (t ∷ ts)) (lookup (is_at (cmp q)) (s ∷ []))
      at rest Less is = before is (is_eq (cmp q s.0)) refl
      at rest Equal is = there is (is_eq (cmp q s.0)) refl
      at rest Greater is = behind rest (is_eq (cmp q t.0))

  pub lookup-attached_all : (q : S) (ts ss : List (S × ℕ)) → Rising ts → lookup (is_at (cmp q)) (attached_all cmp ts ss) ≡ option_or (lookup (is_at (cmp q)) ts) (lookup (is_at (cmp q)) ss)
  lookup-attached_all q ts [] rising = option_or-none (lookup (is_at (cmp q)) ts)
  lookup-attached_all q ts (s ∷ ss) rising =
      lookup-attached_all q (attached cmp ts s) ss (Rising-attached ts s rising)
      ∙ (ap (λ o. option_or o (lookup (is_at (cmp q)) ss)) (lookup-attached q ts s rising)
      ∙ (option_or-assoc (lookup (is_at (cmp q)) ts) (lookup (is_at (cmp q)) (s ∷ [])) (lookup (is_at (cmp q)) ss)
      ∙ ap (option_or (lookup (is_at (cmp q)) ts)) (at (is_at (cmp q) s.0))))
    where
      at : (b : Bool) → option_or (cond b (Some s.1) None) (lookup (is_at (cmp q)) ss) ≡ cond b (Some s.1) (lookup (is_at (cmp q)) ss)
      at true = refl
      at false = refl

module _ {K S : Type 0} (n : Names K S) (keys : IsEquivalence (same_key n)) where
  -- all marks of the key go
  pub mark-without_key : (key : K) (d : List (K × List (S × ℕ))) → IsDistinct (same_key n) (keys_of d) → (k : K) (s : S)
      → mark_of n (without_key n key d) k s ≡ cond (same_key n key k) None (mark_of n d k s)
  mark-without_key key d distinct k s = ap (λ o. mark_in n o s) (lookup-removed n keys key k d distinct) ∙ at (same_key n key k)
    where
      at : (b : Bool) → mark_in n (cond b None (lookup (same_key n k) d)) s ≡ cond b None (mark_of n d k s)
      at true = refl
      at false = refl

  module _ (subscribers : IsEquivalence (same_subscriber n)) where
    pub among-same : (named : List (S × ℕ)) (s t : S) → same_subscriber n s t ≡ true → is_among n.subscriber named t ≡ is_among n.subscriber named s
    among-same [] s t same = refl
    among-same (u ∷ us) s t same = rw (subscribers.congr s t u.0 same, among-same us s t same) refl

    mark-left_with : (key : K) (rest : List (S × ℕ)) (d : List (K × List (S × ℕ))) (ss : List (S × ℕ)) → lookup (same_key n key) d ≡ Some ss → IsDistinct (same_key n) (keys_of d) → (k : K) (s : S)
        → mark_of n (left_with n key rest d) k s ≡ cond (same_key n key k) (lookup (same_subscriber n s) rest) (mark_of n d k s)
    mark-left_with key [] d ss found distinct k s = mark-without_key key d distinct k s
    mark-left_with key (r ∷ rest) d ss found distinct k s = ap (λ o. mark_in n o s) (lookup-set n keys key k d ss (r ∷ rest) found) ∙ at (same_key n key k)
      where
        at : (b : Bool) → mark_in n (cond b (Some (r ∷ rest)) (lookup (same_key n k) d)) s ≡ cond b (lookup (same_subscriber n s) (r ∷ rest)) (mark_of n d k s)
        at true = refl
        at false = refl

    -- the marks of the named subscribers of the key go
    pub mark-without_named : (key : K) (named : List (S × ℕ)) (d : List (K × List (S × ℕ))) → IsDistinct (same_key n) (keys_of d) → (k : K) (s : S)
        → mark_of n (without_named n key named d) k s ≡ cond (same_key n key k && is_among n.subscriber named s) None (mark_of n d k s)
    mark-without_named key named d distinct k s = at (lookup (same_key n key) d) refl
      where
        none : (b c : Bool) → same_key n key k ≡ b → lookup (same_key n key) d ≡ None → mark_of n d k s ≡ cond (b && c) None (mark_of n d k s)
        none true true same absent = ap (λ o. mark_in n o s) (lookup-same n keys key k d same ∙ absent)
        none true false same absent = refl
        none false c same absent = refl

        some : (ss : List (S × ℕ)) (b c : Bool) → same_key n key k ≡ b → lookup (same_key n key) d ≡ Some ss
            → cond b (cond (not c) (lookup (same_subscriber n s) ss) None) (mark_of n d k s) ≡ cond (b && c) None (mark_of n d k s)
        some ss true true same found = refl
        some ss true false same found = sym (ap (λ o. mark_in n o s) (lookup-same n keys key k d same ∙ found))
        some ss false c same found = refl

        at : (o : Option (List (S × ℕ))) → lookup (same_key n key) d ≡ o
            → mark_of n (without_these n key named d (lookup (same_key n key) d)) k s ≡ cond (same_key n key k && is_among n.subscriber named s) None (mark_of n d k s)
        at None is = ap (λ o. mark_of n (without_these n key named d o) k s) is ∙ none (same_key n key k) (is_among n.subscriber named s) refl is
        at (Some ss) is =
            ap (λ o. mark_of n (without_these n key named d o) k s) is
            ∙ (mark-left_with key (without n.subscriber named ss) d ss is distinct k s
            ∙ (ap (λ m. cond (same_key n key k) m (mark_of n d k s))
            (lookup-filter-keys (same_subscriber n s) (λ t. not (is_among n.subscriber named t)) (not (is_among n.subscriber named s)) (λ t same. ap not (among-same named s t same)) ss)
            ∙ some ss (same_key n key k) (is_among n.subscriber named s) refl is))

    -- the marks stay that the predicate keeps, where it answers alike on equal keys and subscribers
    pub mark-kept : (keep : K → S → Bool) → ((k l : K) (s t : S) → same_key n k l ≡ true → same_subscriber n s t ≡ true → keep l t ≡ keep k s)
        → (d : List (K × List (S × ℕ))) → IsDistinct (same_key n) (keys_of d) → (k : K) (s : S)
        → mark_of n (kept keep d) k s ≡ cond (keep k s) (mark_of n d k s) None
    mark-kept keep alike d distinct k s =
        ap (λ o. mark_in n o s) (lookup-filter-values keys (λ ss. nat_lt 0 (length ss)) k (map (pruned keep) d) (subst (IsDistinct (same_key n)) (sym (keys-pruned d)) distinct))
        ∙ (filtered (lookup (same_key n k) (map (pruned keep) d)) ∙ pruned-mark d)
      where
        keys-pruned : (d : List (K × List (S × ℕ))) → keys_of (map (pruned keep) d) ≡ keys_of d
        keys-pruned [] = refl
        keys-pruned (e ∷ es) = ap (λ ks. e.0 ∷ ks) (keys-pruned es)

        filtered : (o : Option (List (S × ℕ))) → mark_in n (option_filter (λ ss. nat_lt 0 (length ss)) o) s ≡ mark_in n o s
        filtered None = refl
        filtered (Some []) = refl
        filtered (Some (t ∷ ts)) = ap (λ b. mark_in n (cond b (Some (t ∷ ts)) None) s) (lt-ltb 0 (length (t ∷ ts)) (omega arith))

        pruned-mark : (d : List (K × List (S × ℕ))) → mark_of n (map (pruned keep) d) k s ≡ cond (keep k s) (mark_of n d k s) None
        pruned-mark [] = at (keep k s)
          where
            at : (b : Bool) → mark_in n None s ≡ cond b (mark_in n None s) None
            at true = refl
            at false = refl
        pruned-mark (e ∷ es) = at (pruned-mark es) (same_key n k e.0) refl
          where
            at : mark_of n (map (pruned keep) es) k s ≡ cond (keep k s) (mark_of n es k s) None → (b : Bool) → same_key n k e.0 ≡ b
                → mark_in n (cond b (Some (pruned keep e).1) (lookup (same_key n k) (map (pruned keep) es))) s ≡ cond (keep k s) (mark_in n (cond b (Some e.1) (lookup (same_key n k) es)) s) None
            at rest true same = lookup-filter-keys (same_subscriber n s) (λ t. keep e.0 t) (keep k s) (λ t equal. alike k e.0 s t same equal) e.1
            at rest false same = rest

  -- an item gives its marks to the subscribers of its key that have none
  pub mark-asked_one : (order : IsTotalOrder n.subscriber) (d : List (K × List (S × ℕ))) (item : K × List (S × ℕ)) → Each (λ e. Rising n.subscriber order e.1) d → (k : K) (s : S)
      → mark_of n (asked_one n d item) k s
      ≡ cond (same_key n item.0 k) (option_or (mark_of n d k s) (lookup (same_subscriber n s) item.1)) (mark_of n d k s)
  mark-asked_one order d item rising k s = at (lookup (same_key n item.0) d) refl ∙ same_row (same_key n item.0 k) refl
    where
      with_item : Option (List (S × ℕ)) → Option ℕ
      with_item o = option_or (mark_in n o s) (lookup (same_subscriber n s) item.1)

      same_row : (b : Bool) → same_key n item.0 k ≡ b
          → cond b (with_item (lookup (same_key n item.0) d)) (mark_of n d k s) ≡ cond b (option_or (mark_of n d k s) (lookup (same_subscriber n s) item.1)) (mark_of n d k s)
      same_row true same = sym (ap with_item (lookup-same n keys item.0 k d same))
      same_row false same = refl

      chosen : (b : Bool) (ss ts : List (S × ℕ)) (o : Option (List (S × ℕ))) → lookup (same_subscriber n s) ts ≡ option_or (lookup (same_subscriber n s) ss) (lookup (same_subscriber n s) item.1)
          → mark_in n (cond b (Some ts) o) s ≡ cond b (option_or (lookup (same_subscriber n s) ss) (lookup (same_subscriber n s) item.1)) (mark_in n o s)
      chosen true ss ts o is = is
      chosen false ss ts o is = refl

      at : (o : Option (List (S × ℕ))) → lookup (same_key n item.0) d ≡ o
          → mark_of n (asked_one n d item) k s ≡ cond (same_key n item.0 k) (with_item (lookup (same_key n item.0) d)) (mark_of n d k s)
      at o is = rw is (by_row o is)
        where
          by_row : (o : Option (List (S × ℕ))) → lookup (same_key n item.0) d ≡ o → mark_of n (asked_beside n d item o) k s ≡ cond (same_key n item.0 k) (with_item o) (mark_of n d k s)
          by_row None is =
              ap (λ o. mark_in n o s) (lookup-inserted n keys item.0 k d (attached_all n.subscriber [] item.1) is)
              ∙ chosen (same_key n item.0 k) [] (attached_all n.subscriber [] item.1) (lookup (same_key n k) d) (lookup-attached_all n.subscriber order s [] item.1 tt)
          by_row (Some ss) is =
              ap (λ o. mark_in n o s) (lookup-set n keys item.0 k d ss (attached_all n.subscriber ss item.1) is)
              ∙ chosen (same_key n item.0 k) ss (attached_all n.subscriber ss item.1) (lookup (same_key n k) d)
              (lookup-attached_all n.subscriber order s ss item.1 (Each-found (Rising n.subscriber order) (same_key n item.0) d ss rising is))
