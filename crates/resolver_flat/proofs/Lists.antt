-- Lists that are read and written one item after the other.
use Rattle.std.proofs.Common.{◌≡◌, ℕ, zero, suc, ◌+◌, ◌-◌, ◌<◌, ◌≤◌, List, [], ◌∷◌, ◌++◌, length, drop, get_or, Option, None, Some, refl, sym, ap, ◌∙◌, arith, append_assoc, append-nil, add-one, drop-cons, map}
use Rattle.std.specs.List.{concat}
use Rattle.resolver_flat.specs.declared.reading.Misread.{Misread}
use Rattle.resolver_flat.specs.declared.reading.Misread.TheVariants as misreads
use Rattle.resolver_flat.specs.Reading.{Reads, Refuses, ◌>>=◌, many_at}

-- these items in front of what was read
abbrev pub behind : {A : Type 0} → List A → Option (List A × List ℕ) → Option (List A × List ℕ)
behind items None = None
behind items (Some read) = Some (items ++ read.0, read.1)

behind_more : {A : Type 0} (items : List A) (one : A) (read : Option (List A × List ℕ))
    → behind (items ++ one ∷ []) read ≡ behind items (read >>= (λ more. Some (one ∷ more.0, more.1)))
behind_more items one None = refl
behind_more items one (Some read) = ap (λ list. Some (list, read.1)) (append_assoc items (one ∷ []) read.0)

module _ {A : Type 0} (at : Reads A) (items more : List A) (bytes : List ℕ) (total : Option (List A × List ℕ)) where
  -- one is read
  pub one_more : (left : ℕ) (one : A) (rest : List ℕ) → 0 < left → at bytes ≡ Some (one, rest) → more ≡ items ++ one ∷ []
      → behind items (many_at at left bytes) ≡ total → behind more (many_at at (left - 1) rest) ≡ total
  unfolding many_at
  one_more zero one rest some read next makes = absurd (omega (arith, some))
  one_more (suc left) one rest some read next makes =
      let less : suc left - 1 ≡ left = omega arith in
      rw less (ap (λ list. behind list (many_at at left rest)) next ∙ behind_more items one (many_at at left rest)
      ∙ ap (λ found. behind items (found >>= (λ a. many_at at left a.1 >>= (λ rest. Some (a.0 ∷ rest.0, rest.1))))) (sym read) ∙ makes)

  none_more : (left : ℕ) → 0 < left → at bytes ≡ None → behind items (many_at at left bytes) ≡ total → total ≡ None
  unfolding many_at
  none_more zero some read makes = absurd (omega (arith, some))
  none_more (suc left) some read makes =
      sym makes ∙ ap (λ found. behind items (found >>= (λ a. many_at at left a.1 >>= (λ rest. Some (a.0 ∷ rest.0, rest.1))))) read

  -- the refusal of one is that of all
  pub refused_more : (left : ℕ) (misread : Misread) → 0 < left → Refuses misread (at bytes)
      → behind items (many_at at left bytes) ≡ total → Refuses misread total
  refused_more left misreads.Misspelled some read makes = none_more left some read makes
  refused_more left misreads.OutOfMemory some read makes = tt

  -- none is left to be read
  pub no_more : (left : ℕ) → left ≤ 0 → behind items (many_at at left bytes) ≡ total → total ≡ Some (items, bytes)
  unfolding many_at
  no_more zero none makes = sym makes ∙ ap (λ list. Some (list, bytes)) (append-nil items)
  no_more (suc left) none makes = absurd (omega (arith, none))

-- one more is written
pub written_more : {A : Type 0} (spell : A → List ℕ) (before now all : List ℕ) (xs : List A) (i : ℕ) (one : A) → i < length xs → now ≡ before ++ spell one
    → before ++ concat (map spell (drop i xs)) ≡ all → one ≡ get_or xs i one → now ++ concat (map spell (drop (i + 1) xs)) ≡ all
written_more spell before now all xs i one below next makes is =
    let rest : drop i xs ≡ one ∷ drop (i + 1) xs = drop-cons xs i one below ∙ ap (λ x. x ∷ drop (suc i) xs) (sym is) ∙ ap (λ j. one ∷ drop j xs) (sym (add-one i)) in
    ap (λ out. out ++ concat (map spell (drop (i + 1) xs))) next
    ∙ append_assoc before (spell one) (concat (map spell (drop (i + 1) xs)))
    ∙ ap (λ list. before ++ concat (map spell list)) (sym rest) ∙ makes
