-- A list that is mapped in part: what was given, and the items that are left.
use Rattle.std.proofs.Common.{◌≡◌, List, [], ◌∷◌, ◌++◌, length, refl, ap, rules, arith, append_assoc}
use Rattle.std.specs.List.{FoldsTo, zip}
use Rattle.std.proofs.lemmas.List.{append-nil}

module _ {F A B : Type 0} (step : F → A → B → F → Type 0) where
  -- calls that give one answer for each item take f to last
  abbrev pub Calls : F → List A → List B → F → Type 0
  Calls f items answers last = FoldsTo (λ g pair h. step g pair.0 pair.1 h) f (zip items answers) last

  -- What the calls still to come give completes what was given so far.
  pub record Completes (first : F) (all : List A) (f : F) (left : List A) (given : List B) : Type 0 where
    pub by : (answers : List B) (last : F) → length answers ≡ length left → Calls f left answers last
        → (length (given ++ answers) ≡ length all) × Calls first all (given ++ answers) last

  -- one call more
  pub Completes-more : (first : F) (all : List A) (f g : F) (x : A) (left : List A) (given : List B) (y : B)
      → Completes first all f (x ∷ left) given → step f x y g → Completes first all g left (given ++ y ∷ [])
  Completes-more first all f g x left given y h call = record {
    by = λ answers last same calls. rw append_assoc (h.by (y ∷ answers) last (ap (λ n. n) (search (rules, same))) (g, call, calls));
  }

  -- no item is left
  pub Completes-end : (first : F) (all : List A) (f : F) (left : List A) (given : List B) → length left ≡ 0
      → Completes first all f left given → (length given ≡ length all) × ((last : F) × Calls first all given last)
  Completes-end first all f [] given none h =
      let done : (length given ≡ length all) × Calls first all given f = rw append-nil at (h.by [] f refl refl) in
      (done.0, (f, done.1))
  Completes-end first all f (x ∷ left) given none h = absurd (omega (arith, none))
