-- What slots hold, where a number stands among them, and what a write to one does.
use denote.Param.Members.{Shared}
use Rattle.std.specs.Borrow.{Bor}
use Rattle.std.specs.List.Retain.{ReturnsInTurn}
use Rattle.resolver_base.specs.Answering.{AnswersBy}
use Rattle.std.proofs.Common.{◌≡◌, refl, ap, subst, ◌∙◌, sym, ℕ, zero, suc, ◌+◌, ◌-◌, ◌<◌, ◌≤◌, Bool, true, false, List, [], ◌∷◌, ◌++◌, length, filter, insert, slice_set, Option, None, Some, Result, Ok, Err, cond, option_map, is_some, is_none, slice_index_or, arith}
use Rattle.std.proofs.lemmas.Grind.{common_steps}
use Rattle.std.proofs.lemmas.Bool.Decides.{nat_tests}
use Rattle.std.proofs.lemmas.Cmp.{nat_cmp_total}
use Rattle.std.specs.Fn.{FnReturnsAt}
use Rattle.std.specs.Option.{MatchOption, option_to_list}
use Rattle.std.specs.List.{AllByRecursion, AllWithin, HoldsAt, cons_option, items_where_true}
use Rattle.std.specs.List.Sorted.{IsBinarySearchResult, IsNonDecreasingBy, IsSearchInRange, IsStrictlySortedBy}
use Rattle.std.specs.Map.{keys_of, lookup, remove_entry}
use Rattle.std.proofs.lemmas.List.Sorted.{searchable_from_sorted}
use Rattle.std.specs.BTreeMap.{insert_entry, is_at}
use Rattle.std.specs.Ordering.{is_eq, is_lt, nat_cmp, ordering_index}
use Rattle.std.specs.declared.cmp.Ordering.TheVariants.{Less, Equal, Greater}
use Rattle.resolver_sequence.specs.declared.sequence.Slot.{Slot}
use Rattle.resolver_sequence.specs.declared.sequence.Slot.TheVariants.{Held, Taken}
use Rattle.resolver_sequence.specs.Sequence.{AreKept, IsAt, IsBetween, IsKeptBy, IsPlaced, begins_empty, entries_of, number_of, numbers_of, slot_of, value_at, value_of, with_value}

less-lt : (m n : ℕ) → nat_cmp m n ≡ Less → m < n
less-lt m n less = grind (arith, nat_tests, common_steps, less)

lt-less : (m n : ℕ) → m < n → nat_cmp m n ≡ Less
lt-less m n below = grind (arith, nat_tests, common_steps, below)

lt-greater : (m n : ℕ) → m < n → nat_cmp n m ≡ Greater
lt-greater m n below = grind (arith, nat_tests, common_steps, below)

greater-lt : (m n : ℕ) → nat_cmp m n ≡ Greater → n < m
greater-lt m n greater = grind (arith, nat_tests, common_steps, greater)

same-equal : (n : ℕ) → nat_cmp n n ≡ Equal
same-equal n = grind (arith, nat_tests, common_steps)

equal-same : (m n : ℕ) → nat_cmp m n ≡ Equal → m ≡ n
equal-same m n equal = grind (arith, nat_tests, common_steps, equal)

apart : (m n : ℕ) → m < n → is_eq (nat_cmp n m) ≡ false
apart m n below = ap is_eq (lt-greater m n below)

pub at-most-one : {X : Type 0} (first : Option X) → length (option_to_list first) ≤ 1
at-most-one None = omega arith
at-most-one (Some x) = omega arith

abbrev pub as_number : Bool → ℕ
as_number b = cond b 1 0

eq-same : (m n : ℕ) → is_eq (nat_cmp m n) ≡ true → n ≡ m
eq-same m n equal = grind (arith, nat_tests, common_steps, equal)

-- a number that is below each of some
abbrev IsBelow : ℕ → List ℕ → Type 0
IsBelow n = AllByRecursion (λ y. nat_cmp n y ≡ Less)

below-more : (m n : ℕ) (ns : List ℕ) → m < n → IsBelow n ns → IsBelow m ns
below-more m n [] below all = tt
below-more m n (y ∷ ns) below all = (lt-less m y (omega (arith, below, less-lt n y all.0)), below-more m n ns below all.1)

module _ {T : Type 0} where
  -- what a slot of this number with this value has before what others hold
  abbrev joined : ℕ → Option T → List (ℕ × T) → List (ℕ × T)
  joined k v es = cons_option (option_map (λ value. (k, value)) v) es

  joined-below : (n k : ℕ) (v : Option T) (es : List (ℕ × T)) → nat_cmp n k ≡ Less → IsBelow n (keys_of es) → IsBelow n (keys_of (joined k v es))
  joined-below n k None es less all = all
  joined-below n k (Some x) es less all = (less, all)

  -- a number below those of slots is below those that they hold something under
  pub entries-below : (n : ℕ) (slots : List (Slot T)) → IsBelow n (numbers_of slots) → IsBelow n (keys_of (entries_of slots))
  entries-below n [] all = tt
  entries-below n (slot ∷ slots) all = joined-below n (number_of slot) (value_of slot) (entries_of slots) all.0 (entries-below n slots all.1)

  joined-sorted : (k : ℕ) (v : Option T) (es : List (ℕ × T)) → IsBelow k (keys_of es) → IsStrictlySortedBy nat_cmp (keys_of es) → IsStrictlySortedBy nat_cmp (keys_of (joined k v es))
  unfolding IsStrictlySortedBy
  joined-sorted k None es below sorted = sorted
  joined-sorted k (Some x) es below sorted = (below, sorted)

  -- what is held is in order
  pub entries-sorted : (slots : List (Slot T)) → IsStrictlySortedBy nat_cmp (numbers_of slots) → IsStrictlySortedBy nat_cmp (keys_of (entries_of slots))
  unfolding IsStrictlySortedBy
  entries-sorted [] rising = tt
  entries-sorted (slot ∷ slots) rising = joined-sorted (number_of slot) (value_of slot) (entries_of slots) (entries-below (number_of slot) slots rising.0) (entries-sorted slots rising.1)

  lookup-past : (n k : ℕ) (v : Option T) (es : List (ℕ × T)) → is_eq (nat_cmp n k) ≡ false → lookup (is_at (nat_cmp n)) (joined k v es) ≡ lookup (is_at (nat_cmp n)) es
  lookup-past n k None es differs = refl
  lookup-past n k (Some x) es differs = ap (λ b. cond b (Some x) (lookup (is_at (nat_cmp n)) es)) differs

  lookup-here : (n : ℕ) (v : Option T) (es : List (ℕ × T)) → lookup (is_at (nat_cmp n)) es ≡ None → lookup (is_at (nat_cmp n)) (joined n v es) ≡ v
  lookup-here n None es none = none
  lookup-here n (Some x) es none = ap (λ o. cond (is_eq o) (Some x) (lookup (is_at (nat_cmp n)) es)) (same-equal n)

  pub lookup-none : (n : ℕ) (es : List (ℕ × T)) → IsBelow n (keys_of es) → lookup (is_at (nat_cmp n)) es ≡ None
  lookup-none n [] all = refl
  lookup-none n (e ∷ es) all = ap (λ o. cond (is_eq o) (Some e.1) (lookup (is_at (nat_cmp n)) es)) all.0 ∙ lookup-none n es all.1

  -- a number that stands among slots is above one that is below them
  at-above : (m n at : ℕ) (slots : List (Slot T)) → IsBelow m (numbers_of slots) → IsAt slots n at → m < n
  at-above m n at [] all is = absurd is
  at-above m n zero (slot ∷ slots) all is = less-lt m n (subst (λ k. nat_cmp m k ≡ Less) is all.0)
  at-above m n (suc at) (slot ∷ slots) all is = at-above m n at slots all.1 is

  -- the value under a number that stands somewhere
  pub found : (slots : List (Slot T)) (n at : ℕ) → IsStrictlySortedBy nat_cmp (numbers_of slots) → IsAt slots n at → lookup (is_at (nat_cmp n)) (entries_of slots) ≡ value_at slots at
  unfolding IsStrictlySortedBy
  found [] n at rising is = absurd is
  found (slot ∷ slots) n zero rising is =
      subst (λ k. lookup (is_at (nat_cmp k)) (joined (number_of slot) (value_of slot) (entries_of slots)) ≡ value_of slot) is
      (lookup-here (number_of slot) (value_of slot) (entries_of slots) (lookup-none (number_of slot) (entries_of slots) (entries-below (number_of slot) slots rising.0)))
  found (slot ∷ slots) n (suc at) rising is =
      lookup-past n (number_of slot) (value_of slot) (entries_of slots) (apart (number_of slot) n (at-above (number_of slot) n at slots rising.0 is)) ∙ found slots n at rising.1 is

  -- there is none under a number that stands nowhere
  pub missed : (slots : List (Slot T)) (n at : ℕ) → IsStrictlySortedBy nat_cmp (numbers_of slots) → IsBetween slots n at → lookup (is_at (nat_cmp n)) (entries_of slots) ≡ None
  unfolding IsStrictlySortedBy
  missed [] n at rising is = refl
  missed (slot ∷ slots) n zero rising is =
      lookup-none n (entries_of (slot ∷ slots)) (entries-below n (slot ∷ slots) (lt-less n (number_of slot) is, below-more n (number_of slot) (numbers_of slots) is rising.0))
  missed (slot ∷ slots) n (suc at) rising is =
      lookup-past n (number_of slot) (value_of slot) (entries_of slots) (apart (number_of slot) n is.0) ∙ missed slots n at rising.1 is.1

  insert-first : (n : ℕ) (x : T) (es : List (ℕ × T)) → IsBelow n (keys_of es) → insert_entry nat_cmp es n x ≡ (n, x) ∷ es
  insert-first n x [] all = refl
  insert-first n x (e ∷ es) all = rw all.0 refl

  insert-here : (n : ℕ) (x : T) (v : Option T) (es : List (ℕ × T)) → IsBelow n (keys_of es) → insert_entry nat_cmp (joined n v es) n x ≡ (n, x) ∷ es
  insert-here n x None es all = insert-first n x es all
  insert-here n x (Some y) es all = rw (same-equal n) refl

  insert-past : (n k : ℕ) (x : T) (v : Option T) (es : List (ℕ × T)) → k < n → insert_entry nat_cmp (joined k v es) n x ≡ joined k v (insert_entry nat_cmp es n x)
  insert-past n k x None es below = refl
  insert-past n k x (Some y) es below = rw (lt-greater k n below) refl

  -- a value that is given to the slot of its number
  pub entries-filled : (slots : List (Slot T)) (n at : ℕ) (x : T) → IsStrictlySortedBy nat_cmp (numbers_of slots) → IsAt slots n at → entries_of (with_value slots at (Some x)) ≡ insert_entry nat_cmp (entries_of slots) n x
  unfolding IsStrictlySortedBy
  entries-filled [] n at x rising is = absurd is
  entries-filled (slot ∷ slots) n zero x rising is =
      subst (λ k. (number_of slot, x) ∷ entries_of slots ≡ insert_entry nat_cmp (joined (number_of slot) (value_of slot) (entries_of slots)) k x) is
      (sym (insert-here (number_of slot) x (value_of slot) (entries_of slots) (entries-below (number_of slot) slots rising.0)))
  entries-filled (slot ∷ slots) n (suc at) x rising is =
      ap (joined (number_of slot) (value_of slot)) (entries-filled slots n at x rising.1 is)
      ∙ sym (insert-past n (number_of slot) x (value_of slot) (entries_of slots) (at-above (number_of slot) n at slots rising.0 is))

  -- a slot that is put where its number belongs
  pub entries-put : (slots : List (Slot T)) (n at : ℕ) (x : T) → IsStrictlySortedBy nat_cmp (numbers_of slots) → IsBetween slots n at
      → entries_of (insert slots at (Held n x)) ≡ insert_entry nat_cmp (entries_of slots) n x
  unfolding IsStrictlySortedBy
  entries-put [] n at x rising is = rw is refl
  entries-put (slot ∷ slots) n zero x rising is =
      sym (insert-first n x (entries_of (slot ∷ slots)) (entries-below n (slot ∷ slots) (lt-less n (number_of slot) is, below-more n (number_of slot) (numbers_of slots) is rising.0)))
  entries-put (slot ∷ slots) n (suc at) x rising is =
      ap (joined (number_of slot) (value_of slot)) (entries-put slots n at x rising.1 is.1)
      ∙ sym (insert-past n (number_of slot) x (value_of slot) (entries_of slots) is.0)

  -- nothing is taken where there is nothing
  pub remove-none : (n : ℕ) (es : List (ℕ × T)) → lookup (is_at (nat_cmp n)) es ≡ None → remove_entry (is_at (nat_cmp n)) es ≡ es
  remove-none n [] none = refl
  remove-none n (e ∷ es) none = by (is_at (nat_cmp n) e.0) none (remove-none n es)
    where
      by : (b : Bool) → cond b (Some e.1) (lookup (is_at (nat_cmp n)) es) ≡ None → (lookup (is_at (nat_cmp n)) es ≡ None → remove_entry (is_at (nat_cmp n)) es ≡ es) → cond b es (e ∷ remove_entry (is_at (nat_cmp n)) es) ≡ e ∷ es
      by false rest same = ap (λ l. e ∷ l) (same rest)
      by true some same = absurd (let wrong = some in cc)

  remove-past : (n k : ℕ) (v : Option T) (es : List (ℕ × T)) → is_eq (nat_cmp n k) ≡ false → remove_entry (is_at (nat_cmp n)) (joined k v es) ≡ joined k v (remove_entry (is_at (nat_cmp n)) es)
  remove-past n k None es differs = refl
  remove-past n k (Some x) es differs = ap (λ b. cond b es ((k, x) ∷ remove_entry (is_at (nat_cmp n)) es)) differs

  remove-here : (n : ℕ) (v : Option T) (es : List (ℕ × T)) → lookup (is_at (nat_cmp n)) es ≡ None → remove_entry (is_at (nat_cmp n)) (joined n v es) ≡ es
  remove-here n None es none = remove-none n es none
  remove-here n (Some x) es none = ap (λ o. cond (is_eq o) es ((n, x) ∷ remove_entry (is_at (nat_cmp n)) es)) (same-equal n)

  -- a value that is taken
  pub entries-emptied : (slots : List (Slot T)) (n at : ℕ) → IsStrictlySortedBy nat_cmp (numbers_of slots) → IsAt slots n at → entries_of (with_value slots at None) ≡ remove_entry (is_at (nat_cmp n)) (entries_of slots)
  unfolding IsStrictlySortedBy
  entries-emptied [] n at rising is = absurd is
  entries-emptied (slot ∷ slots) n zero rising is =
      subst (λ k. entries_of slots ≡ remove_entry (is_at (nat_cmp k)) (joined (number_of slot) (value_of slot) (entries_of slots))) is
      (sym (remove-here (number_of slot) (value_of slot) (entries_of slots) (lookup-none (number_of slot) (entries_of slots) (entries-below (number_of slot) slots rising.0))))
  entries-emptied (slot ∷ slots) n (suc at) rising is =
      ap (joined (number_of slot) (value_of slot)) (entries-emptied slots n at rising.1 is)
      ∙ sym (remove-past n (number_of slot) (value_of slot) (entries_of slots) (apart (number_of slot) n (at-above (number_of slot) n at slots rising.0 is)))

  pub numbers-same : (slots : List (Slot T)) (at : ℕ) (v : Option T) → numbers_of (with_value slots at v) ≡ numbers_of slots
  numbers-same [] at v = refl
  numbers-same (slot ∷ slots) zero None = refl
  numbers-same (slot ∷ slots) zero (Some x) = refl
  numbers-same (slot ∷ slots) (suc at) v = ap (λ ns. number_of slot ∷ ns) (numbers-same slots at v)

  below-put : (m n at : ℕ) (x : T) (slots : List (Slot T)) → m < n → IsBelow m (numbers_of slots) → IsBelow m (numbers_of (insert slots at (Held n x)))
  below-put m n zero x slots below all = (lt-less m n below, all)
  below-put m n (suc at) x [] below all = (lt-less m n below, tt)
  below-put m n (suc at) x (slot ∷ slots) below all = (all.0, below-put m n at x slots below all.1)

  pub put-sorted : (slots : List (Slot T)) (n at : ℕ) (x : T) → IsStrictlySortedBy nat_cmp (numbers_of slots) → IsBetween slots n at
      → IsStrictlySortedBy nat_cmp (numbers_of (insert slots at (Held n x)))
  unfolding IsStrictlySortedBy
  put-sorted [] n at x rising is = rw is (tt, tt)
  put-sorted (slot ∷ slots) n zero x rising is = ((lt-less n (number_of slot) is, below-more n (number_of slot) (numbers_of slots) is rising.0), rising)
  put-sorted (slot ∷ slots) n (suc at) x rising is = (below-put (number_of slot) n at x slots is.0 rising.0, put-sorted slots n at x rising.1 is.1)

  pub begins-filled : (slots : List (Slot T)) (at : ℕ) (x : T) → begins_empty slots ≡ false → begins_empty (with_value slots at (Some x)) ≡ false
  begins-filled [] at x full = refl
  begins-filled (slot ∷ slots) zero x full = refl
  begins-filled (slot ∷ slots) (suc at) x full = full

  pub begins-put : (slots : List (Slot T)) (n at : ℕ) (x : T) → begins_empty slots ≡ false → begins_empty (insert slots at (Held n x)) ≡ false
  begins-put [] n zero x full = refl
  begins-put [] n (suc at) x full = refl
  begins-put (slot ∷ slots) n zero x full = refl
  begins-put (slot ∷ slots) n (suc at) x full = full

  joined-length : (k : ℕ) (v : Option T) (es fs : List (ℕ × T)) (i : ℕ) → length es ≡ length fs + i → length (joined k v es) ≡ length (joined k v fs) + i
  joined-length k None es fs i same = same
  joined-length k (Some x) es fs i same = omega (arith, same)

  -- how many values there are: one more where an empty slot is given one
  pub count-filled : (slots : List (Slot T)) (n at : ℕ) (x : T) → IsAt slots n at → value_at slots at ≡ None → length (entries_of (with_value slots at (Some x))) ≡ length (entries_of slots) + 1
  count-filled [] n at x is none = absurd is
  count-filled (slot ∷ slots) n zero x is none = rw none (omega arith)
  count-filled (slot ∷ slots) n (suc at) x is none = joined-length (number_of slot) (value_of slot) _ _ 1 (count-filled slots n at x is none)

  pub count-changed : (slots : List (Slot T)) (n at : ℕ) (x y : T) → IsAt slots n at → value_at slots at ≡ Some y → length (entries_of (with_value slots at (Some x))) ≡ length (entries_of slots) + 0
  count-changed [] n at x y is some = absurd is
  count-changed (slot ∷ slots) n zero x y is some = rw some (omega arith)
  count-changed (slot ∷ slots) n (suc at) x y is some = joined-length (number_of slot) (value_of slot) _ _ 0 (count-changed slots n at x y is some)

  pub count-emptied : (slots : List (Slot T)) (n at : ℕ) (y : T) → IsAt slots n at → value_at slots at ≡ Some y → length (entries_of slots) ≡ length (entries_of (with_value slots at None)) + 1
  count-emptied [] n at y is some = absurd is
  count-emptied (slot ∷ slots) n zero y is some = rw some (omega arith)
  count-emptied (slot ∷ slots) n (suc at) y is some = joined-length (number_of slot) (value_of slot) _ _ 1 (count-emptied slots n at y is some)

  pub count-put : (slots : List (Slot T)) (n at : ℕ) (x : T) → length (entries_of (insert slots at (Held n x))) ≡ length (entries_of slots) + 1
  count-put slots n zero x = omega arith
  count-put [] n (suc at) x = refl
  count-put (slot ∷ slots) n (suc at) x = joined-length (number_of slot) (value_of slot) _ _ 1 (count-put slots n at x)

  pub kept-none : (slots : List (Slot T)) → slots ≡ [] → AreKept slots 0
  unfolding IsStrictlySortedBy
  kept-none slots none = rw none (record { rising = tt; counted = refl; full = refl })

  pub entries-fewer : (slots : List (Slot T)) → length (entries_of slots) ≤ length slots
  entries-fewer [] = omega arith
  entries-fewer (slot ∷ slots) = by (value_of slot) (entries-fewer slots)
    where
      by : (v : Option T) → length (entries_of slots) ≤ length slots → length (joined (number_of slot) v (entries_of slots)) ≤ length (slot ∷ slots)
      by None fewer = omega (arith, fewer)
      by (Some x) fewer = omega (arith, fewer)

  pub value-here : (slots : List (Slot T)) (at : ℕ) (slot : Slot T) → at < length slots → slot ≡ slice_index_or slots at slot → value_of slot ≡ value_at slots at
  value-here [] at slot within is = absurd (omega (arith, within))
  value-here (first ∷ slots) zero slot within is = ap value_of is
  value-here (first ∷ slots) (suc at) slot within is = value-here slots at slot (omega (arith, within)) is

  abbrev valued : Option T → Slot T → Slot T
  valued v slot = slot_of (number_of slot) v

  -- a write of a slot's value
  pub set-here : (slots : List (Slot T)) (at : ℕ) (slot : Slot T) (v : Option T) → at < length slots → slot ≡ slice_index_or slots at slot
      → slice_set slots at (slot_of (number_of slot) v) ≡ with_value slots at v
  set-here [] at slot v within is = absurd (omega (arith, within))
  set-here (first ∷ slots) zero slot v within is = ap (λ (s : Slot T). valued v s ∷ slots) is
  set-here (first ∷ slots) (suc at) slot v within is = ap (λ l. first ∷ l) (set-here slots at slot v (omega (arith, within)) is)

  pub at-here : (slots : List (Slot T)) (n at : ℕ) (slot : Slot T) → at < length slots → slot ≡ slice_index_or slots at slot → number_of slot ≡ n → IsAt slots n at
  at-here [] n at slot within is named = absurd (omega (arith, within))
  at-here (first ∷ slots) n zero slot within is named = sym (ap number_of is) ∙ named
  at-here (first ∷ slots) n (suc at) slot within is named = at-here slots n at slot (omega (arith, within)) is named

  pub at-within : (slots : List (Slot T)) (n at : ℕ) → IsAt slots n at → at < length slots
  at-within [] n at is = absurd is
  at-within (slot ∷ slots) n zero is = omega arith
  at-within (slot ∷ slots) n (suc at) is = omega (arith, at-within slots n at is)

  pub between-within : (slots : List (Slot T)) (n at : ℕ) → IsBetween slots n at → at ≤ length slots
  between-within [] n at is = omega (arith, is)
  between-within (slot ∷ slots) n zero is = omega arith
  between-within (slot ∷ slots) n (suc at) is = omega (arith, between-within slots n at is.1)

  -- a number above the last one
  pub past : (slots : List (Slot T)) (n k : ℕ) (last : Slot T) → IsStrictlySortedBy nat_cmp (numbers_of slots) → k + 1 ≡ length slots → last ≡ slice_index_or slots k last → number_of last < n → IsBetween slots n (length slots)
  unfolding IsStrictlySortedBy
  past [] n k last rising end is below = refl
  past (slot ∷ []) n zero last rising end is below = (subst (λ (s : Slot T). number_of s < n) is below, refl)
  past (slot ∷ []) n (suc k) last rising end is below = absurd (omega (arith, end))
  past (slot ∷ next ∷ slots) n zero last rising end is below = absurd (omega (arith, end))
  past (slot ∷ next ∷ slots) n (suc k) last rising end is below =
      let rest = past (next ∷ slots) n k last rising.1 (omega (arith, end)) is below in
      (omega (arith, less-lt (number_of slot) (number_of next) rising.0.0, rest.0), rest)

  -- what a binary search says
  pub at-searched : (slots : List (Slot T)) (n at : ℕ) → at < length slots → HoldsAt (λ s. nat_cmp (number_of s) n ≡ Equal) slots at → IsAt slots n at
  at-searched [] n at within is = absurd (omega (arith, within))
  at-searched (slot ∷ slots) n zero within is = equal-same (number_of slot) n (is slot)
  at-searched (slot ∷ slots) n (suc at) within is = at-searched slots n at (omega (arith, within)) is

  pub between-searched : (slots : List (Slot T)) (n at : ℕ) → at ≤ length slots → AllWithin (λ s. nat_cmp (number_of s) n ≡ Less) slots 0 at → AllWithin (λ s. nat_cmp (number_of s) n ≡ Greater) slots at (length slots) → IsBetween slots n at
  between-searched [] n at within below above = omega (arith, within)
  between-searched (slot ∷ slots) n zero within below above = greater-lt (number_of slot) n (above zero slot (omega arith) (omega arith))
  between-searched (slot ∷ slots) n (suc at) within below above = (
    less-lt (number_of slot) n (below zero slot (omega arith) (omega arith)),
    between-searched slots n at (omega (arith, within)) (λ k d low high. below (suc k) d (omega arith) (omega (arith, high))) (λ k d low high. above (suc k) d (omega (arith, low)) (omega (arith, high))),
  )

  in-order : (slots : List (Slot T)) → IsStrictlySortedBy nat_cmp (numbers_of slots) → (k : ℕ) (d : Slot T) → suc k < length slots → is_lt (nat_cmp (number_of (slice_index_or slots (suc k) d)) (number_of (slice_index_or slots k d))) ≡ false
  unfolding IsStrictlySortedBy
  in-order [] rising k d within = absurd (omega (arith, within))
  in-order (slot ∷ []) rising k d within = absurd (omega (arith, within))
  in-order (slot ∷ next ∷ slots) rising zero d within = ap is_lt (lt-greater (number_of slot) (number_of next) (less-lt (number_of slot) (number_of next) rising.0.0))
  in-order (slot ∷ next ∷ slots) rising (suc k) d within = in-order (next ∷ slots) rising.1 k d (omega (arith, within))

  pub searchable : (slots : List (Slot T)) (n : ℕ) → IsStrictlySortedBy nat_cmp (numbers_of slots) → IsNonDecreasingBy (λ s. ordering_index (nat_cmp (number_of s) n)) slots
  searchable slots n rising = searchable_from_sorted nat_cmp_total number_of slots n (λ k d low high.
      let one : suc k ≡ k + 1 = omega arith in
      subst (λ i. is_lt (nat_cmp (number_of (slice_index_or slots i d)) (number_of (slice_index_or slots k d))) ≡ false) one (in-order slots rising k d (omega (arith, high))))

  pub placed : (slots : List (Slot T)) (n : ℕ) (r : Result ℕ ℕ) → IsStrictlySortedBy nat_cmp (numbers_of slots) → IsSearchInRange r (length slots) → IsBinarySearchResult (λ s. nat_cmp (number_of s) n) slots r → IsPlaced slots n r
  placed slots n (Ok at) rising within is = at-searched slots n at within is
  placed slots n (Err at) rising within is =
      let parted = is (searchable slots n rising) in
      between-searched slots n at within parted.0 parted.1

  -- whether a slot has a value
  abbrev pub is_full : Slot T → Bool
  is_full slot = is_some (value_of slot)

  pub full-entries : (slots : List (Slot T)) → entries_of (filter is_full slots) ≡ entries_of slots
  full-entries [] = refl
  full-entries (slot ∷ slots) = by (value_of slot) refl (full-entries slots)
    where
      by : (v : Option T) → value_of slot ≡ v → entries_of (filter is_full slots) ≡ entries_of slots
          → entries_of (cond (is_some v) (slot ∷ filter is_full slots) (filter is_full slots)) ≡ joined (number_of slot) v (entries_of slots)
      by None is same = same
      by (Some x) is same = rw is (ap (λ l. (number_of slot, x) ∷ l) same)

  below-filtered : (m : ℕ) (test : Slot T → Bool) (slots : List (Slot T)) → IsBelow m (numbers_of slots) → IsBelow m (numbers_of (filter test slots))
  below-filtered m test [] all = tt
  below-filtered m test (slot ∷ slots) all = by (test slot) all.0 (below-filtered m test slots all.1)
    where
      by : (b : Bool) → nat_cmp m (number_of slot) ≡ Less → IsBelow m (numbers_of (filter test slots)) → IsBelow m (numbers_of (cond b (slot ∷ filter test slots) (filter test slots)))
      by true less rest = (less, rest)
      by false less rest = rest

  pub filtered-sorted : (test : Slot T → Bool) (slots : List (Slot T)) → IsStrictlySortedBy nat_cmp (numbers_of slots) → IsStrictlySortedBy nat_cmp (numbers_of (filter test slots))
  unfolding IsStrictlySortedBy
  filtered-sorted test [] rising = tt
  filtered-sorted test (slot ∷ slots) rising = by (test slot) (below-filtered (number_of slot) test slots rising.0) (filtered-sorted test slots rising.1)
    where
      by : (b : Bool) → IsBelow (number_of slot) (numbers_of (filter test slots)) → IsStrictlySortedBy nat_cmp (numbers_of (filter test slots)) → IsStrictlySortedBy nat_cmp (numbers_of (cond b (slot ∷ filter test slots) (filter test slots)))
      by true below rest = (below, rest)
      by false below rest = rest

  some-not-none : (v : Option T) → is_some v ≡ true → is_none v ≡ false
  some-not-none None some = absurd (let wrong = some in cc)
  some-not-none (Some x) some = refl

  pub begins-full : (slots : List (Slot T)) → begins_empty (filter is_full slots) ≡ false
  begins-full [] = refl
  begins-full (slot ∷ slots) = by (is_full slot) refl (begins-full slots)
    where
      by : (b : Bool) → is_full slot ≡ b → begins_empty (filter is_full slots) ≡ false → begins_empty (cond b (slot ∷ filter is_full slots) (filter is_full slots)) ≡ false
      by true full rest = some-not-none (value_of slot) full
      by false empty rest = rest

  none-is : (v : Option T) → is_none v ≡ true → v ≡ None
  none-is None none = refl
  none-is (Some x) none = absurd (let wrong = none in cc)

  -- what is left behind an empty slot
  pub past-empty : (first : List (Slot T)) (slots rest : List (Slot T)) → slots ≡ first ++ rest → begins_empty slots ≡ true → length first ≤ 1
      → IsStrictlySortedBy nat_cmp (numbers_of slots) → (entries_of rest ≡ entries_of slots) × IsStrictlySortedBy nat_cmp (numbers_of rest)
  unfolding IsStrictlySortedBy
  past-empty [] slots rest is empty one rising = (ap entries_of (sym is), rw (← is) rising)
  past-empty (slot ∷ []) slots rest is empty one rising = (rw is (sym (ap (λ v. joined (number_of slot) v (entries_of rest)) (none-is (value_of slot) (rw is at empty)))), (rw is at rising).1)
  past-empty (slot ∷ next ∷ more) slots rest is empty one rising = absurd (omega (arith, one))

  pub few : (slots : List (Slot T)) (count bound : ℕ) → AreKept slots count → length slots < bound → count < bound
  few slots count bound kept within = omega (arith, kept.counted, entries-fewer slots, within)

  pub kept-filled : (slots : List (Slot T)) (count n at : ℕ) (x : T) → AreKept slots count → IsAt slots n at → AreKept (with_value slots at (Some x)) (count + as_number (is_none (value_at slots at)))
  kept-filled slots count n at x kept is = record {
    rising = rw (numbers-same slots at (Some x)) kept.rising;
    counted = by (value_at slots at) refl;
    full = begins-filled slots at x kept.full;
  }
    where
      by : (v : Option T) → value_at slots at ≡ v → count + as_number (is_none v) ≡ length (entries_of (with_value slots at (Some x)))
      by None none = ap (λ i. i + 1) kept.counted ∙ sym (count-filled slots n at x is none)
      by (Some y) some = ap (λ i. i + 0) kept.counted ∙ sym (count-changed slots n at x y is some)

  pub kept-put : (slots : List (Slot T)) (count n at : ℕ) (x : T) → AreKept slots count → IsBetween slots n at → AreKept (insert slots at (Held n x)) (count + 1)
  kept-put slots count n at x kept is = record {
    rising = put-sorted slots n at x kept.rising is;
    counted = ap (λ i. i + 1) kept.counted ∙ sym (count-put slots n at x);
    full = begins-put slots n at x kept.full;
  }

  -- one value less
  pub kept-emptied : (slots left : List (Slot T)) (count n at : ℕ) (x : T) → AreKept slots count → IsAt slots n at → value_at slots at ≡ Some x → entries_of left ≡ entries_of (with_value slots at None)
      → IsStrictlySortedBy nat_cmp (numbers_of left) → begins_empty left ≡ false → AreKept left (count - 1)
  kept-emptied slots left count n at x kept is some same rising full = record {
    rising = rising;
    counted = omega (arith, kept.counted, count-emptied slots n at x is some, ap length same);
    full = full;
  }

  -- a slot that is given the value that it has
  pub same-value : (slots : List (Slot T)) (at : ℕ) → with_value slots at (value_at slots at) ≡ slots
  same-value [] at = refl
  same-value (Held n x ∷ slots) zero = refl
  same-value (Taken n ∷ slots) zero = refl
  same-value (slot ∷ slots) (suc at) = ap (λ l. slot ∷ l) (same-value slots at)

  pub with-same : (slots : List (Slot T)) (at : ℕ) (v : Option T) → v ≡ value_at slots at → with_value slots at v ≡ slots
  with-same slots at v is = ap (with_value slots at) is ∙ same-value slots at

module _ {T : Type 0} where
  found-joined : (n k : ℕ) (x : T) (v : Option T) (es fs : List (ℕ × T)) → (lookup (is_at (nat_cmp n)) es ≡ Some x → lookup (is_at (nat_cmp n)) fs ≡ Some x)
      → lookup (is_at (nat_cmp n)) (joined k v es) ≡ Some x → lookup (is_at (nat_cmp n)) (joined k v fs) ≡ Some x
  found-joined n k x None es fs same some = same some
  found-joined n k x (Some y) es fs same some = by (is_at (nat_cmp n) k) some
    where
      by : (b : Bool) → cond b (Some y) (lookup (is_at (nat_cmp n)) es) ≡ Some x → cond b (Some y) (lookup (is_at (nat_cmp n)) fs) ≡ Some x
      by true some = some
      by false some = same some

  -- a number that is found among greater ones than another isn't that other
  above-apart : (n m : ℕ) (es : List (ℕ × T)) → IsBelow m (keys_of es) → (lookup (is_at (nat_cmp n)) es ≡ None → ⊥) → is_eq (nat_cmp n m) ≡ false
  above-apart n m es below found = by (is_eq (nat_cmp n m)) refl
    where
      by : (b : Bool) → is_eq (nat_cmp n m) ≡ b → b ≡ false
      by false other = refl
      by true same = absurd (found (subst (λ k. lookup (is_at (nat_cmp k)) es ≡ None) (eq-same n m same) (lookup-none m es below)))

-- what a test answers of each slot, in turn
abbrev pub AreKeptBy : {F T : Type 0} → Shared F (Bor T × Unit {0}) Bool → F → List Bool → List (Slot T) → Type 0
AreKeptBy g keep (b ∷ bs) (slot ∷ slots) = IsKeptBy g keep slot b × AreKeptBy g keep bs slots
AreKeptBy g keep bs slots = Unit {0}

pub kept-in-turn : {F G T : Type 0} (g : Shared F (Bor T × Unit {0}) Bool) (keep : F) (R : G → Slot T → Bool → G → Type 0) (I : G → Type 0)
    → ((f : G) (slot : Slot T) (b : Bool) (h : G) → I f → R f slot b h → IsKeptBy g keep slot b × I h)
    → (bs : List Bool) (slots : List (Slot T)) (p q : G) → I p → ReturnsInTurn R p bs slots q → AreKeptBy g keep bs slots
kept-in-turn g keep R I step [] slots p q i turns = tt
kept-in-turn g keep R I step (b ∷ bs) [] p q i turns = tt
kept-in-turn g keep R I step (b ∷ bs) (slot ∷ slots) p q i turns =
    let one = step p slot b turns.0 i turns.1 in
    (one.0, kept-in-turn g keep R I step bs slots turns.0 q one.1 turns.2)

module _ {F T : Type 0} (g : Shared F (Bor T × Unit {0}) Bool) (keep : F) where
  -- an empty slot isn't kept
  kept-full : (slot : Slot T) → IsKeptBy g keep slot true → is_full slot ≡ true
  kept-full slot is = by (value_of slot) is
    where
      by : (v : Option T) → MatchOption v (true ≡ false) (λ value. FnReturnsAt g keep value true) → is_some v ≡ true
      by None no_value = absurd (let wrong = no_value in cc)
      by (Some x) some = refl

  abbrev AllFull : List (Slot T) → Type 0
  AllFull = AllByRecursion (λ slot. is_full slot ≡ true)

  pub left-full : (bs : List Bool) (slots : List (Slot T)) → AreKeptBy g keep bs slots → AllFull (items_where_true bs slots)
  left-full [] slots are = tt
  left-full (b ∷ bs) [] are = tt
  left-full (true ∷ bs) (slot ∷ slots) are = (kept-full slot are.0, left-full bs slots are.1)
  left-full (false ∷ bs) (slot ∷ slots) are = left-full bs slots are.1

  full-counted : (slots : List (Slot T)) → AllFull slots → length slots ≡ length (entries_of slots)
  full-counted [] full = refl
  full-counted (slot ∷ slots) full = by (value_of slot) full.0 (full-counted slots full.1)
    where
      by : (v : Option T) → is_some v ≡ true → length slots ≡ length (entries_of slots) → length (slot ∷ slots) ≡ length (joined (number_of slot) v (entries_of slots))
      by None some same = absurd (let wrong = some in cc)
      by (Some x) some same = ap suc same

  full-begins : (slots : List (Slot T)) → AllFull slots → begins_empty slots ≡ false
  full-begins [] full = refl
  full-begins (slot ∷ slots) full = some-not-none (value_of slot) full.0

  left-below : (m : ℕ) (bs : List Bool) (slots : List (Slot T)) → IsBelow m (numbers_of slots) → IsBelow m (numbers_of (items_where_true bs slots))
  left-below m [] slots all = tt
  left-below m (b ∷ bs) [] all = tt
  left-below m (true ∷ bs) (slot ∷ slots) all = (all.0, left-below m bs slots all.1)
  left-below m (false ∷ bs) (slot ∷ slots) all = left-below m bs slots all.1

  left-sorted : (bs : List Bool) (slots : List (Slot T)) → IsStrictlySortedBy nat_cmp (numbers_of slots) → IsStrictlySortedBy nat_cmp (numbers_of (items_where_true bs slots))
  unfolding IsStrictlySortedBy
  left-sorted [] slots rising = tt
  left-sorted (b ∷ bs) [] rising = tt
  left-sorted (true ∷ bs) (slot ∷ slots) rising = (left-below (number_of slot) bs slots rising.0, left-sorted bs slots rising.1)
  left-sorted (false ∷ bs) (slot ∷ slots) rising = left-sorted bs slots rising.1

  pub kept-left : (bs : List Bool) (slots : List (Slot T)) (count : ℕ) → AreKept slots count → AreKeptBy g keep bs slots → AreKept (items_where_true bs slots) (length (items_where_true bs slots))
  kept-left bs slots count kept are =
      let full = left-full bs slots are in
      record { rising = left-sorted bs slots kept.rising; counted = full-counted _ full; full = full-begins _ full }

  pub entries-left : (test : T → Bool) (pure : AnswersBy g keep test) (bs : List Bool) (slots : List (Slot T)) → length bs ≡ length slots → AreKeptBy g keep bs slots
      → entries_of (items_where_true bs slots) ≡ filter (λ e. test e.1) (entries_of slots)
  entries-left test pure [] [] same are = refl
  entries-left test pure [] (slot ∷ slots) same are = absurd (omega (arith, same))
  entries-left test pure (b ∷ bs) [] same are = absurd (omega (arith, same))
  entries-left test pure (true ∷ bs) (slot ∷ slots) same are = by (value_of slot) refl are.0 (entries-left test pure bs slots (omega (arith, same)) are.1)
    where
      by : (v : Option T) → value_of slot ≡ v → MatchOption v (true ≡ false) (λ value. FnReturnsAt g keep value true) → entries_of (items_where_true bs slots) ≡ filter (λ e. test e.1) (entries_of slots)
          → entries_of (slot ∷ items_where_true bs slots) ≡ filter (λ e. test e.1) (joined (number_of slot) v (entries_of slots))
      by None is no_value rest = absurd (let wrong = no_value in cc)
      by (Some x) is says rest = rw (is, ← pure.by x true says) (ap (λ l. (number_of slot, x) ∷ l) rest)
  entries-left test pure (false ∷ bs) (slot ∷ slots) same are = by (value_of slot) are.0 (entries-left test pure bs slots (omega (arith, same)) are.1)
    where
      by : (v : Option T) → MatchOption v (false ≡ false) (λ value. FnReturnsAt g keep value false) → entries_of (items_where_true bs slots) ≡ filter (λ e. test e.1) (entries_of slots)
          → entries_of (items_where_true bs slots) ≡ filter (λ e. test e.1) (joined (number_of slot) v (entries_of slots))
      by None says rest = rest
      by (Some x) says rest = rw (← pure.by x false says) rest

  filter-joined : (test : ℕ × T → Bool) (k : ℕ) (v : Option T) (es fs : List (ℕ × T)) → length (filter test es) ≤ length (filter test fs) → length (filter test (joined k v es)) ≤ length (filter test (joined k v fs))
  filter-joined test k None es fs fewer = fewer
  filter-joined test k (Some x) es fs fewer = by (test (k, x)) fewer
    where
      by : (b : Bool) → length (filter test es) ≤ length (filter test fs) → length (cond b ((k, x) ∷ filter test es) (filter test es)) ≤ length (cond b ((k, x) ∷ filter test fs) (filter test fs))
      by true fewer = omega (arith, fewer)
      by false fewer = fewer

  filter-more : (test : ℕ × T → Bool) (k : ℕ) (v : Option T) (es : List (ℕ × T)) → length (filter test es) ≤ length (filter test (joined k v es))
  filter-more test k None es = omega arith
  filter-more test k (Some x) es = by (test (k, x))
    where
      by : (b : Bool) → length (filter test es) ≤ length (cond b ((k, x) ∷ filter test es) (filter test es))
      by true = omega arith
      by false = omega arith

  pub fewer-left : (test : ℕ × T → Bool) (bs : List Bool) (slots : List (Slot T)) → length (filter test (entries_of (items_where_true bs slots))) ≤ length (filter test (entries_of slots))
  fewer-left test [] slots = omega arith
  fewer-left test (b ∷ bs) [] = omega arith
  fewer-left test (true ∷ bs) (slot ∷ slots) = filter-joined test (number_of slot) (value_of slot) _ _ (fewer-left test bs slots)
  fewer-left test (false ∷ bs) (slot ∷ slots) = omega (arith, fewer-left test bs slots, filter-more test (number_of slot) (value_of slot) (entries_of slots))

  pub found-left : (n : ℕ) (x : T) (bs : List Bool) (slots : List (Slot T)) → IsStrictlySortedBy nat_cmp (numbers_of slots) → lookup (is_at (nat_cmp n)) (entries_of (items_where_true bs slots)) ≡ Some x → lookup (is_at (nat_cmp n)) (entries_of slots) ≡ Some x
  unfolding IsStrictlySortedBy
  found-left n x [] slots rising some = absurd (let wrong = some in cc)
  found-left n x (b ∷ bs) [] rising some = absurd (let wrong = some in cc)
  found-left n x (true ∷ bs) (slot ∷ slots) rising some = found-joined n (number_of slot) x (value_of slot) _ _ (found-left n x bs slots rising.1) some
  found-left n x (false ∷ bs) (slot ∷ slots) rising some =
      let rest = found-left n x bs slots rising.1 some in
      lookup-past n (number_of slot) (value_of slot) (entries_of slots) (above-apart n (number_of slot) (entries_of slots) (entries-below (number_of slot) slots rising.0) (λ none. let wrong = sym rest ∙ none in cc)) ∙ rest
