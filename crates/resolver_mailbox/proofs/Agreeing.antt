-- A book that is read call by call.
use Rattle.std.proofs.Common.{◌≡◌, ℕ, zero, suc, ◌+◌, ◌<◌, ◌≤◌, Bool, true, false, nat_eq, cond, List, [], ◌∷◌, ◌++◌, length, map, take, drop, slice_index_or, Option, None, Some, is_some, subst, refl, sym, ◌∙◌, ap, arith}
use Rattle.std.specs.Prelude.{◌↔◌, Result, Ok, Err, IfOk, IfErr, OnErr}
use Rattle.std.specs.List.{All}
use Rattle.std.specs.Option.{option_map_or}
use Rattle.std.proofs.lemmas.List.{append-nil, length-map, length-take-le, map-append, take_more, take_all}
use Rattle.std.proofs.lemmas.Bool.{eq-eqb, eqb-true, false≢true}
use Rattle.resolver_messages.specs.declared.message.Message.{Message}
use Rattle.resolver_desk.specs.declared.entry.Entry.{Entry}
use Rattle.resolver_desk.specs.declared.entry.Entry.TheVariants as entries
use Rattle.resolver_desk.specs.declared.entry.Posted.{Posted}
use Rattle.resolver_types.specs.Names.{Names}
use Rattle.resolver_messages.specs.Waiting.{Told, told_of, waiting}
use Rattle.resolver_desk.specs.Book.{Call, IsBook, call_of, closes, puts_of}
use Rattle.resolver_desk.specs.Desk.{Book, Desk, IsKept, calls_of}
use Rattle.resolver_mailbox.specs.Shares.{Differs, Share}
use Rattle.resolver_desk.proofs.Calls.{closes-append}

first : {A : Type 0} → A → List A → A
first d [] = d
first d (x ∷ xs) = x

behind : {A : Type 0} → List A → List A
behind [] = []
behind (x ∷ xs) = xs

module _ {A B : Type 0} (f : A → B) where
  map-push : (xs : List A) (x : A) → map f (xs ++ x ∷ []) ≡ map f xs ++ f x ∷ []
  map-push [] x = refl
  map-push (y ∷ xs) x = ap (λ ys. f y ∷ ys) (map-push xs x)

  -- one item more
  pub map-more : (xs : List A) (i : ℕ) (x : A) → i < length xs → x ≡ slice_index_or xs i x → map f (take (i + 1) xs) ≡ map f (take i xs) ++ f x ∷ []
  map-more xs i x within is = ap (map f) (take_more xs i x within ∙ ap (λ y. take i xs ++ y ∷ []) (sym is)) ∙ map-push (take i xs) x

  -- what lists that are the same have at one place
  pub same-at : (xs ys : List A) (i : ℕ) (x y : A) → i < length xs → i < length ys → x ≡ slice_index_or xs i x → y ≡ slice_index_or ys i y → map f xs ≡ map f ys → f x ≡ f y
  unfolding first behind
  same-at [] ys i x y within within_too at at_too same = absurd (omega (arith, within))
  same-at (z ∷ xs) [] i x y within within_too at at_too same = absurd (omega (arith, within_too))
  same-at (z ∷ xs) (w ∷ ys) zero x y within within_too at at_too same = ap f at ∙ ap (first (f z)) same ∙ sym (ap f at_too)
  same-at (z ∷ xs) (w ∷ ys) (suc i) x y within within_too at at_too same = same-at xs ys i x y (omega (arith, within)) (omega (arith, within_too)) at at_too (ap behind same)

  -- lists that are the same are as long
  pub same-length : (xs ys : List A) → map f xs ≡ map f ys → length xs ≡ length ys
  same-length xs ys same = sym (length-map xs f) ∙ ap length same ∙ length-map ys f

  -- some of the items are all of them where they are as many
  pub same-all : (xs : List B) (ys : List A) (n : ℕ) → n ≤ length ys → xs ≡ map f (take n ys) → (n ≡ length ys) ↔ (xs ≡ map f ys)
  same-all xs ys n within is = (
    λ all. is ∙ ap (λ (m : ℕ). map f (take m ys)) all ∙ ap (map f) (take_all (length ys) ys (omega arith)),
    λ same. let long : length (take n ys) ≡ length ys = same-length (take n ys) ys (sym is ∙ same) in let short : length (take n ys) ≡ n = length-take-le n ys within in sym short ∙ long,
  )

  -- A list that has another item behind the first ones isn't the same.
  pub other-at : (x : B) (xs : List B) (ys : List A) (n : ℕ) → ((y : A) → n < length ys → y ≡ slice_index_or ys n y → x ≡ f y → ⊥) → n ≤ length ys → map f (take n ys) ++ x ∷ xs ≡ map f ys → ⊥
  unfolding first behind
  other-at x xs [] zero differs within same = let wrong = same in cc
  other-at x xs [] (suc n) differs within same = omega (arith, within)
  other-at x xs (y ∷ ys) zero differs within same = differs y (omega arith) refl (ap (first x) same)
  other-at x xs (y ∷ ys) (suc n) differs within same = other-at x xs ys n (λ z less at. differs z (omega (arith, less)) at) (omega (arith, within)) (ap behind same)

-- what is so of each is so of what stands at a place
pub so-at : {A B : Type 0} (f : A → B) (P : B → Type 0) (xs : List A) (i : ℕ) (x : A) → i < length xs → x ≡ slice_index_or xs i x → All P (map f xs) → P (f x)
so-at f P [] i x within at all = absurd (omega (arith, within))
so-at f P (y ∷ xs) zero x within at all = subst P (sym (ap f at)) (all 0 (f x) (omega arith))
so-at f P (y ∷ xs) (suc i) x within at all = so-at f P xs i x (omega (arith, within)) at (λ k d less. all (suc k) d (omega (arith, less)))

-- what stands at a place, between those before it and those behind it
pub parts-at : {A : Type 0} (xs : List A) (i : ℕ) (x : A) → i < length xs → x ≡ slice_index_or xs i x → xs ≡ take i xs ++ x ∷ drop (suc i) xs
parts-at [] i x within at = absurd (omega (arith, within))
parts-at (y ∷ xs) zero x within at = ap (λ z. z ∷ xs) (sym at)
parts-at (y ∷ xs) (suc i) x within at = ap (λ zs. y ∷ zs) (parts-at xs i x (omega (arith, within)) at)

-- What isn't so where a test says no.
pub refuted : {P : Type 0} (test : Bool) → test ≡ false → (P → test ≡ true) → P → ⊥
refuted test off back is = false≢true (sym off ∙ back is)

-- what a book has of some calls, as its takes or the puts of a handle
module _ {K S M Q : Type 0} (picked : List (Call K S M Q) → List (Told K S M Q)) (parts : (xs ys : List (Call K S M Q)) → picked (xs ++ ys) ≡ picked xs ++ picked ys) where
  -- A call of these is the next of the messages.
  pub picks : (listed : List (Entry K S M Q)) (i : ℕ) (entry : Entry K S M Q) (messages : List (Message K S M Q)) (n : ℕ) (told : Told K S M Q) (other : Message K S M Q)
      → i < length listed → entry ≡ slice_index_or listed i entry → picked (map call_of (take i listed)) ≡ map told_of (take n messages)
      → picked (call_of entry ∷ []) ≡ told ∷ [] → told ≡ told_of other → n < length messages → other ≡ slice_index_or messages n other
      → picked (map call_of (take (i + 1) listed)) ≡ map told_of (take (n + 1) messages)
  picks listed i entry messages n told other within is before one same room at =
      ap picked (map-more call_of listed i entry within is)
      ∙ parts (map call_of (take i listed)) (call_of entry ∷ [])
      ∙ (λ j. before j ++ one j)
      ∙ ap (λ t. map told_of (take n messages) ++ t ∷ []) same
      ∙ sym (map-more told_of messages n other room at)

  -- Another call adds nothing.
  pub skips : (listed : List (Entry K S M Q)) (i : ℕ) (entry : Entry K S M Q) (tolds : List (Told K S M Q))
      → i < length listed → entry ≡ slice_index_or listed i entry → picked (map call_of (take i listed)) ≡ tolds → picked (call_of entry ∷ []) ≡ []
      → picked (map call_of (take (i + 1) listed)) ≡ tolds
  skips listed i entry tolds within is before none =
      ap picked (map-more call_of listed i entry within is)
      ∙ parts (map call_of (take i listed)) (call_of entry ∷ [])
      ∙ (λ j. before j ++ none j)
      ∙ append-nil tolds

  -- A call of these isn't the next of the messages.
  pub differs : (listed : List (Entry K S M Q)) (i : ℕ) (entry : Entry K S M Q) (messages : List (Message K S M Q)) (n : ℕ) (told : Told K S M Q)
      → i < length listed → entry ≡ slice_index_or listed i entry → picked (map call_of (take i listed)) ≡ map told_of (take n messages)
      → picked (call_of entry ∷ []) ≡ told ∷ [] → n ≤ length messages → ((other : Message K S M Q) → n < length messages → other ≡ slice_index_or messages n other → told ≡ told_of other → ⊥)
      → picked (map call_of listed) ≡ map told_of messages → ⊥
  differs listed i entry messages n told within is before one short apart same = other-at told_of told (picked (map call_of (drop (suc i) listed))) messages n apart short (sym whole ∙ same) where
    whole : picked (map call_of listed) ≡ map told_of (take n messages) ++ told ∷ picked (map call_of (drop (suc i) listed))
    whole =
        ap (λ es. picked (map call_of es)) (parts-at listed i entry within is)
        ∙ ap picked (map-append call_of (take i listed) (entry ∷ drop (suc i) listed))
        ∙ parts (map call_of (take i listed)) (call_of entry ∷ map call_of (drop (suc i) listed))
        ∙ (λ j. before j ++ parts (call_of entry ∷ []) (map call_of (drop (suc i) listed)) j)
        ∙ ap (λ ts. map told_of (take n messages) ++ (ts ++ picked (map call_of (drop (suc i) listed)))) one

module _ {K S M Q : Type 0} where
  pub one-put : (h : ℕ) (entry : Entry K S M Q) (posted : Posted K S M Q) → entry ≡ entries.Put posted → posted.handle ≡ h → puts_of h (call_of entry ∷ []) ≡ told_of posted.message ∷ []
  one-put h entry posted was by = ap (λ e. puts_of h (call_of e ∷ [])) was ∙ ap (λ (t : Bool). cond t (told_of posted.message ∷ []) []) (eq-eqb posted.handle h by)

  pub no-put : (h : ℕ) (posted : Posted K S M Q) → (posted.handle ≡ h → ⊥) → puts_of h (call_of (entries.Put posted) ∷ []) ≡ []
  no-put h posted apart = cases (nat_eq posted.handle h) refl where
    cases : (t : Bool) → nat_eq posted.handle h ≡ t → cond t (told_of posted.message ∷ []) [] ≡ []
    cases true is = absurd (apart (eqb-true posted.handle h is))
    cases false is = refl

  -- a close that stands somewhere is counted
  pub closes-at : (listed : List (Entry K S M Q)) (i : ℕ) (entry : Entry K S M Q) → i < length listed → entry ≡ slice_index_or listed i entry → entry ≡ entries.Close → 0 < closes (map call_of listed)
  closes-at [] i entry within is was = absurd (omega arith)
  closes-at (entries.Close ∷ listed) i entry within is was = omega arith
  closes-at (entries.Put posted ∷ listed) zero entry within is was = absurd cc
  closes-at (entries.Take message ∷ listed) zero entry within is was = absurd cc
  closes-at (entries.Put posted ∷ listed) (suc i) entry within is was = closes-at listed i entry (omega arith) is was
  closes-at (entries.Take message ∷ listed) (suc i) entry within is was = closes-at listed i entry (omega arith) is was

  -- Another call than a close is none.
  pub closes-skip : (listed : List (Entry K S M Q)) (i : ℕ) (entry : Entry K S M Q) → i < length listed → entry ≡ slice_index_or listed i entry → (entry ≡ entries.Close → ⊥)
      → closes (map call_of (take i listed)) ≡ 0 → closes (map call_of (take (i + 1) listed)) ≡ 0
  closes-skip listed i entry within is other before =
      ap closes (map-more call_of listed i entry within is)
      ∙ omega (arith, before, none entry other, closes-append (map call_of (take i listed)) (call_of entry ∷ [])) where
        none : (entry : Entry K S M Q) → (entry ≡ entries.Close → ⊥) → closes (call_of entry ∷ []) ≡ 0
        none (entries.Put posted) other = refl
        none (entries.Take message) other = refl
        none (entries.Close) other = absurd (other refl)

module _ {K S M Q : Type 0} (n : Names K S) (keeps : Q → K → S → Bool) where
  -- the calls of a recorded desk are its book
  pub kept-book : (desk : Desk K S M Q) → is_some desk.book ≡ true → IsKept n keeps desk → IsBook n keeps (calls_of desk)
  kept-book desk some kept = cases desk.book refl some where
    cases : (book : Option (Book K S M Q)) → desk.book ≡ book → is_some book ≡ true → IsBook n keeps (option_map_or (λ b. b.calls) book [])
    cases None is some = absurd cc
    cases (Some book) is some = (desk.ready, waiting desk.backlog, kept.legal book is)

  -- a copy of a book is one
  pub copied-book : {A E : Type 0} (calls_of : A → List (Call K S M Q)) (copied : Result A E) (was calls : List (Call K S M Q)) → IfOk copied (λ copy. calls_of copy ≡ was) → was ≡ calls
      → IsBook n keeps calls → IfOk copied (λ copy. IsBook n keeps (calls_of copy))
  copied-book calls_of (Ok copy) was calls same is book = subst (IsBook n keeps) (sym (same ∙ is)) book
  copied-book calls_of (Err fault) was calls same is book = same

module _ {K S M Q : Type 0} where
  -- a book that was refused differs, and so does the empty one if it is that
  pub differs-empty : {A E : Type 0} (agreed : Result A E) (fact : E → Type 0) (book : List (Call K S M Q)) (given taken : List (Told K S M Q)) (shares : List (Share K S M Q)) → book ≡ [] → given ≡ taken
      → OnErr agreed (Differs book given shares) → IfErr agreed (λ fault. fact fault → Differs [] taken shares)
  differs-empty (Ok same) fact book given taken shares is listed differs = differs
  differs-empty (Err fault) fact book given taken shares is listed differs =
      λ known. subst (λ calls. Differs calls taken shares) is (subst (λ messages. Differs book messages shares) listed differs)
