-- A desk stays as it is to be.
use Rattle.std.proofs.Common.{◌≡◌, ◌≤◌, ◌<◌, ℕ, ◌+◌, Bool, true, false, nat_lt, cond, List, [], ◌∷◌, ◌++◌, Option, None, Some, length, map, take, slice_index_or, subst, refl, sym, ◌∙◌, ap, arith, length-append}
use Rattle.std.specs.Option.{ForSome, option_map}
use Rattle.std.proofs.lemmas.List.{length-map}
use Rattle.resolver_types.specs.Names.{Names, same_key, same_subscriber}
use Rattle.resolver_messages.specs.declared.message.Message.{Message}
use Rattle.resolver_desk.specs.declared.book.Book.{Book as Raw}
use Rattle.resolver_messages.specs.Waiting.{Backlog, IsRight, Item, Told, behind_first, handled, no_backlog, told_of, waiting}
use Rattle.resolver_desk.specs.Book.{IsLegal, Close, Take, closes, puts_of}
use Rattle.resolver_desk.specs.Desk.{Book, Desk, IsKept, book_of, desk_closed, desk_of, desk_put, desk_taken, empty_book, empty_desk, has_room, number_of, placed, with_call, with_put}
use Rattle.resolver_desk.proofs.Calls.{closes-close, closes-put, closes-take, legal-behind, legal-close, legal-ready, legal-take}

some-map : {A B : Type 0} (f : A → B) (P : B → Type 0) (o : Option A) → ForSome o (λ a. P (f a)) → ForSome (option_map f o) P
some-map f P None all x is = absurd (let wrong = is in cc)
some-map f P (Some a) all x is = subst P (picked is) (all a refl) where
  out : {B : Type 0} → B → Option B → B
  out d None = d
  out d (Some b) = b

  picked : Some (f a) ≡ Some x → f a ≡ x
  picked e = ap (out x) e

one-first : {A : Type 0} (xs : List A) → length (take 1 xs) ≤ 1
one-first [] = omega arith
one-first (x ∷ xs) = omega arith

below-capacity : (n m : ℕ) → nat_lt n m ≡ true → n < m
below-capacity n m is = grind (arith, is)

module _ {K S M Q : Type 0} (n : Names K S) (merged : M → M → M)
    (follows : (a b c : K) → same_key n a b ≡ true → same_key n a c ≡ same_key n b c)
    (follows_too : (a b c : S) → same_subscriber n a b ≡ true → same_subscriber n a c ≡ same_subscriber n b c)
    (keeps : Q → K → S → Bool)
    (alike : (test : Q) (k l : K) (s t : S) → same_key n k l ≡ true → same_subscriber n s t ≡ true → keeps test k s ≡ keeps test l t) where
  pub kept-put : (desk : Desk K S M Q) (handle : Option ℕ) (told : Told K S M Q) → desk.is_closed ≡ false
      → (has_room desk ≡ false → IsRight n keeps (waiting desk.backlog ++ told ∷ []) (waiting (handled n merged keeps desk.backlog told)))
      → IsKept n keeps desk → IsKept n keeps (record (placed n merged keeps told desk) { book = option_map (with_put handle told (has_room desk)) desk.book })
  kept-put desk handle told is_open right kept = cases (has_room desk) refl where
    open_book : (book : Book K S M Q) → desk.book ≡ Some book → closes book.calls ≡ 0
    open_book book is = kept.closed book is ∙ ap (λ (t : Bool). cond t 1 0) is_open

    cases : (t : Bool) → has_room desk ≡ t
        → IsKept n keeps (record (cond t (record desk { ready = desk.ready ++ told ∷ [] }) (record desk { backlog = handled n merged keeps desk.backlog told })) { book = option_map (with_put handle told t) desk.book })
    cases true room =
        record {
          some = kept.some;
          within = let less = below-capacity (length desk.ready) desk.capacity room in let more : length (desk.ready ++ told ∷ []) ≡ length desk.ready + 1 = length-append desk.ready (told ∷ []) in omega (arith, less, more);
          full = λ left. kept.full room;
          legal = some-map (with_put handle told true) (λ book. IsLegal n keeps book.calls (desk.ready ++ told ∷ []) (waiting desk.backlog)) desk.book
              (λ book is. legal-ready n merged follows follows_too keeps alike book.calls desk.ready (waiting desk.backlog) (number_of handle book) told (open_book book is) (kept.full room) (kept.legal book is));
          closed = some-map (with_put handle told true) (λ book. closes book.calls ≡ cond desk.is_closed 1 0) desk.book
              (λ book is. closes-put book.calls (number_of handle book) (length (puts_of (number_of handle book) book.calls)) told true ∙ kept.closed book is);
        }
    cases false room =
        record {
          some = kept.some;
          within = kept.within;
          full = λ left. absurd (let wrong = sym room ∙ left in cc);
          legal = some-map (with_put handle told false) (λ book. IsLegal n keeps book.calls desk.ready (waiting (handled n merged keeps desk.backlog told))) desk.book
              (λ book is. legal-behind n merged follows follows_too keeps alike book.calls desk.ready desk.backlog (number_of handle book) told (open_book book is) (right room) (kept.legal book is));
          closed = some-map (with_put handle told false) (λ book. closes book.calls ≡ cond desk.is_closed 1 0) desk.book
              (λ book is. closes-put book.calls (number_of handle book) (length (puts_of (number_of handle book) book.calls)) told false ∙ kept.closed book is);
        }

module _ {K S M Q : Type 0} (n : Names K S) (merged : M → M → M) (keeps : Q → K → S → Bool) where
  -- what a put makes of the fields
  pub put-is : (capacity : ℕ) (ready left : List (Message K S M Q)) (backlog behind : Backlog K S M Q) (book noted : Option (Raw K S M Q)) (handle : Option ℕ) (told : Told K S M Q) (is_ok : Bool)
      → is_ok ≡ nat_lt (length ready) capacity
      → map told_of left ≡ cond is_ok (map told_of ready ++ told ∷ []) (map told_of ready)
      → behind ≡ cond is_ok backlog (handled n merged keeps backlog told)
      → option_map book_of noted ≡ option_map (with_put handle told is_ok) (option_map book_of book)
      → desk_of capacity left behind false noted ≡ desk_put n merged keeps handle told (desk_of capacity ready backlog false book)
  put-is capacity ready left backlog behind book noted handle told is_ok ok is_ready is_behind is_noted =
      cases is_ok is_ready is_behind is_noted
      ∙ ap (λ (t : Bool). record (cond t (record desk { ready = desk.ready ++ told ∷ [] }) (record desk { backlog = handled n merged keeps desk.backlog told })) { book = option_map (with_put handle told t) desk.book }) room where
        desk : Desk K S M Q
        desk = desk_of capacity ready backlog false book

        room : is_ok ≡ has_room desk
        room = ok ∙ ap (λ (l : ℕ). nat_lt l capacity) (sym (length-map ready told_of))

        cases : (t : Bool) → map told_of left ≡ cond t (map told_of ready ++ told ∷ []) (map told_of ready) → behind ≡ cond t backlog (handled n merged keeps backlog told) → option_map book_of noted ≡ option_map (with_put handle told t) (option_map book_of book)
            → desk_of capacity left behind false noted ≡ record (cond t (record desk { ready = desk.ready ++ told ∷ [] }) (record desk { backlog = handled n merged keeps desk.backlog told })) { book = option_map (with_put handle told t) desk.book }
        cases true r b k = λ i. record { capacity = capacity; ready = r i; backlog = b i; is_closed = false; book = k i }
        cases false r b k = λ i. record { capacity = capacity; ready = r i; backlog = b i; is_closed = false; book = k i }

module _ {K S M Q : Type 0} (n : Names K S) (keeps : Q → K → S → Bool) where
  first-behind : (backlog : Backlog K S M Q) → waiting backlog ≡ take 1 (waiting backlog) ++ waiting (behind_first backlog)
  first-behind backlog = cases backlog.retains backlog.batch where
    of : List Q → List (Item K S M) → Backlog K S M Q
    of retains batch = record { retains = retains; batch = batch }

    cases : (retains : List Q) (batch : List (Item K S M)) → waiting (of retains batch) ≡ take 1 (waiting (of retains batch)) ++ waiting (behind_first (of retains batch))
    cases [] [] = refl
    cases [] (item ∷ batch) = refl
    cases (test ∷ retains) batch = refl

  full-then : (capacity : ℕ) (told : Told K S M Q) (ready : List (Told K S M Q)) (waits then : List (Told K S M Q)) → length (told ∷ ready) ≤ capacity → (nat_lt (length (told ∷ ready)) capacity ≡ true → waits ≡ []) → waits ≡ take 1 waits ++ then
      → nat_lt (length (ready ++ take 1 waits)) capacity ≡ true → then ≡ []
  full-then capacity told ready [] then within full parts room = sym parts
  full-then capacity told ready (first ∷ waits) then within full parts room =
      let less = below-capacity (length (ready ++ first ∷ [])) capacity room in
      let more : length (ready ++ first ∷ []) ≡ length ready + 1 = length-append ready (first ∷ []) in
      absurd (let wrong = full (grind (arith, less, more)) in cc)

  pub kept-taken : (desk : Desk K S M Q) → IsKept n keeps desk → IsKept n keeps (desk_taken desk).1
  kept-taken desk kept = cases desk.ready refl where
    cases : (ready : List (Told K S M Q)) → desk.ready ≡ ready → IsKept n keeps (desk_taken (record desk { ready = ready })).1
    cases [] is = subst (λ ready. IsKept n keeps (record desk { ready = ready })) is kept
    cases (told ∷ ready) is =
        let was : IsKept n keeps (record desk { ready = told ∷ ready }) = subst (λ ready. IsKept n keeps (record desk { ready = ready })) is kept in
        let one = one-first (waiting desk.backlog) in
        record {
          some = was.some;
          within = let within = was.within in let more : length (ready ++ take 1 (waiting desk.backlog)) ≡ length ready + length (take 1 (waiting desk.backlog)) = length-append ready (take 1 (waiting desk.backlog)) in omega (arith, one, within, more);
          full = λ room. full-then desk.capacity told ready (waiting desk.backlog) (waiting (behind_first desk.backlog)) was.within was.full (first-behind desk.backlog) room;
          legal = some-map (with_call (Take told)) (λ book. IsLegal n keeps book.calls (ready ++ take 1 (waiting desk.backlog)) (waiting (behind_first desk.backlog))) desk.book
              (λ book found. legal-take n keeps book.calls ready (waiting desk.backlog) (take 1 (waiting desk.backlog)) (waiting (behind_first desk.backlog)) told (first-behind desk.backlog) (was.legal book found));
          closed = some-map (with_call (Take told)) (λ book. closes book.calls ≡ cond desk.is_closed 1 0) desk.book
              (λ book found. closes-take book.calls told ∙ was.closed book found);
        }

  pub kept-closed : (desk : Desk K S M Q) → desk.is_closed ≡ false → IsKept n keeps desk → IsKept n keeps (record desk { is_closed = true; book = option_map (with_call Close) desk.book })
  kept-closed desk is_open kept = record {
    some = kept.some;
    within = kept.within;
    full = kept.full;
    legal = some-map (with_call Close) (λ book. IsLegal n keeps book.calls desk.ready (waiting desk.backlog)) desk.book
        (λ book is. legal-close n keeps book.calls desk.ready (waiting desk.backlog) (kept.closed book is ∙ ap (λ (t : Bool). cond t 1 0) is_open) (kept.legal book is));
    closed = some-map (with_call Close) (λ book. closes book.calls ≡ 1) desk.book
        (λ book is. closes-close book.calls ∙ ap (λ (count : ℕ). count + 1) (kept.closed book is ∙ ap (λ (t : Bool). cond t 1 0) is_open));
  }

  -- a new desk
  legal-empty : IsLegal {M = M} n keeps [] [] []
  legal-empty = record {
    meaning = λ d k s. refl;
    places = λ h. refl;
    in_time = refl;
    closed_once = omega arith;
    in_order = λ fine. refl;
    none_behind = λ fine. refl;
  }

  pub kept-empty : (capacity : ℕ) → 0 < capacity → IsKept {M = M} n keeps (empty_desk capacity (Some empty_book))
  kept-empty capacity some = record {
    some = some;
    within = omega arith;
    full = λ room. refl;
    legal = some-map (λ (t : Bool). empty_book {K = K} {S = S} {M = M} {Q = Q}) (λ book. IsLegal n keeps book.calls [] []) (Some true) (λ t is. legal-empty);
    closed = some-map (λ (t : Bool). empty_book {K = K} {S = S} {M = M} {Q = Q}) (λ book. closes book.calls ≡ 0) (Some true) (λ t is. refl);
  }

  pub empty-is : (capacity : ℕ) (ready : List (Message K S M Q)) (backlog : Backlog K S M Q) (book : Raw K S M Q) → ready ≡ [] → backlog ≡ no_backlog → book_of book ≡ empty_book
      → desk_of capacity ready backlog false (Some book) ≡ empty_desk capacity (Some empty_book)
  empty-is capacity ready backlog book r b k = λ i. record { capacity = capacity; ready = map told_of (r i); backlog = b i; is_closed = false; book = Some (k i) }

  -- what a take makes of the fields
  pub taken-is : (capacity : ℕ) (ready left : List (Message K S M Q)) (backlog behind : Backlog K S M Q) (is_closed : Bool) (book noted : Option (Raw K S M Q)) (first front : Message K S M Q)
      → told_of first ∷ map told_of left ≡ map told_of ready ++ take 1 (waiting backlog)
      → 0 < length ready → front ≡ slice_index_or ready 0 front
      → behind ≡ behind_first backlog
      → option_map book_of noted ≡ option_map (with_call (Take (told_of front))) (option_map book_of book)
      → (Some (told_of first), desk_of capacity left behind is_closed noted) ≡ desk_taken (desk_of capacity ready backlog is_closed book)
  taken-is capacity [] left backlog behind is_closed book noted first front is some at b k = absurd (omega (arith, some))
  taken-is capacity (told ∷ ready) left backlog behind is_closed book noted first front is some at b k =
      let same : told_of first ≡ told_of told = ap (head-or (told_of told)) is in
      let rest : map told_of left ≡ map told_of ready ++ take 1 (waiting backlog) = ap tail is in
      let here : front ≡ told = at in
      λ i. (Some (same i), record { capacity = capacity; ready = rest i; backlog = b i; is_closed = is_closed; book = (k ∙ ap (λ t. option_map (with_call (Take t)) (option_map book_of book)) (ap told_of here)) i }) where
        head-or : Told K S M Q → List (Told K S M Q) → Told K S M Q
        head-or d [] = d
        head-or d (x ∷ xs) = x

        tail : List (Told K S M Q) → List (Told K S M Q)
        tail [] = []
        tail (x ∷ xs) = xs

  pub closed-is : (capacity : ℕ) (ready : List (Message K S M Q)) (backlog : Backlog K S M Q) (book noted : Option (Raw K S M Q))
      → option_map book_of noted ≡ option_map (with_call Close) (option_map book_of book)
      → desk_of capacity ready backlog true noted ≡ desk_closed (desk_of capacity ready backlog false book)
  closed-is capacity ready backlog book noted k = λ i. record { capacity = capacity; ready = map told_of ready; backlog = backlog; is_closed = true; book = k i }
