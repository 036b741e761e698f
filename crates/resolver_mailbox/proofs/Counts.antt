-- The totals of a desk's book go with its calls.
use Rattle.std.proofs.Common.{◌≡◌, ℕ, ◌+◌, ◌-◌, ◌^◌, Bool, true, false, cond, List, [], ◌∷◌, ◌++◌, Option, None, Some, is_some, length, subst, refl, sym, ◌∙◌, ap, arith, length-append}
use Rattle.std.specs.Prelude.{Result, Ok, Err, IfOk, OnOk, OnErr, ◌-◌, ◌^◌}
use Rattle.std.specs.Option.{ForSome, option_map, option_map_or, option_to_list}
use Rattle.std.proofs.lemmas.List.{append-nil}
use Rattle.resolver_types.specs.Names.{Names}
use Rattle.resolver_messages.specs.Waiting.{Told}
use Rattle.resolver_desk.specs.Book.{Call, Close, Put, Take, puts, puts_of, takes}
use Rattle.resolver_desk.specs.Desk.{Book, Desk, desk_closed, desk_put, desk_taken, has_room, next_of, number_of, placed, with_call, with_put}
use Rattle.resolver_mailbox.specs.Shares.{IsCounted}
use Rattle.resolver_desk.proofs.Calls.{puts-append, takes-append}

pub for-one : {A : Type 0} (P : A → Type 0) (a : A) → P a → ForSome (Some a) P
for-one {A = A} P a is x same = subst P (ap out same) is where
  out : Option A → A
  out None = a
  out (Some b) = b

module _ {K S M Q : Type 0} where
  -- the totals are those of this book
  abbrev Counts : ℕ → ℕ → ℕ → Option (Book K S M Q) → Type 0
  Counts put taken spare book =
      (put ≡ length (puts (option_map_or (λ b. b.calls) book [])))
      × (taken ≡ length (takes (option_map_or (λ b. b.calls) book [])))
      × (spare + option_map_or (λ b. b.next_handle) book 0 ≡ 2 ^ 64 - 1)

  book-put : (put taken spare left : ℕ) (handle : Option ℕ) (told : Told K S M Q) (is_ok : Bool) (book : Book K S M Q) → left + next_of handle book ≡ 2 ^ 64 - 1
      → Counts put taken spare (Some book) → Counts (put + 1) taken left (Some (with_put handle told is_ok book))
  book-put put taken spare left handle told is_ok book parts counts =
      let call : Call K S M Q = Put (number_of handle book) (length (puts_of (number_of handle book) book.calls)) told is_ok in
      let more : length (puts (book.calls ++ call ∷ [])) ≡ length (puts book.calls) + 1 = ap length (puts-append book.calls (call ∷ [])) ∙ length-append (puts book.calls) (told ∷ []) in
      let same : length (takes (book.calls ++ call ∷ [])) ≡ length (takes book.calls) = ap length (takes-append book.calls (call ∷ []) ∙ append-nil (takes book.calls)) in
      let was = counts.0 in
      (omega (arith, more, was), counts.1 ∙ sym same, parts)

  book-take : (put taken spare : ℕ) (told : Told K S M Q) (book : Book K S M Q) → Counts put taken spare (Some book)
      → Counts put (taken + 1) spare (Some (with_call (Take told) book))
  book-take put taken spare told book counts =
      let more : length (takes (book.calls ++ Take told ∷ [])) ≡ length (takes book.calls) + 1 = ap length (takes-append book.calls (Take told ∷ [])) ∙ length-append (takes book.calls) (told ∷ []) in
      let same : length (puts (book.calls ++ Take told ∷ [])) ≡ length (puts book.calls) = ap length (puts-append book.calls (Take told ∷ []) ∙ append-nil (puts book.calls)) in
      let was = counts.1 in
      (counts.0 ∙ sym same, omega (arith, more, was), counts.2)

  book-close : (put taken spare : ℕ) (book : Book K S M Q) → Counts put taken spare (Some book) → Counts put taken spare (Some (with_call Close book))
  book-close put taken spare book counts =
      let same : length (puts (book.calls ++ Close ∷ [])) ≡ length (puts book.calls) = ap length (puts-append book.calls (Close ∷ []) ∙ append-nil (puts book.calls)) in
      let same_too : length (takes (book.calls ++ Close ∷ [])) ≡ length (takes book.calls) = ap length (takes-append book.calls (Close ∷ []) ∙ append-nil (takes book.calls)) in
      (counts.0 ∙ sym same, counts.1 ∙ sym same_too, counts.2)

  -- a close leaves the counts
  pub closed-counted : (put taken spare : ℕ) (desk : Desk K S M Q) → IsCounted put taken spare desk → IsCounted put taken spare (desk_closed desk)
  closed-counted put taken spare desk counts = cases desk.is_closed where
    noted : (book : Option (Book K S M Q)) → Counts put taken spare book → Counts put taken spare (option_map (with_call Close) book)
    noted None is = is
    noted (Some book) is = book-close put taken spare book is

    cases : (t : Bool) → Counts put taken spare (cond t desk (record desk { is_closed = true; book = option_map (with_call Close) desk.book })).book
    cases true = counts
    cases false = noted desk.book counts

  pub closed-recorded : (desk : Desk K S M Q) → is_some (desk_closed desk).book ≡ is_some desk.book
  closed-recorded desk = cases desk.is_closed where
    noted : (book : Option (Book K S M Q)) → is_some (option_map (with_call Close) book) ≡ is_some book
    noted None = refl
    noted (Some book) = refl

    cases : (t : Bool) → is_some (cond t desk (record desk { is_closed = true; book = option_map (with_call Close) desk.book })).book ≡ is_some desk.book
    cases true = refl
    cases false = noted desk.book

  -- a take is one take more, if it gives anything
  pub taken-counted : (put taken spare : ℕ) (desk : Desk K S M Q) → is_some desk.book ≡ true → IsCounted put taken spare desk
      → IsCounted put (taken + length (option_to_list (desk_taken desk).0)) spare (desk_taken desk).1
  taken-counted put taken spare desk some counts = cases desk.ready refl where
    noted : (told : Told K S M Q) (book : Option (Book K S M Q)) → is_some book ≡ true → Counts put taken spare book → Counts put (taken + 1) spare (option_map (with_call (Take told)) book)
    noted told None some is = absurd cc
    noted told (Some book) some is = book-take put taken spare told book is

    cases : (ready : List (Told K S M Q)) → desk.ready ≡ ready
        → Counts put (taken + length (option_to_list (desk_taken (record desk { ready = ready })).0)) spare (desk_taken (record desk { ready = ready })).1.book
    cases [] is = let was = counts.1 in (counts.0, omega (arith, was), counts.2)
    cases (told ∷ ready) is = noted told desk.book some counts

  pub taken-recorded : (desk : Desk K S M Q) → is_some (desk_taken desk).1.book ≡ is_some desk.book
  taken-recorded desk = cases desk.ready where
    noted : (told : Told K S M Q) (book : Option (Book K S M Q)) → is_some (option_map (with_call (Take told)) book) ≡ is_some book
    noted told None = refl
    noted told (Some book) = refl

    cases : (ready : List (Told K S M Q)) → is_some (desk_taken (record desk { ready = ready })).1.book ≡ is_some desk.book
    cases [] = refl
    cases (told ∷ ready) = noted told desk.book

module _ {K S M Q : Type 0} (n : Names K S) (merged : M → M → M) (keeps : Q → K → S → Bool) where
  put-book : (handle : Option ℕ) (told : Told K S M Q) (desk : Desk K S M Q) → desk.is_closed ≡ false
      → (desk_put n merged keeps handle told desk).book ≡ option_map (with_put handle told (has_room desk)) desk.book
  put-book handle told desk unclosed =
      ap (λ (t : Bool). (cond t desk (record (placed n merged keeps told desk) { book = option_map (with_put handle told (has_room desk)) desk.book })).book) unclosed

  -- a put by a handle that has a number is one put more
  pub put-counted : (put taken spare : ℕ) (handle : ℕ) (told : Told K S M Q) (desk : Desk K S M Q) → desk.is_closed ≡ false → is_some desk.book ≡ true
      → IsCounted put taken spare desk → IsCounted (put + 1) taken spare (desk_put n merged keeps (Some handle) told desk)
  put-counted put taken spare handle told desk unclosed some counts =
      subst (Counts (put + 1) taken spare) (sym (put-book (Some handle) told desk unclosed)) (noted desk.book some counts) where
        noted : (book : Option (Book K S M Q)) → is_some book ≡ true → Counts put taken spare book → Counts (put + 1) taken spare (option_map (with_put (Some handle) told (has_room desk)) book)
        noted None some is = absurd cc
        noted (Some book) some is = book-put put taken spare spare (Some handle) told (has_room desk) book is.2 is

  -- the first put of a handle takes a part too
  pub first-counted : (put taken spare left : ℕ) (told : Told K S M Q) (desk : Desk K S M Q) → desk.is_closed ≡ false → is_some desk.book ≡ true → left + 1 ≡ spare
      → IsCounted put taken spare desk → IsCounted (put + 1) taken left (desk_put n merged keeps None told desk)
  first-counted put taken spare left told desk unclosed some part counts =
      subst (Counts (put + 1) taken left) (sym (put-book None told desk unclosed)) (noted desk.book some counts) where
        noted : (book : Option (Book K S M Q)) → is_some book ≡ true → Counts put taken spare book → Counts (put + 1) taken left (option_map (with_put None told (has_room desk)) book)
        noted None some is = absurd cc
        noted (Some book) some is = let parts = is.2 in book-put put taken spare left None told (has_room desk) book (omega (arith, parts, part)) is

  pub put-recorded : (handle : Option ℕ) (told : Told K S M Q) (desk : Desk K S M Q) → desk.is_closed ≡ false → is_some (desk_put n merged keeps handle told desk).book ≡ is_some desk.book
  put-recorded handle told desk unclosed = ap is_some (put-book handle told desk unclosed) ∙ noted desk.book where
    noted : (book : Option (Book K S M Q)) → is_some (option_map (with_put handle told (has_room desk)) book) ≡ is_some book
    noted None = refl
    noted (Some book) = refl

  -- a put of a handle that has a number, also where memory is wanting
  pub stored-recorded : {F E : Type 0} (result : Result F E) (handle : Option ℕ) (told : Told K S M Q) (desk now : Desk K S M Q) → desk.is_closed ≡ false
      → OnOk result (now ≡ desk_put n merged keeps handle told desk) → OnErr result (now ≡ desk) → is_some now.book ≡ is_some desk.book
  stored-recorded (Ok feedback) handle told desk now unclosed is err = ap (λ desk. is_some desk.book) is ∙ put-recorded handle told desk unclosed
  stored-recorded (Err fault) handle told desk now unclosed is err = ap (λ desk. is_some desk.book) err

  pub stored-counted : {F E : Type 0} (result : Result F E) (handle : ℕ) (told : Told K S M Q) (desk now : Desk K S M Q) (put after taken spare : ℕ) → desk.is_closed ≡ false → is_some desk.book ≡ true
      → OnOk result (now ≡ desk_put n merged keeps (Some handle) told desk) → OnOk result (after ≡ put + 1) → OnErr result (now ≡ desk) → OnErr result (after ≡ put)
      → IsCounted put taken spare desk → IsCounted after taken spare now
  stored-counted (Ok feedback) handle told desk now put after taken spare unclosed some is total same same_total counts =
      subst (λ (count : ℕ). IsCounted count taken spare now) (sym total) (subst (IsCounted (put + 1) taken spare) (sym is) (put-counted put taken spare handle told desk unclosed some counts))
  stored-counted (Err fault) handle told desk now put after taken spare unclosed some is total same same_total counts =
      subst (λ (count : ℕ). IsCounted count taken spare now) (sym same_total) (subst (IsCounted put taken spare) (sym same) counts)

  -- the first put of a handle, also where memory or a number is wanting
  pub begun-recorded : {F E : Type 0} (result : Result F E) (handle : Option ℕ) (told : Told K S M Q) (desk now : Desk K S M Q) → desk.is_closed ≡ false
      → OnOk result (now ≡ desk_put n merged keeps handle told desk) → OnErr result (now ≡ desk) → is_some now.book ≡ is_some desk.book
  begun-recorded (Ok answer) handle told desk now unclosed is err = ap (λ desk. is_some desk.book) is ∙ put-recorded handle told desk unclosed
  begun-recorded (Err fault) handle told desk now unclosed is err = ap (λ desk. is_some desk.book) err

  pub begun-counted : {F E : Type 0} (result : Result F E) (told : Told K S M Q) (desk now : Desk K S M Q) (put after taken spare left : ℕ) → desk.is_closed ≡ false → is_some desk.book ≡ true
      → OnOk result (now ≡ desk_put n merged keeps None told desk) → OnOk result (after ≡ put + 1) → OnOk result (left + 1 ≡ spare)
      → OnErr result (now ≡ desk) → OnErr result (after ≡ put) → OnErr result (left ≡ spare)
      → IsCounted put taken spare desk → IsCounted after taken left now
  begun-counted (Ok answer) told desk now put after taken spare left unclosed some is total part same same_total same_parts counts =
      subst (λ (count : ℕ). IsCounted count taken left now) (sym total) (subst (IsCounted (put + 1) taken left) (sym is) (first-counted put taken spare left told desk unclosed some part counts))
  begun-counted (Err fault) told desk now put after taken spare left unclosed some is total part same same_total same_parts counts =
      subst (λ (count : ℕ). IsCounted count taken left now) (sym same_total) (subst (λ (parts : ℕ). IsCounted put taken parts now) (sym same_parts) (subst (IsCounted put taken spare) (sym same) counts))

module _ {K S M Q : Type 0} where
  -- a take, also where memory is wanting
  pub took-recorded : {X E : Type 0} (told_of : X → Option (Told K S M Q)) (result : Result X E) (desk now : Desk K S M Q)
      → IfOk result (λ given. (told_of given, now) ≡ desk_taken desk) → OnErr result (now ≡ desk) → is_some now.book ≡ is_some desk.book
  took-recorded told_of (Ok given) desk now is err = ap (λ pair. is_some pair.1.book) is ∙ taken-recorded desk
  took-recorded told_of (Err fault) desk now is err = ap (λ desk. is_some desk.book) err

  pub took-counted : {X E : Type 0} (told_of : X → Option (Told K S M Q)) (result : Result X E) (desk now : Desk K S M Q) (put taken after spare : ℕ) → is_some desk.book ≡ true
      → IfOk result (λ given. (told_of given, now) ≡ desk_taken desk) → IfOk result (λ given. after ≡ taken + length (option_to_list (told_of given)))
      → OnErr result (now ≡ desk) → OnErr result (after ≡ taken)
      → IsCounted put taken spare desk → IsCounted put after spare now
  took-counted told_of (Ok given) desk now put taken after spare some is total same same_total counts =
      subst (λ (count : ℕ). IsCounted put count spare now) (sym (total ∙ ap (λ pair. taken + length (option_to_list pair.0)) is))
      (subst (IsCounted put (taken + length (option_to_list (desk_taken desk).0)) spare) (sym (ap (λ pair. pair.1) is)) (taken-counted put taken spare desk some counts))
  took-counted told_of (Err fault) desk now put taken after spare some is total same same_total counts =
      subst (λ (count : ℕ). IsCounted put count spare now) (sym same_total) (subst (IsCounted put taken spare) (sym same) counts)
