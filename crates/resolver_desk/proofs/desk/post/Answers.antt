use Rattle.std.proofs.Common.{◌≡◌, ◌∙◌, ℕ, Bool, Option, None, Some, sym, ap, rules}
use Rattle.std.specs.Option.{ForSome, option_map}
use Rattle.resolver_messages.specs.Waiting.{Told, told_of}
use Rattle.resolver_desk.specs.declared.book.Book.{Book as Kept}
use Rattle.resolver_desk.specs.Desk.{Book, book_of, next_of, number_of, with_put, with_put_of}
use Rattle.resolver_desk.proofs.desk.post.Goals as goal

module _ {K S M Q : Type 0} where
  -- where there is no book, there is none then
  none-put : (handle : Option ℕ) (told : Told K S M Q) (is_ok : Bool) (was : Option (Kept K S M Q)) → was ≡ None
      → option_map book_of was ≡ option_map (with_put handle told is_ok) (option_map book_of was)
  none-put handle told is_ok was none = ap (option_map book_of) none ∙ ap (λ book. option_map (with_put handle told is_ok) (option_map book_of book)) (sym none)

  none-number : (handle : Option ℕ) (was : Option (Kept K S M Q)) → was ≡ None → None ≡ option_map (number_of handle) (option_map book_of was)
  none-number handle was none = ap (λ book. option_map (number_of handle) (option_map book_of book)) (sym none)

  none-some : (P : Book K S M Q → Type 0) (was : Option (Kept K S M Q)) → was ≡ None → ForSome (option_map book_of was) P
  none-some P was none book is = absurd (let wrong = sym (ap (option_map book_of) none) ∙ is in cc)

  -- what a book is, as it stands for one that may be
  some-number : (handle : Option ℕ) (number : ℕ) (book : Kept K S M Q) (was : Option (Kept K S M Q)) → was ≡ Some book → number ≡ number_of handle (book_of book)
      → Some number ≡ option_map (number_of handle) (option_map book_of was)
  some-number handle number book was is same = ap (λ (n : ℕ). Some n) same ∙ ap (λ book. option_map (number_of handle) (option_map book_of book)) (sym is)

  some-put : (handle : Option ℕ) (told copied : Told K S M Q) (is_ok : Bool) (number next : ℕ) (book ready now : Kept K S M Q) (was : Option (Kept K S M Q)) → was ≡ Some book
      → number ≡ number_of handle (book_of book) → next ≡ next_of handle (book_of book) → copied ≡ told → book_of ready ≡ book_of book → book_of now ≡ with_put_of number next copied is_ok (book_of ready)
      → Some (book_of now) ≡ option_map (with_put handle told is_ok) (option_map book_of was)
  some-put handle told copied is_ok number next book ready now was is numbered follows copies same put =
      ap (λ (b : Book K S M Q). Some b) (put ∙ (λ i. with_put_of (numbered i) (follows i) (copies i) is_ok (same i)))
      ∙ ap (λ book. option_map (with_put handle told is_ok) (option_map book_of book)) (sym is)

pub returns : goal.returns
returns g c =
    let placed = c.in_ok-is_ok-2.ensures in
    let prepared = c.in_ok-number.ensures in
    record {
      is_ok = placed.is_ok;
      number = some-number c.args.handle c.in_ok-number.number c.in-Some.book c.args.book.now c.in-Some.is prepared.number;
      ready = placed.ready;
      pending = placed.pending;
      right = placed.right;
      book = some-put c.args.handle (told_of c.args.message) (told_of c.in_ok-number.copy) c.in_ok-is_ok-2.is_ok c.in_ok-number.number c.in_ok-number.next c.in-Some.book c.prepare.new.book c.put.new.self c.args.book.now c.in-Some.is
          prepared.number prepared.next prepared.copy prepared.same c.put.ensures;
      capacity = placed.capacity;
      err = tt;
      full = tt;
      only = tt;
      exhausted = tt;
      numbers = search rules;
    }

pub returns-in_default : goal.returns-in_default
returns-in_default g c =
    let placed = c.in_ok-is_ok.ensures in
    record {
      is_ok = placed.is_ok;
      number = none-number c.args.handle c.args.book.now c.in_default.is;
      ready = placed.ready;
      pending = placed.pending;
      right = placed.right;
      book = none-put c.args.handle (told_of c.args.message) c.in_ok-is_ok.is_ok c.args.book.now c.in_default.is;
      capacity = placed.capacity;
      err = tt;
      full = tt;
      only = tt;
      exhausted = tt;
      numbers = λ new. none-some _ c.args.book.now c.in_default.is;
    }

pub put-requires : goal.put-requires
put-requires g c = record { calls = c.in_ok-number.ensures.calls; counts = c.in_ok-number.ensures.counts }
