-- One more call keeps a book legal.
use Rattle.std.proofs.Common.{◌≡◌, ℕ, ◌+◌, ◌≤◌, Bool, true, false, nat_eq, cond, List, [], ◌∷◌, ◌++◌, None, length, map, subst, refl, sym, ◌∙◌, ap, add-one, arith, append_assoc, length-append}
use Rattle.std.specs.Prelude.{◌&&◌}
use Rattle.std.proofs.lemmas.List.{append-nil}
use Rattle.std.proofs.lemmas.Bool.{eqb-true}
use Rattle.resolver_types.specs.Names.{Names, same_key, same_subscriber}
use Rattle.resolver_types.specs.Demand.{IsSameDemand, Pair, acts, added_all, mark_of}
use Rattle.resolver_messages.specs.Waiting.{Backlog, Fetches, IsRight, Retains, Told, act_of, asked_by, handled, waiting}
use Rattle.resolver_desk.specs.declared.entry.Entry.{Entry}
use Rattle.resolver_desk.specs.Book.{Call, Close, IsLegal, Put, Take, all_ok, below, call_of, closes, late, places_of, puts, puts_of, takes}
use Rattle.resolver_messages.proofs.Marks.{mark_of-added_all, or_else}
use Rattle.resolver_messages.proofs.Right.{acts-told, mark_of-kept}

and_left : (a b : Bool) → (a && b) ≡ true → a ≡ true
and_left true b fine = refl
and_left false b fine = fine

and_false : (a : Bool) → (a && false) ≡ true → ⊥
and_false true fine = cc
and_false false fine = cc

below-more : (n : ℕ) → below (n + 1) ≡ below n ++ n ∷ []
below-more n = ap below (add-one n)

module _ {K S M Q : Type 0} where
  pub calls-append : (entries : List (Entry K S M Q)) (entry : Entry K S M Q) → map call_of (entries ++ entry ∷ []) ≡ map call_of entries ++ call_of entry ∷ []
  calls-append [] entry = refl
  calls-append (other ∷ entries) entry = ap (λ calls. call_of other ∷ calls) (calls-append entries entry)

  pub puts-append : (xs ys : List (Call K S M Q)) → puts (xs ++ ys) ≡ puts xs ++ puts ys
  puts-append [] ys = refl
  puts-append (Put h p m b ∷ xs) ys = ap (λ z. m ∷ z) (puts-append xs ys)
  puts-append (Take m ∷ xs) ys = puts-append xs ys
  puts-append (Close ∷ xs) ys = puts-append xs ys

  pub takes-append : (xs ys : List (Call K S M Q)) → takes (xs ++ ys) ≡ takes xs ++ takes ys
  takes-append [] ys = refl
  takes-append (Put h p m b ∷ xs) ys = takes-append xs ys
  takes-append (Take m ∷ xs) ys = ap (λ z. m ∷ z) (takes-append xs ys)
  takes-append (Close ∷ xs) ys = takes-append xs ys

  pub puts_of-append : (h : ℕ) (xs ys : List (Call K S M Q)) → puts_of h (xs ++ ys) ≡ puts_of h xs ++ puts_of h ys
  puts_of-append h [] ys = refl
  puts_of-append h (Put g p m b ∷ xs) ys = cases (puts_of-append h xs ys) (nat_eq g h) where
    cases : puts_of h (xs ++ ys) ≡ puts_of h xs ++ puts_of h ys → (t : Bool) → cond t (m ∷ puts_of h (xs ++ ys)) (puts_of h (xs ++ ys)) ≡ cond t (m ∷ puts_of h xs) (puts_of h xs) ++ puts_of h ys
    cases after true = ap (λ z. m ∷ z) after
    cases after false = after
  puts_of-append h (Take m ∷ xs) ys = puts_of-append h xs ys
  puts_of-append h (Close ∷ xs) ys = puts_of-append h xs ys

  places_of-append : (h : ℕ) (xs ys : List (Call K S M Q)) → places_of h (xs ++ ys) ≡ places_of h xs ++ places_of h ys
  places_of-append h [] ys = refl
  places_of-append h (Put g p m b ∷ xs) ys = cases (places_of-append h xs ys) (nat_eq g h) where
    cases : places_of h (xs ++ ys) ≡ places_of h xs ++ places_of h ys → (t : Bool) → cond t (p ∷ places_of h (xs ++ ys)) (places_of h (xs ++ ys)) ≡ cond t (p ∷ places_of h xs) (places_of h xs) ++ places_of h ys
    cases after true = ap (λ z. p ∷ z) after
    cases after false = after
  places_of-append h (Take m ∷ xs) ys = places_of-append h xs ys
  places_of-append h (Close ∷ xs) ys = places_of-append h xs ys

  pub closes-append : (xs ys : List (Call K S M Q)) → closes (xs ++ ys) ≡ closes xs + closes ys
  closes-append [] ys = omega arith
  closes-append (Put h p m b ∷ xs) ys = closes-append xs ys
  closes-append (Take m ∷ xs) ys = closes-append xs ys
  closes-append (Close ∷ xs) ys = omega (arith, closes-append xs ys)

  all_ok-append : (xs ys : List (Call K S M Q)) → all_ok (xs ++ ys) ≡ (all_ok xs && all_ok ys)
  all_ok-append [] ys = refl
  all_ok-append (Put h p m b ∷ xs) ys = cases (all_ok-append xs ys) b where
    cases : all_ok (xs ++ ys) ≡ (all_ok xs && all_ok ys) → (t : Bool) → (t && all_ok (xs ++ ys)) ≡ ((t && all_ok xs) && all_ok ys)
    cases after true = after
    cases after false = refl
  all_ok-append (Take m ∷ xs) ys = all_ok-append xs ys
  all_ok-append (Close ∷ xs) ys = all_ok-append xs ys

  late-put : (xs : List (Call K S M Q)) (h p : ℕ) (m : Told K S M Q) (b : Bool) → closes xs ≡ 0 → late (xs ++ Put h p m b ∷ []) ≡ late xs
  late-put [] h p m b none = refl
  late-put (Put g q o c ∷ xs) h p m b none = late-put xs h p m b none
  late-put (Take o ∷ xs) h p m b none = late-put xs h p m b none
  late-put (Close ∷ xs) h p m b none = absurd (omega (arith, none))

  late-take : (xs : List (Call K S M Q)) (m : Told K S M Q) → late (xs ++ Take m ∷ []) ≡ late xs
  late-take [] m = refl
  late-take (Put g q o c ∷ xs) m = late-take xs m
  late-take (Take o ∷ xs) m = late-take xs m
  late-take (Close ∷ xs) m = puts-append xs (Take m ∷ []) ∙ append-nil (puts xs)

  late-close : (xs : List (Call K S M Q)) → late (xs ++ Close ∷ []) ≡ late xs
  late-close [] = refl
  late-close (Put g q o c ∷ xs) = late-close xs
  late-close (Take o ∷ xs) = late-close xs
  late-close (Close ∷ xs) = puts-append xs (Close ∷ []) ∙ append-nil (puts xs)

  -- the places of a handle with one put more
  places-more : (k h : ℕ) (book : List (Call K S M Q)) (m : Told K S M Q) (b : Bool) → places_of k book ≡ below (length (puts_of k book))
      → places_of k (book ++ Put h (length (puts_of h book)) m b ∷ []) ≡ below (length (puts_of k (book ++ Put h (length (puts_of h book)) m b ∷ [])))
  places-more k h book m b before =
      places_of-append k book (Put h (length (puts_of h book)) m b ∷ [])
      ∙ cases (nat_eq h k) refl
      ∙ ap (λ ms. below (length ms)) (sym (puts_of-append k book (Put h (length (puts_of h book)) m b ∷ []))) where
        cases : (t : Bool) → nat_eq h k ≡ t → places_of k book ++ cond t (length (puts_of h book) ∷ []) [] ≡ below (length (puts_of k book ++ cond t (m ∷ []) []))
        cases true is =
            let more : length (puts_of k book ++ m ∷ []) ≡ length (puts_of k book) + 1 = length-append (puts_of k book) (m ∷ []) in
            ap (λ (j : ℕ). places_of k book ++ length (puts_of j book) ∷ []) (eqb-true h k is)
            ∙ ap (λ (ps : List ℕ). ps ++ length (puts_of k book) ∷ []) before
            ∙ sym (below-more (length (puts_of k book)))
            ∙ ap below (sym more)
        cases false is = append-nil (places_of k book) ∙ before ∙ ap (λ ms. below (length ms)) (sym (append-nil (puts_of k book)))

  pub puts_of-short : (h : ℕ) (calls : List (Call K S M Q)) → length (puts_of h calls) ≤ length calls
  puts_of-short h [] = omega arith
  puts_of-short h (Put g p m b ∷ calls) = cases (puts_of-short h calls) (nat_eq g h) where
    cases : length (puts_of h calls) ≤ length calls → (t : Bool) → length (cond t (m ∷ puts_of h calls) (puts_of h calls)) ≤ length (Put g p m b ∷ calls)
    cases after true = omega (arith, after)
    cases after false = omega (arith, after)
  puts_of-short h (Take m ∷ calls) = omega (arith, puts_of-short h calls)
  puts_of-short h (Close ∷ calls) = omega (arith, puts_of-short h calls)

  -- the count of a handle's puts with one more
  pub count-put : (h g p : ℕ) (m : Told K S M Q) (b : Bool) (calls : List (Call K S M Q)) (count : ℕ) → count ≡ length (puts_of g calls)
      → cond (nat_eq g h) (count + 1) (length (puts_of h calls)) ≡ length (puts_of h (calls ++ Put g p m b ∷ []))
  count-put h g p m b calls count is = cases (nat_eq g h) refl ∙ sym (ap length (puts_of-append h calls (Put g p m b ∷ [])) ∙ length-append (puts_of h calls) _) where
    cases : (t : Bool) → nat_eq g h ≡ t → cond t (count + 1) (length (puts_of h calls)) ≡ length (puts_of h calls) + length (cond t (m ∷ []) [])
    cases true same = ap (λ j. j + 1) (is ∙ ap (λ (j : ℕ). length (puts_of j calls)) (eqb-true g h same))
    cases false same = omega arith

  pub count-other : (h : ℕ) (calls : List (Call K S M Q)) (call : Call K S M Q) → puts_of h (call ∷ []) ≡ [] → length (puts_of h calls) ≡ length (puts_of h (calls ++ call ∷ []))
  count-other h calls call none = ap length (sym (append-nil (puts_of h calls)) ∙ ap (λ more. puts_of h calls ++ more) (sym none) ∙ sym (puts_of-append h calls (call ∷ [])))

  pub closes-put : (xs : List (Call K S M Q)) (h p : ℕ) (m : Told K S M Q) (b : Bool) → closes (xs ++ Put h p m b ∷ []) ≡ closes xs
  closes-put xs h p m b = omega (arith, closes-append xs (Put h p m b ∷ []))

  pub closes-take : (xs : List (Call K S M Q)) (m : Told K S M Q) → closes (xs ++ Take m ∷ []) ≡ closes xs
  closes-take xs m = omega (arith, closes-append xs (Take m ∷ []))

  pub closes-close : (xs : List (Call K S M Q)) → closes (xs ++ Close ∷ []) ≡ closes xs + 1
  closes-close xs = omega (arith, closes-append xs (Close ∷ []))

module _ {K S M Q : Type 0} (n : Names K S) (merged : M → M → M)
    (follows : (a b c : K) → same_key n a b ≡ true → same_key n a c ≡ same_key n b c)
    (follows_too : (a b c : S) → same_subscriber n a b ≡ true → same_subscriber n a c ≡ same_subscriber n b c)
    (keeps : Q → K → S → Bool)
    (alike : (test : Q) (k l : K) (s t : S) → same_key n k l ≡ true → same_subscriber n s t ≡ true → keeps test k s ≡ keeps test l t) where
  abbrev does : List (Told K S M Q) → List (Pair K S) → List (Pair K S)
  does xs d = acts n (map (act_of keeps) xs) d

  -- messages do alike on one demand
  same-acts : (xs : List (Told K S M Q)) (d e : List (Pair K S)) → IsSameDemand n d e → IsSameDemand n (does xs d) (does xs e)
  same-acts [] d e same = same
  same-acts (Fetches items ∷ xs) d e same =
      same-acts xs (added_all n d (asked_by items)) (added_all n e (asked_by items))
      (λ k s. mark_of-added_all n follows follows_too d (asked_by items) k s ∙ ap (λ m. or_else m (mark_of n (asked_by items) k s)) (same k s) ∙ sym (mark_of-added_all n follows follows_too e (asked_by items) k s))
  same-acts (Retains test ∷ xs) d e same =
      same-acts xs _ _
      (λ k s. mark_of-kept (keeps test) n (alike test) d k s ∙ ap (λ m. cond (keeps test k s) m None) (same k s) ∙ sym (mark_of-kept (keeps test) n (alike test) e k s))

  -- one message more, in what does it
  one-more : (xs ys front : List (Told K S M Q)) (b : List (Told K S M Q)) (m : Told K S M Q) → IsRight n keeps (b ++ m ∷ []) ys → IsRight n keeps xs (front ++ b) → IsRight n keeps (xs ++ m ∷ []) (front ++ ys)
  one-more xs ys front b m right before d k s =
      ap (λ e. mark_of n e k s) (acts-told n keeps front ys d)
      ∙ right (does front d) k s
      ∙ ap (λ e. mark_of n e k s) (acts-told n keeps b (m ∷ []) (does front d) ∙ ap (does (m ∷ [])) (sym (acts-told n keeps front b d)))
      ∙ same-acts (m ∷ []) (does (front ++ b) d) (does xs d) (before d) k s
      ∙ ap (λ e. mark_of n e k s) (sym (acts-told n keeps xs (m ∷ []) d))

  -- a put into a ready list that has room
  pub legal-ready : (book : List (Call K S M Q)) (ready behind : List (Told K S M Q)) (h : ℕ) (m : Told K S M Q) → closes book ≡ 0 → behind ≡ []
      → IsLegal n keeps book ready behind → IsLegal n keeps (book ++ Put h (length (puts_of h book)) m true ∷ []) (ready ++ m ∷ []) behind
  legal-ready book ready behind h m unshut none l =
      let e : List (Call K S M Q) = Put h (length (puts_of h book)) m true ∷ [] in
      let ts : takes (book ++ e) ≡ takes book = takes-append book e ∙ append-nil (takes book) in
      let ps : puts (book ++ e) ≡ puts book ++ m ∷ [] = puts-append book e in
      let oks : all_ok (book ++ e) ≡ (all_ok book && true) = all_ok-append book e in
      let was : all_ok (book ++ e) ≡ true → all_ok book ≡ true = λ fine. and_left _ _ (sym oks ∙ fine) in
      let whole : (takes (book ++ e) ++ (ready ++ m ∷ [])) ++ behind ≡ (takes book ++ ready) ++ m ∷ [] =
      ap (λ ws. (takes (book ++ e) ++ (ready ++ m ∷ [])) ++ ws) none ∙ append-nil (takes (book ++ e) ++ (ready ++ m ∷ [])) ∙ ap (λ ms. ms ++ (ready ++ m ∷ [])) ts ∙ sym (append_assoc (takes book) ready (m ∷ [])) in
      let before : IsRight n keeps (puts book) ((takes book ++ ready) ++ []) = subst (λ ws. IsRight n keeps (puts book) ((takes book ++ ready) ++ ws)) none l.meaning in
      record {
        meaning = subst (λ was. IsRight n keeps was ((takes (book ++ e) ++ (ready ++ m ∷ [])) ++ behind)) (sym ps)
            (subst (λ left. IsRight n keeps (puts book ++ m ∷ []) left) (sym whole)
            (one-more (puts book) (m ∷ []) (takes book ++ ready) [] m (λ d k s. refl) before));
        places = λ k. places-more k h book m true (l.places k);
        in_time = late-put book _ _ _ _ unshut ∙ l.in_time;
        closed_once = rw (closes-put book h (length (puts_of h book)) m true) l.closed_once;
        in_order = λ fine.
            ap (λ ms. ms ++ (ready ++ m ∷ [])) ts
            ∙ sym (append_assoc (takes book) ready (m ∷ []))
            ∙ ap (λ ms. ms ++ m ∷ []) (l.in_order (was fine))
            ∙ sym ps;
        none_behind = λ fine. none;
      }

  -- a put to what waits
  pub legal-behind : (book : List (Call K S M Q)) (ready : List (Told K S M Q)) (backlog : Backlog K S M Q) (h : ℕ) (m : Told K S M Q) → closes book ≡ 0
      → IsRight n keeps (waiting backlog ++ m ∷ []) (waiting (handled n merged keeps backlog m)) → IsLegal n keeps book ready (waiting backlog) → IsLegal n keeps (book ++ Put h (length (puts_of h book)) m false ∷ []) ready (waiting (handled n merged keeps backlog m))
  legal-behind book ready backlog h m unshut right l =
      let e : List (Call K S M Q) = Put h (length (puts_of h book)) m false ∷ [] in
      let ts : takes (book ++ e) ≡ takes book = takes-append book e ∙ append-nil (takes book) in
      let ps : puts (book ++ e) ≡ puts book ++ m ∷ [] = puts-append book e in
      let oks : all_ok (book ++ e) ≡ (all_ok book && false) = all_ok-append book e in
      let never : all_ok (book ++ e) ≡ true → ⊥ = λ fine. and_false _ (sym oks ∙ fine) in
      let now = waiting (handled n merged keeps backlog m) in
      record {
        meaning = subst (λ was. IsRight n keeps was ((takes (book ++ e) ++ ready) ++ now)) (sym ps)
            (subst (λ taken. IsRight n keeps (puts book ++ m ∷ []) ((taken ++ ready) ++ now)) (sym ts)
            (one-more (puts book) now (takes book ++ ready) (waiting backlog) m right l.meaning));
        places = λ k. places-more k h book m false (l.places k);
        in_time = late-put book _ _ _ _ unshut ∙ l.in_time;
        closed_once = rw (closes-put book h (length (puts_of h book)) m false) l.closed_once;
        in_order = λ fine. absurd (never fine);
        none_behind = λ fine. absurd (never fine);
      }

module _ {K S M Q : Type 0} (n : Names K S) (keeps : Q → K → S → Bool) where
  -- a take, and then some of what waits is ready
  pub legal-take : (book : List (Call K S M Q)) (ready behind left then : List (Told K S M Q)) (m : Told K S M Q) → behind ≡ left ++ then
      → IsLegal n keeps book (m ∷ ready) behind → IsLegal n keeps (book ++ Take m ∷ []) (ready ++ left) then
  legal-take book ready behind left then m is l =
      let e : List (Call K S M Q) = Take m ∷ [] in
      let ts : takes (book ++ e) ≡ takes book ++ m ∷ [] = takes-append book e in
      let ps : puts (book ++ e) ≡ puts book = puts-append book e ∙ append-nil (puts book) in
      let oks : all_ok (book ++ e) ≡ (all_ok book && true) = all_ok-append book e in
      let was : all_ok (book ++ e) ≡ true → all_ok book ≡ true = λ fine. and_left _ _ (sym oks ∙ fine) in
      let moved : takes (book ++ e) ++ (ready ++ left) ≡ (takes book ++ m ∷ ready) ++ left =
      ap (λ ms. ms ++ (ready ++ left)) ts ∙ append_assoc (takes book) (m ∷ []) (ready ++ left) ∙ sym (append_assoc (takes book) (m ∷ ready) left) in
      let whole : (takes (book ++ e) ++ (ready ++ left)) ++ then ≡ (takes book ++ m ∷ ready) ++ behind =
      ap (λ ms. ms ++ then) moved ∙ append_assoc (takes book ++ m ∷ ready) left then ∙ ap (λ ms. (takes book ++ m ∷ ready) ++ ms) (sym is) in
      record {
        meaning = subst (λ was. IsRight n keeps was ((takes (book ++ e) ++ (ready ++ left)) ++ then)) (sym ps)
            (subst (λ left. IsRight n keeps (puts book) left) (sym whole) l.meaning);
        places = λ k.
            places_of-append k book e ∙ append-nil (places_of k book) ∙ l.places k
            ∙ ap (λ ms. below (length ms)) (sym (puts_of-append k book e ∙ append-nil (puts_of k book)));
        in_time = late-take book m ∙ l.in_time;
        closed_once = rw (closes-take book m) l.closed_once;
        in_order = λ fine. moved ∙ ap (λ ms. (takes book ++ m ∷ ready) ++ ms) (none-left left then (sym is ∙ l.none_behind (was fine))) ∙ append-nil (takes book ++ m ∷ ready) ∙ l.in_order (was fine) ∙ sym ps;
        none_behind = λ fine. none-then left then (sym is ∙ l.none_behind (was fine));
      } where
        none-left : (xs ys : List (Told K S M Q)) → xs ++ ys ≡ [] → xs ≡ []
        none-left [] ys e = refl
        none-left (x ∷ xs) ys e = absurd (let wrong = e in cc)

        none-then : (xs ys : List (Told K S M Q)) → xs ++ ys ≡ [] → ys ≡ []
        none-then [] ys e = e
        none-then (x ∷ xs) ys e = absurd (let wrong = e in cc)

  pub legal-close : (book : List (Call K S M Q)) (ready behind : List (Told K S M Q)) → closes book ≡ 0 → IsLegal n keeps book ready behind → IsLegal n keeps (book ++ Close ∷ []) ready behind
  legal-close book ready behind unshut l =
      let e : List (Call K S M Q) = Close ∷ [] in
      let ts : takes (book ++ e) ≡ takes book = takes-append book e ∙ append-nil (takes book) in
      let ps : puts (book ++ e) ≡ puts book = puts-append book e ∙ append-nil (puts book) in
      let oks : all_ok (book ++ e) ≡ (all_ok book && true) = all_ok-append book e in
      let was : all_ok (book ++ e) ≡ true → all_ok book ≡ true = λ fine. and_left _ _ (sym oks ∙ fine) in
      record {
        meaning = subst (λ was. IsRight n keeps was ((takes (book ++ e) ++ ready) ++ behind)) (sym ps)
            (subst (λ taken. IsRight n keeps (puts book) ((taken ++ ready) ++ behind)) (sym ts) l.meaning);
        places = λ k.
            places_of-append k book e ∙ append-nil (places_of k book) ∙ l.places k
            ∙ ap (λ ms. below (length ms)) (sym (puts_of-append k book e ∙ append-nil (puts_of k book)));
        in_time = late-close book ∙ l.in_time;
        closed_once = omega (arith, unshut, closes-close book);
        in_order = λ fine. ap (λ ms. ms ++ ready) ts ∙ l.in_order (was fine) ∙ sym ps;
        none_behind = λ fine. l.none_behind (was fine);
      }
