-- A scan that takes one answer more.
use Rattle.std.proofs.Common.{◌≡◌, refl, ap, sym, subst, ◌∙◌, ℕ, List, [], ◌∷◌, ◌++◌, Option, None, Some}
use Rattle.resolver_fetch_scan.specs.declared.scan.Answer.{Answer}
use Rattle.resolver_fetch_scan.specs.declared.scan.Ask.{Ask}
use Rattle.resolver_fetch_scan.specs.Fetcher.{Fetcher, asked_by, question, scan_begin, snapshot, turned}
use Rattle.resolver_fetch.specs.Fetching.{GivesUp, GoesOn, Lent, Outside, Stops, TakesAll, TakesOne, given_up}
use Rattle.resolver_fetch_scan.specs.Orders.{Orders}
use Rattle.resolver_fetch.specs.Progress.{Keeps, KeepsWith}
use Rattle.resolver_fetch_scan.specs.Scan.{Scan, goes_on_with, next}
use Rattle.resolver_fetch_scan.specs.Waiting.{Waiting}

module _ {K P S D : Type 0} (o : Orders K P) (out : Outside K P S D) where
  takes-one-more : (answers : List Answer) (answer : Answer) (before then after : Lent K P S D) → TakesAll o out answers before then → TakesOne o out answer then after
      → TakesAll o out (answers ++ answer ∷ []) before after
  takes-one-more [] answer before then after same one =
      let Q : Lent K P S D → Type 0 = λ l. TakesOne o out answer l after in
      (after, subst Q same one, refl)
  takes-one-more (first ∷ answers) answer before then after taken one = (taken.0, taken.1, takes-one-more answers answer taken.0 then after taken.2 one)

  pub goes-one-more : (before then after : Lent K P S D) → GoesOn o out before then → (answer : Answer) × TakesOne o out answer then after → GoesOn o out before after
  goes-one-more before then after went one = (went.0 ++ one.0 ∷ [], takes-one-more went.0 one.0 before then after went.1 one.1)

module _ {K P : Type 0} (o : Orders K P) (f g h : Fetcher K P) where
  -- what an open scan keeps, it keeps after another answer
  pub keeps-on : (ask : Ask K P) → question o g ≡ Some ask → Keeps f g → Keeps g h → Keeps f h
  keeps-on ask asked kept keeps = at g.scan asked kept h.scan keeps where
    at : (now : Option (Scan K P)) → asked_by o g now ≡ Some ask → KeepsWith f g now → (then : Option (Scan K P)) → KeepsWith g h then → KeepsWith f h then
    at None asked kept then keeps = cc
    at (Some scan) asked kept None keeps = tt
    at (Some scan) asked kept (Some other) keeps = keeps ∙ ap (λ (x : Fetcher K P). record x { last_id = h.last_id }) kept

module _ {K P S D : Type 0} (o : Orders K P) (out : Outside K P S D) (now : ℕ) (before after : Lent K P S D) where
  -- a beginning changes nothing but the scan, the last id and the waiter
  begun-kept : (last : Option ℕ) (w : Option (K × Waiting P))
      → given_up (record (turned o (goes_on_with o (snapshot o before.fetcher) (record { moment = now; trail = []; expects = None }) w) before.fetcher) { last_id = last })
      ≡ given_up (record before.fetcher { last_id = last })
  begun-kept last None = refl
  begun-kept last (Some w) = refl

  -- a scan that was begun and stopped is given up
  pub gives-up : (then : Fetcher K P) → Stops o out (record before { fetcher = scan_begin o now before.fetcher }) (record after { fetcher = then })
      → after.fetcher ≡ given_up then → given_up then ≡ given_up (record (scan_begin o now before.fetcher) { last_id = then.last_id })
      → GivesUp o out now before after
  gives-up then stops is kept = record {
    then = then;
    stops = stops;
    gives_up = is;
    keeps = is ∙ kept ∙ begun-kept then.last_id (next o (snapshot o before.fetcher) (record { moment = now; trail = []; expects = None }))
        ∙ ap (λ last. given_up (record before.fetcher { last_id = last })) (sym (ap (λ (f : Fetcher K P). f.last_id) is));
  }
