-- A bound of the waiting keys, and the next due behind it.
use Rattle.std.proofs.Common.{◌≡◌, refl, ap, sym, ◌∙◌, ℕ, Bool, true, false, not, List, [], ◌∷◌, ◌++◌, filter, Option, None, Some, OnErr, OnOk, Result, Ok, Err, option_map, if◌then◌else◌, arith}
use Rattle.std.proofs.lemmas.Bool.Decides.{nat_tests}
use Rattle.std.proofs.lemmas.Cmp.{tied_itself}
use Rattle.std.proofs.lemmas.Grind.{common_steps}
use Rattle.std.proofs.lemmas.List.Elements.{All-cons, All-filter, All-head, All-nil, All-same, All-tail}
use Rattle.std.proofs.lemmas.Map.Keys.{sorted_head, sorted_tail}
use Rattle.std.proofs.lemmas.Map.Views.{All-insert_key}
use Rattle.std.specs.Cmp.{IsTotalOrder}
use Rattle.std.specs.List.{All, AllByRecursion}
use Rattle.std.specs.List.Sorted.{IsStrictlySortedBy}
use Rattle.std.specs.Ordering.{is_gt, is_lt, nat_cmp, ordering_reverse, ordering_then}
use Rattle.std.specs.Prelude.{nat_le}
use Rattle.std.specs.declared.cmp.Ordering.{Ordering}
use Rattle.std.specs.declared.cmp.Ordering.TheVariants.{Less, Equal, Greater}
use Rattle.resolver_priority_set.specs.Priorities.{first_of, pair_order, put, without}
use Rattle.resolver_fetch_scan.specs.declared.place.Place.{Place}
use Rattle.resolver_fetch_waiting.specs.Pending.{IsBound, due_behind, later_due, raised}
use Rattle.resolver_fetch_waiting.specs.Queues.{IsQueued, fresh_queue, placed, retry_queue}
use Rattle.resolver_fetch_scan.specs.Scan.{least}
use Rattle.resolver_fetch_scan.specs.Waiting.{place_order}
use Rattle.resolver_fetch_waiting.proofs.Dues.{later-append, later-least, least-apart}

reversed : (x : Ordering) → is_lt (ordering_reverse x) ≡ is_gt x
reversed Less = refl
reversed Equal = refl
reversed Greater = refl

-- behind a moment and a key that is no less than the other one are the dues that are later
past : (m d : ℕ) (more : Ordering) → is_lt more ≡ false → is_lt (ordering_then (nat_cmp m d) more) ≡ not (nat_le d m)
past m d more le = grind (arith, nat_tests, common_steps, le)

module _ {X : Type 0} (Q : X → Type 0) where
  all-left : (xs ys : List X) → All Q (xs ++ ys) → All Q xs
  all-left [] ys all = All-nil Q
  all-left (x ∷ xs) ys all = All-cons Q x xs (All-head Q x (xs ++ ys) all) (all-left xs ys (All-tail Q x (xs ++ ys) all))

  all-right : (xs ys : List X) → All Q (xs ++ ys) → All Q ys
  all-right [] ys all = all
  all-right (x ∷ xs) ys all = all-right xs ys (All-tail Q x (xs ++ ys) all)

module _ {K : Type 0} {by_key : K → K → Ordering} (o : IsTotalOrder by_key) where
  abbrev UpTo : K → Place × K → Type 0
  UpTo top p = is_gt (by_key p.1 top) ≡ false

  -- what is up to one is up to a greater one
  below : (x top key : K) → is_gt (by_key x top) ≡ false → is_gt (by_key key top) ≡ true → is_gt (by_key x key) ≡ false
  below x top key le gt = at (by_key x top) refl le where
    less : (y : Ordering) → by_key key top ≡ y → is_gt y ≡ true → by_key top key ≡ Less
    less Less is more = absurd cc
    less Equal is more = absurd cc
    less Greater is more = o.antisymm top key ∙ ap ordering_reverse is

    at : (y : Ordering) → by_key x top ≡ y → is_gt y ≡ false → is_gt (by_key x key) ≡ false
    at Less is no_more = ap is_gt (o.trans x top key is (less (by_key key top) refl gt))
    at Equal is no_more = ap is_gt (o.congr x top key is ∙ less (by_key key top) refl gt)
    at Greater is no_more = absurd cc

  all-below : (top key : K) (pairs : List (Place × K)) → is_gt (by_key key top) ≡ true → All (UpTo top) pairs → All (UpTo key) pairs
  all-below top key pairs gt all = λ k d within. below _ top key (all k d within) gt

  -- a raised bound is one still
  pub raised-bound : (moment : ℕ) (key : K) (pairs : List (Place × K)) (bound : Option (ℕ × K)) → IsBound by_key moment pairs bound
      → IsBound by_key moment pairs (Some (raised by_key moment key bound))
  raised-bound moment key pairs None is = (refl, rw is (All-nil (UpTo key)))
  raised-bound moment key pairs (Some b) is = at (is_gt (by_key key b.1)) refl where
    at : (more : Bool) → is_gt (by_key key b.1) ≡ more → IsBound by_key moment pairs (Some (raised by_key moment key (Some b)))
    at true gt = rw gt (refl, all-below b.1 key pairs gt is.1)
    at false le = rw le is

  -- and is not exceeded by the key
  raised-above : (moment : ℕ) (key : K) (bound : Option (ℕ × K)) → is_gt (by_key key (raised by_key moment key bound).1) ≡ false
  raised-above moment key None = ap is_gt (tied_itself o key)
  raised-above moment key (Some b) = at (is_gt (by_key key b.1)) refl where
    at : (more : Bool) → is_gt (by_key key b.1) ≡ more → is_gt (by_key key (raised by_key moment key (Some b)).1) ≡ false
    at true gt = rw gt (ap is_gt (tied_itself o key))
    at false le = rw le le

  -- the key as it is there is up to what bounds all
  first-up-to : (top key : K) (pairs : List (Place × K)) → All (UpTo top) pairs → is_gt (by_key key top) ≡ false → is_gt (by_key (first_of by_key pairs key) top) ≡ false
  first-up-to top key [] all le = le
  first-up-to top key (p ∷ pairs) all le =
      let here = All-head (UpTo top) p pairs all in
      let rest = first-up-to top key pairs (All-tail (UpTo top) p pairs all) le in
      grind (arith, common_steps, here, rest)

  -- a key that is put among those that are bounded
  pub put-bound : (moment : ℕ) (p : Place × K) (pairs : List (Place × K)) (bound : Option (ℕ × K)) → IsBound by_key moment pairs bound
      → IsBound by_key moment (put place_order by_key pairs p) (Some (raised by_key moment p.1 bound))
  put-bound moment p pairs bound is =
      let at = raised-bound moment p.1 pairs bound is in
      let top = (raised by_key moment p.1 bound).1 in
      let kept = first_of by_key pairs p.1 in (
        at.0,
        All-insert_key (pair_order place_order by_key) (p.0, kept) (UpTo top) (without by_key kept pairs)
            (All-filter _ (UpTo top) pairs at.1)
            (first-up-to top p.1 pairs at.1 (raised-above moment p.1 bound)),
      )

  -- where fewer keys wait the bound is one still
  pub kept-bound : (test : Place × K → Bool) (moment : ℕ) (pairs : List (Place × K)) (bound : Option (ℕ × K)) → IsBound by_key moment pairs bound
      → IsBound by_key moment (filter test pairs) bound
  kept-bound test moment pairs None is = rw is refl
  kept-bound test moment pairs (Some b) is = (is.0, All-filter test (UpTo b.1) pairs is.1)

  -- a bound at another moment
  pub moved-bound : (moment other : ℕ) (pairs : List (Place × K)) (bound : Option (ℕ × K)) → IsBound by_key moment pairs bound
      → IsBound by_key other pairs (option_map (λ b. (other, b.1)) bound)
  moved-bound moment other pairs None is = is
  moved-bound moment other pairs (Some b) is = (refl, is.1)

  -- of keys behind one, none is due earlier
  no-earlier : (m : ℕ) (r : Bool) (p : ℕ × K) (queue : List (ℕ × K)) → AllByRecursion (λ q. pair_order nat_cmp by_key p q ≡ Less) queue
      → least (Some p.0) (later_due m (placed r queue)) ≡ Some p.0
  no-earlier m r p [] all = refl
  no-earlier m r p (q ∷ queue) all = at (nat_le q.0 m) refl (no-earlier m r p queue all.1) where
    rest : Option ℕ
    rest = later_due m (placed r queue)

    at : (due : Bool) → nat_le q.0 m ≡ due → least (Some p.0) rest ≡ Some p.0 → least (Some p.0) (least (if nat_le q.0 m then None else Some q.0) rest) ≡ Some p.0
    at true due is = rw due is
    at false due is = rw due (
        least-apart (Some p.0) (Some q.0) rest
        ∙ ap (λ x. least x rest) (later-least p.0 q.0 (by_key p.1 q.1) all.0)
        ∙ is
        )

  -- the next due of a queue is found behind a bound
  behind-later : (m : ℕ) (r : Bool) (top : K) (queue : List (ℕ × K)) → IsStrictlySortedBy (pair_order nat_cmp by_key) queue → All (UpTo top) (placed r queue)
      → due_behind by_key queue (m, top) ≡ later_due m (placed r queue)
  behind-later m r top [] sorted all = refl
  behind-later m r top (p ∷ queue) sorted all =
      at (nat_le p.0 m) refl (behind-later m r top queue (sorted_tail (pair_order nat_cmp by_key) p queue sorted) (All-tail (UpTo top) _ (placed r queue) all)) where
        more : is_lt (by_key top p.1) ≡ false
        more = ap is_lt (o.antisymm top p.1) ∙ reversed (by_key p.1 top) ∙ All-head (UpTo top) _ (placed r queue) all

        here : is_lt (pair_order nat_cmp by_key (m, top) p) ≡ not (nat_le p.0 m)
        here = past m p.0 (by_key top p.1) more

        at : (due : Bool) → nat_le p.0 m ≡ due → due_behind by_key queue (m, top) ≡ later_due m (placed r queue)
            → due_behind by_key (p ∷ queue) (m, top) ≡ later_due m (placed r (p ∷ queue))
        at true due rest = rw (here, due) rest
        at false due rest = rw (here, due) (sym (no-earlier m r p queue (sorted_head (pair_order nat_cmp by_key) p queue sorted)))

  -- the next due is found behind a bound of both queues
  pub due-later : (m : ℕ) (pairs : List (Place × K)) (b : ℕ × K) → IsQueued pairs
      → IsStrictlySortedBy (pair_order nat_cmp by_key) (fresh_queue pairs) → IsStrictlySortedBy (pair_order nat_cmp by_key) (retry_queue pairs)
      → IsBound by_key m pairs (Some b) → least (due_behind by_key (fresh_queue pairs) b) (due_behind by_key (retry_queue pairs) b) ≡ later_due m pairs
  due-later m pairs b queued sorted others is =
      let fresh = placed false (fresh_queue pairs) in
      let retry = placed true (retry_queue pairs) in
      let all : All (UpTo b.1) (fresh ++ retry) = All-same (UpTo b.1) (fresh ++ retry) pairs (sym queued) is.1 in
      ap (λ moment. least (due_behind by_key (fresh_queue pairs) (moment, b.1)) (due_behind by_key (retry_queue pairs) (moment, b.1))) is.0
      ∙ ap (λ x. least x (due_behind by_key (retry_queue pairs) (m, b.1))) (behind-later m false b.1 (fresh_queue pairs) sorted (all-left (UpTo b.1) fresh retry all))
      ∙ ap (least (later_due m fresh)) (behind-later m true b.1 (retry_queue pairs) others (all-right (UpTo b.1) fresh retry all))
      ∙ sym (later-append m fresh retry)
      ∙ ap (later_due m) (sym queued)

-- what either outcome gives
pub either_way : {T E : Type 0} (r : Result T E) (A B G : Type 0) → OnOk r A → OnErr r B → (A → G) → (B → G) → G
either_way (Ok x) A B G a b f g = f a
either_way (Err e) A B G a b f g = g b
