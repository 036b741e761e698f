-- The waiting keys as two queues that are joined: what each call makes of them.
use Rattle.std.proofs.Common.{◌≡◌, refl, ap, sym, ◌∙◌, ℕ, ◌+◌, ◌≤◌, Bool, true, false, not, ◌||◌, List, [], ◌∷◌, length, map, filter, find, Option, None, Some, option_map, cond, arith}
use Rattle.std.proofs.lemmas.Cmp.{nat_cmp_total}
use Rattle.std.proofs.lemmas.Grind.{common_steps}
use Rattle.std.specs.Cmp.{IsTotalOrder, Equal-is}
use Rattle.std.specs.List.{AllByRecursion, slice_get}
use Rattle.std.specs.List.Sorted.{IsStrictlySortedBy}
use Rattle.std.specs.Ordering.{is_lt, nat_cmp}
use Rattle.std.specs.declared.cmp.Ordering.{Ordering}
use Rattle.std.specs.declared.cmp.Ordering.TheVariants.{Less}
use Rattle.std.specs.BTreeSet.{insert_key}
use Rattle.resolver_priority_set.specs.Priorities.{after, has_item, is_of, listed, pair_order, priorities_of, put, without}
use Rattle.resolver_priority_set.proofs.Priorities.{first_of-none, priorities-put, priorities-same, without-none}
use Rattle.resolver_fetch_scan.specs.declared.place.Place.{Place}
use Rattle.resolver_fetch_waiting.specs.Queues.{AreApart, IsQueued, first_due, fresh_queue, joined, placed, retry_queue}
use Rattle.resolver_fetch_scan.specs.Waiting.{fresh_at, place_order, retry_at}

module _ {K : Type 0} where
  none-fresh : (retry : List (ℕ × K)) → fresh_queue (placed true retry) ≡ []
  none-fresh [] = refl
  none-fresh (p ∷ retry) = none-fresh retry

  all-retry : (retry : List (ℕ × K)) → retry_queue (placed true retry) ≡ retry
  all-retry [] = refl
  all-retry (p ∷ retry) = ap (λ (ps : List (ℕ × K)). p ∷ ps) (all-retry retry)

  -- each queue is found again
  pub fresh-joined : (fresh retry : List (ℕ × K)) → fresh_queue (joined fresh retry) ≡ fresh
  fresh-joined [] retry = none-fresh retry
  fresh-joined (p ∷ fresh) retry = ap (λ (ps : List (ℕ × K)). p ∷ ps) (fresh-joined fresh retry)

  pub retry-joined : (fresh retry : List (ℕ × K)) → retry_queue (joined fresh retry) ≡ retry
  retry-joined [] retry = all-retry retry
  retry-joined (p ∷ fresh) retry = retry-joined fresh retry

  pub queued-joined : (fresh retry : List (ℕ × K)) → IsQueued (joined fresh retry)
  queued-joined fresh retry =
      sym (ap (λ ps. joined ps (retry_queue (joined fresh retry))) (fresh-joined fresh retry) ∙ ap (joined fresh) (retry-joined fresh retry))

  pub length-joined : (fresh retry : List (ℕ × K)) → length (joined fresh retry) ≡ length fresh + length retry
  length-joined [] [] = refl
  length-joined [] (p ∷ retry) = let rest = length-joined [] retry in grind (arith, common_steps, rest)
  length-joined (p ∷ fresh) retry = let rest = length-joined fresh retry in grind (arith, common_steps, rest)

  -- a test of the joined queues is a test of each
  pub filter-joined : (test : Place × K → Bool) (fresh retry : List (ℕ × K))
      → filter test (joined fresh retry) ≡ joined (filter (λ p. test (fresh_at p.0, p.1)) fresh) (filter (λ p. test (retry_at p.0, p.1)) retry)
  filter-joined test [] [] = refl
  filter-joined test [] (p ∷ retry) = let rest = filter-joined test [] retry in grind (arith, common_steps, rest)
  filter-joined test (p ∷ fresh) retry = let rest = filter-joined test fresh retry in grind (arith, common_steps, rest)

  -- a test of the keys of a kind
  abbrev pub by_kind : (of_fresh of_retry : ℕ × K → Bool) → Place × K → Bool
  by_kind of_fresh of_retry p = cond p.0.is_retry (of_retry (p.0.due, p.1)) (of_fresh (p.0.due, p.1))

  pub kinds-joined : (of_fresh of_retry : ℕ × K → Bool) (fresh retry : List (ℕ × K))
      → joined (filter of_fresh fresh) (filter of_retry retry) ≡ filter (by_kind of_fresh of_retry) (joined fresh retry)
  kinds-joined of_fresh of_retry fresh retry = sym (filter-joined (by_kind of_fresh of_retry) fresh retry)

  all-kept : (ps : List (ℕ × K)) → filter (λ p. true) ps ≡ ps
  all-kept [] = refl
  all-kept (p ∷ ps) = ap (λ (qs : List (ℕ × K)). p ∷ qs) (all-kept ps)

  none-kept : (ps : List (ℕ × K)) → filter (λ p. false) ps ≡ []
  none-kept [] = refl
  none-kept (p ∷ ps) = none-kept ps

module _ {K : Type 0} (by_key : K → K → Ordering) where
  -- the keys behind a fresh one are the fresh ones behind it, and all that are tried again
  pub after-fresh : (p : ℕ × K) (fresh retry : List (ℕ × K)) → after place_order by_key (fresh_at p.0, p.1) (joined fresh retry) ≡ joined (after nat_cmp by_key p fresh) retry
  after-fresh p fresh retry =
      filter-joined (λ q. is_lt (pair_order place_order by_key (fresh_at p.0, p.1) q)) fresh retry
      ∙ ap (joined (after nat_cmp by_key p fresh)) (all-kept retry)

  -- behind one that is tried again are others of these alone
  pub after-retry : (p : ℕ × K) (fresh retry : List (ℕ × K)) → after place_order by_key (retry_at p.0, p.1) (joined fresh retry) ≡ placed true (after nat_cmp by_key p retry)
  after-retry p fresh retry =
      filter-joined (λ q. is_lt (pair_order place_order by_key (retry_at p.0, p.1) q)) fresh retry
      ∙ ap (λ ps. joined ps (after nat_cmp by_key p retry)) (none-kept fresh)

  -- whether a key waits
  pub has-joined : (key : K) (fresh retry : List (ℕ × K)) → has_item by_key (joined fresh retry) key ≡ (has_item by_key fresh key || has_item by_key retry key)
  has-joined key [] [] = refl
  has-joined key [] (p ∷ retry) = let rest = has-joined key [] retry in grind (arith, common_steps, rest)
  has-joined key (p ∷ fresh) retry = let rest = has-joined key fresh retry in grind (arith, common_steps, rest)

  -- a fresh key has its place
  pub place-fresh : (key : K) (due : ℕ) (fresh retry : List (ℕ × K)) → due ∷ [] ≡ priorities_of by_key fresh key
      → Some (fresh_at due) ≡ option_map (λ p. p.0) (find (is_of by_key key) (joined fresh retry))
  place-fresh key due [] retry is = absurd cc
  place-fresh key due (p ∷ fresh) retry is = let rest = place-fresh key due fresh retry in grind (arith, common_steps, rest, is)

  -- another has the one at which it is tried again, if any
  pub place-retry : (key : K) (due : Option ℕ) (fresh retry : List (ℕ × K)) → [] ≡ priorities_of by_key fresh key → listed due ≡ priorities_of by_key retry key
      → option_map retry_at due ≡ option_map (λ p. p.0) (find (is_of by_key key) (joined fresh retry))
  place-retry key None [] [] none is = refl
  place-retry key (Some due) [] [] none is = absurd cc
  place-retry key None [] (p ∷ retry) none is = let rest = place-retry key None [] retry none in grind (arith, common_steps, rest, is)
  place-retry key (Some due) [] (p ∷ retry) none is = let rest = place-retry key (Some due) [] retry none in grind (arith, common_steps, rest, is)
  place-retry key due (p ∷ fresh) retry none is = let rest = place-retry key due fresh retry in grind (arith, common_steps, rest, none, is)

  -- a key that is put in its queue has its place among all
  insert-placed : (r : Bool) (p : ℕ × K) (ps : List (ℕ × K))
      → insert_key (pair_order place_order by_key) (placed r ps) (record { is_retry = r; due = p.0 }, p.1) ≡ placed r (insert_key (pair_order nat_cmp by_key) ps p)
  insert-placed r p [] = refl
  insert-placed false p (q ∷ ps) = let rest = insert-placed false p ps in grind (arith, common_steps, rest)
  insert-placed true p (q ∷ ps) = let rest = insert-placed true p ps in grind (arith, common_steps, rest)

  insert-first : (p : ℕ × K) (retry : List (ℕ × K)) → insert_key (pair_order place_order by_key) (placed true retry) (fresh_at p.0, p.1) ≡ (fresh_at p.0, p.1) ∷ placed true retry
  insert-first p [] = refl
  insert-first p (q ∷ retry) = refl

  insert-fresh : (p : ℕ × K) (fresh retry : List (ℕ × K))
      → insert_key (pair_order place_order by_key) (joined fresh retry) (fresh_at p.0, p.1) ≡ joined (insert_key (pair_order nat_cmp by_key) fresh p) retry
  insert-fresh p [] retry = insert-first p retry
  insert-fresh p (q ∷ fresh) retry = let rest = insert-fresh p fresh retry in grind (arith, common_steps, rest)

  insert-retry : (p : ℕ × K) (fresh retry : List (ℕ × K))
      → insert_key (pair_order place_order by_key) (joined fresh retry) (retry_at p.0, p.1) ≡ joined fresh (insert_key (pair_order nat_cmp by_key) retry p)
  insert-retry p [] retry = insert-placed true p retry
  insert-retry p (q ∷ fresh) retry = ap (λ (ps : List (Place × K)). (fresh_at q.0, q.1) ∷ ps) (insert-retry p fresh retry)

  no-priority : {R : Type 0} (key : K) (ps : List (R × K)) → has_item by_key ps key ≡ false → priorities_of by_key ps key ≡ []
  no-priority key [] none = refl
  no-priority key (p ∷ ps) none = let rest = no-priority key ps in grind (arith, common_steps, rest, none)

  or-neither : (a b : Bool) → (a || b) ≡ false → (a ≡ false) × (b ≡ false)
  or-neither false b none = (refl, none)
  or-neither true b none = absurd cc

  module _ (total : IsTotalOrder by_key) where
    put-new : {R : Type 0} (by_priority : R → R → Ordering) (p : R × K) (ps : List (R × K)) → has_item by_key ps p.1 ≡ false
        → put by_priority by_key ps p ≡ insert_key (pair_order by_priority by_key) ps p
    put-new by_priority p ps none =
        let gone = no-priority p.1 ps none in
        rw (first_of-none total p.1 ps gone, without-none total p.1 ps gone) refl

    -- a key that doesn't wait yet is put in a queue
    pub put-fresh : (p : ℕ × K) (fresh retry : List (ℕ × K)) → has_item by_key (joined fresh retry) p.1 ≡ false
        → joined (put nat_cmp by_key fresh p) retry ≡ put place_order by_key (joined fresh retry) (fresh_at p.0, p.1)
    put-fresh p fresh retry none =
        let neither = or-neither (has_item by_key fresh p.1) (has_item by_key retry p.1) (sym (has-joined p.1 fresh retry) ∙ none) in
        ap (λ ps. joined ps retry) (put-new nat_cmp p fresh neither.0)
        ∙ sym (insert-fresh p fresh retry)
        ∙ sym (put-new place_order (fresh_at p.0, p.1) (joined fresh retry) none)

    pub put-retry : (p : ℕ × K) (fresh retry : List (ℕ × K)) → has_item by_key (joined fresh retry) p.1 ≡ false
        → joined fresh (put nat_cmp by_key retry p) ≡ put place_order by_key (joined fresh retry) (retry_at p.0, p.1)
    put-retry p fresh retry none =
        let neither = or-neither (has_item by_key fresh p.1) (has_item by_key retry p.1) (sym (has-joined p.1 fresh retry) ∙ none) in
        ap (joined fresh) (put-new nat_cmp p retry neither.1)
        ∙ sym (insert-retry p fresh retry)
        ∙ sym (put-new place_order (retry_at p.0, p.1) (joined fresh retry) none)

    -- it stands in that queue alone
    apart-put : (p : ℕ × K) (into other : List (ℕ × K)) → has_item by_key other p.1 ≡ false
        → ((key : K) → length (priorities_of by_key into key) + length (priorities_of by_key other key) ≤ 1)
        → (key : K) → length (priorities_of by_key (put nat_cmp by_key into p) key) + length (priorities_of by_key other key) ≤ 1
    apart-put p into other none apart key =
        let is = priorities-put total nat_cmp_total p key into in
        let gone = no-priority p.1 other none in
        let same = priorities-same total p.1 key other in
        let tied = Equal-is (by_key p.1 key) in
        let before = apart key in
        grind (arith, common_steps, is, gone, same, tied, before)

    pub apart-fresh : (p : ℕ × K) (fresh retry : List (ℕ × K)) → has_item by_key (joined fresh retry) p.1 ≡ false → AreApart by_key fresh retry
        → AreApart by_key (put nat_cmp by_key fresh p) retry
    apart-fresh p fresh retry none apart =
        let neither = or-neither (has_item by_key fresh p.1) (has_item by_key retry p.1) (sym (has-joined p.1 fresh retry) ∙ none) in
        apart-put p fresh retry neither.1 apart

    pub apart-retry : (p : ℕ × K) (fresh retry : List (ℕ × K)) → has_item by_key (joined fresh retry) p.1 ≡ false → AreApart by_key fresh retry
        → AreApart by_key fresh (put nat_cmp by_key retry p)
    apart-retry p fresh retry none apart key =
        let neither = or-neither (has_item by_key fresh p.1) (has_item by_key retry p.1) (sym (has-joined p.1 fresh retry) ∙ none) in
        let turned : (key : K) → length (priorities_of by_key retry key) + length (priorities_of by_key fresh key) ≤ 1 = λ key. (let before = apart key in omega (arith, before)) in
        let after = apart-put p retry fresh neither.0 turned key in
        omega (arith, after)

  -- the first key is the first fresh one, or else the first that is tried again
  pub first-fresh : (due : ℕ) (fresh retry : List (ℕ × K)) → option_map (λ p. p.0) (slice_get fresh 0) ≡ Some due → Some due ≡ first_due (joined fresh retry)
  first-fresh due [] retry is = absurd cc
  first-fresh due (p ∷ fresh) retry is = sym is

  pub first-retry : (fresh retry : List (ℕ × K)) → option_map (λ p. p.0) (slice_get fresh 0) ≡ None → option_map (λ p. p.0) (slice_get retry 0) ≡ first_due (joined fresh retry)
  first-retry [] [] none = refl
  first-retry [] (p ∷ retry) none = refl
  first-retry (p ∷ fresh) retry none = absurd cc

  -- no key has more places among some of them
  pub fewer-filtered : {R : Type 0} (test : R × K → Bool) (key : K) (ps : List (R × K)) → length (priorities_of by_key (filter test ps) key) ≤ length (priorities_of by_key ps key)
  fewer-filtered test key [] = omega arith
  fewer-filtered test key (p ∷ ps) = let rest = fewer-filtered test key ps in grind (arith, common_steps, rest)

  pub apart-fewer-fresh : (test : ℕ × K → Bool) (fresh retry : List (ℕ × K)) → AreApart by_key fresh retry → AreApart by_key (filter test fresh) retry
  apart-fewer-fresh test fresh retry apart key =
      let before = apart key in
      let fewer = fewer-filtered test key fresh in
      omega (arith, before, fewer)

  pub apart-fewer-retry : (test : ℕ × K → Bool) (fresh retry : List (ℕ × K)) → AreApart by_key fresh retry → AreApart by_key fresh (filter test retry)
  apart-fewer-retry test fresh retry apart key =
      let before = apart key in
      let fewer = fewer-filtered test key retry in
      omega (arith, before, fewer)

  pub apart-filtered : (of_fresh of_retry : ℕ × K → Bool) (fresh retry : List (ℕ × K)) → AreApart by_key fresh retry → AreApart by_key (filter of_fresh fresh) (filter of_retry retry)
  apart-filtered of_fresh of_retry fresh retry apart key =
      let before = apart key in
      let one = fewer-filtered of_fresh key fresh in
      let other = fewer-filtered of_retry key retry in
      omega (arith, before, one, other)

  -- whether a key's places are of those that are tried again
  abbrev Kinds : List (Place × K) → K → List Bool
  Kinds ps key = map (λ place. place.is_retry) (priorities_of by_key ps key)

  none-without : (key : K) (retry : List (ℕ × K)) → Kinds (placed true retry) key ≡ [] → without by_key key retry ≡ retry
  none-without key [] none = refl
  none-without key (p ∷ retry) none = let rest = none-without key retry in grind (arith, common_steps, rest, none)

  none-joined : (key : K) (fresh retry : List (ℕ × K)) → Kinds (joined fresh retry) key ≡ [] → without by_key key retry ≡ retry
  none-joined key [] retry none = none-without key retry none
  none-joined key (p ∷ fresh) retry none = let rest = none-joined key fresh retry in grind (arith, common_steps, rest, none)

  fresh-alone : (key : K) (fresh retry : List (ℕ × K)) → Kinds (joined fresh retry) key ≡ false ∷ [] → without by_key key retry ≡ retry
  fresh-alone key [] [] waits = refl
  fresh-alone key [] (p ∷ retry) waits = let rest = fresh-alone key [] retry in grind (arith, common_steps, rest, waits)
  fresh-alone key (p ∷ fresh) retry waits =
      let rest = fresh-alone key fresh retry in
      let none = none-joined key fresh retry in
      grind (arith, common_steps, rest, none, waits)

  retry-alone : (key : K) (fresh retry : List (ℕ × K)) → Kinds (joined fresh retry) key ≡ true ∷ [] → without by_key key fresh ≡ fresh
  retry-alone key [] retry waits = refl
  retry-alone key (p ∷ fresh) retry waits = let rest = retry-alone key fresh retry in grind (arith, common_steps, rest, waits)

  -- a key is taken out of its queue
  pub without-fresh : (key : K) (fresh retry : List (ℕ × K)) → map (λ place. place.is_retry) (priorities_of by_key (joined fresh retry) key) ≡ false ∷ []
      → joined (without by_key key fresh) retry ≡ without by_key key (joined fresh retry)
  without-fresh key fresh retry waits =
      ap (joined (without by_key key fresh)) (sym (fresh-alone key fresh retry waits))
      ∙ sym (filter-joined (λ p. not (is_of by_key key p)) fresh retry)

  pub without-retry : (key : K) (fresh retry : List (ℕ × K)) → map (λ place. place.is_retry) (priorities_of by_key (joined fresh retry) key) ≡ true ∷ []
      → joined fresh (without by_key key retry) ≡ without by_key key (joined fresh retry)
  without-retry key fresh retry waits =
      ap (λ ps. joined ps (without by_key key retry)) (sym (retry-alone key fresh retry waits))
      ∙ sym (filter-joined (λ p. not (is_of by_key key p)) fresh retry)

  -- the queues, each in order, are in order
  behind-placed : (r : Bool) (p : ℕ × K) (ps : List (ℕ × K)) → AllByRecursion (λ q. pair_order nat_cmp by_key p q ≡ Less) ps
      → AllByRecursion (λ q. pair_order place_order by_key (record { is_retry = r; due = p.0 }, p.1) q ≡ Less) (placed r ps)
  behind-placed r p [] all = tt
  behind-placed false p (q ∷ ps) all = (all.0, behind-placed false p ps all.1)
  behind-placed true p (q ∷ ps) all = (all.0, behind-placed true p ps all.1)

  before-retry : (p : ℕ × K) (retry : List (ℕ × K)) → AllByRecursion (λ q. pair_order place_order by_key (fresh_at p.0, p.1) q ≡ Less) (placed true retry)
  before-retry p [] = tt
  before-retry p (q ∷ retry) = (refl, before-retry p retry)

  behind-fresh : (p : ℕ × K) (fresh retry : List (ℕ × K)) → AllByRecursion (λ q. pair_order nat_cmp by_key p q ≡ Less) fresh
      → AllByRecursion (λ q. pair_order place_order by_key (fresh_at p.0, p.1) q ≡ Less) (joined fresh retry)
  behind-fresh p [] retry all = before-retry p retry
  behind-fresh p (q ∷ fresh) retry all = (all.0, behind-fresh p fresh retry all.1)

  sorted-placed : (retry : List (ℕ × K)) → IsStrictlySortedBy (pair_order nat_cmp by_key) retry → IsStrictlySortedBy (pair_order place_order by_key) (placed true retry)
  unfolding IsStrictlySortedBy
  sorted-placed [] sorted = tt
  sorted-placed (p ∷ retry) sorted = (behind-placed true p retry sorted.0, sorted-placed retry sorted.1)

  pub sorted-joined : (fresh retry : List (ℕ × K)) → IsStrictlySortedBy (pair_order nat_cmp by_key) fresh → IsStrictlySortedBy (pair_order nat_cmp by_key) retry
      → IsStrictlySortedBy (pair_order place_order by_key) (joined fresh retry)
  unfolding IsStrictlySortedBy
  sorted-joined [] retry sorted others = sorted-placed retry others
  sorted-joined (p ∷ fresh) retry sorted others = (behind-fresh p fresh retry sorted.0, sorted-joined fresh retry sorted.1 others)
