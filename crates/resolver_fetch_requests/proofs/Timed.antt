-- When the time of each request is over, in the order of the ids or listed.
use Rattle.std.proofs.Common.{◌≡◌, refl, ap, subst, ◌∙◌, sym, ℕ, ◌<◌, Bool, true, false, List, [], ◌∷◌, ◌++◌, Option, None, Some, cond, option_map, is_some, arith}
use Rattle.std.proofs.lemmas.Grind.{common_steps}
use Rattle.std.proofs.lemmas.Bool.Decides.{nat_tests}
use Rattle.std.proofs.lemmas.Cmp.{nat_cmp_total, tied_itself}
use Rattle.std.specs.List.{AllByRecursion}
use Rattle.std.specs.List.Sorted.{IsStrictlySortedBy}
use Rattle.std.specs.Map.{keys_of}
use Rattle.std.proofs.lemmas.Map.Keys.{sorted_head}
use Rattle.std.specs.BTreeMap.{is_at}
use Rattle.std.specs.BTreeSet.{insert_key}
use Rattle.std.specs.Set.{remove_key}
use Rattle.std.specs.Ordering.{is_eq, nat_cmp}
use Rattle.std.specs.declared.cmp.Ordering.TheVariants.{Less}
use Rattle.resolver_priority_set.specs.Priorities.{listed, priorities_of, retained, without}
use Rattle.resolver_priority_set.proofs.Priorities.{priorities-insert, priorities-without, remove_key-without}
use Rattle.resolver_fetch_requests.specs.declared.requests.request.Request.{Request}
use Rattle.resolver_fetch_requests.specs.declared.requests.deadlines.Deadlines.{Deadlines}
use Rattle.resolver_fetch_requests.specs.Deadlines.{AreListed, AreTimed, IsPart, times_of, with_time, without_time}
use Rattle.resolver_fetch_requests.specs.Requests.{request_of}
use Rattle.resolver_fetch_requests.proofs.Soonest.{at-head, behind, by_deadline, request-at}

-- the same times
pub timed-same : (times others : ℕ → Option ℕ) (deadlines : Deadlines) → ((q : ℕ) → others q ≡ times q) → AreTimed times deadlines → AreTimed others deadlines
timed-same times others deadlines same timed = subst (λ (ts : ℕ → Option ℕ). AreTimed ts deadlines) (λ i q. sym (same q) i) timed

-- a time that is put is there
pub time-here : (times : ℕ → Option ℕ) (id time : ℕ) → with_time times id time id ≡ Some time
time-here times id time = ap (λ is. cond (is_eq is) (Some time) (times id)) (tied_itself nat_cmp_total id)

-- a time that was put and is taken out
pub time-back : (times : ℕ → Option ℕ) (id time : ℕ) → times id ≡ None → (q : ℕ) → times q ≡ without_time (with_time times id time) id q
time-back times id time none q = grind (arith, nat_tests, common_steps, none)

-- a time is listed
pub listed-put : (times : ℕ → Option ℕ) (id time : ℕ) (ds : List (ℕ × ℕ)) → AreListed times ds → times id ≡ None
    → AreListed (with_time times id time) (insert_key by_deadline ds (time, id))
listed-put times id time ds are none q =
    let put = priorities-insert nat_cmp_total nat_cmp_total (time, id) q ds (are id ∙ ap listed none) in
    let before = are q in
    grind (arith, common_steps, put, before)

-- a time is listed no more
pub listed-without : (times : ℕ → Option ℕ) (id time : ℕ) (ds : List (ℕ × ℕ)) → AreListed times ds → times id ≡ Some time
    → AreListed (without_time times id) (remove_key (is_at (by_deadline (time, id))) ds)
listed-without times id time ds are there q =
    let gone : remove_key (is_at (by_deadline (time, id))) ds ≡ without nat_cmp id ds =
    remove_key-without nat_cmp_total nat_cmp_total id id time time ds (tied_itself nat_cmp_total id) (tied_itself nat_cmp_total time) (are id ∙ ap listed there) in
    let out = ap (λ left. priorities_of nat_cmp left q) gone in
    let others = priorities-without nat_cmp_total id q ds in
    let before = are q in
    grind (arith, common_steps, out, others, before)

-- the pairs whose ids pass
priorities-retained : (test : ℕ → Bool) (q : ℕ) (ds : List (ℕ × ℕ)) → priorities_of nat_cmp (retained test ds) q ≡ cond (test q) (priorities_of nat_cmp ds q) []
priorities-retained test q [] = grind (arith, common_steps)
priorities-retained test q (d ∷ ds) =
    let rest = priorities-retained test q ds in
    let same : q ≡ d.1 → test d.1 ≡ test q = λ e. ap test (sym e) in
    grind (arith, nat_tests, common_steps, rest, same)

left-at : (test : Bool) (part whole : Option ℕ) (before kept : List ℕ) → kept ≡ cond test before [] → before ≡ listed whole → test ≡ is_some part
    → ((time : ℕ) → part ≡ Some time → whole ≡ Some time) → kept ≡ listed part
left-at true None whole before kept is are has found = absurd cc
left-at false None whole before kept is are has found = is
left-at true (Some time) whole before kept is are has found = is ∙ are ∙ ap listed (found time refl)
left-at false (Some time) whole before kept is are has found = absurd cc

-- some of the times stay listed
pub listed-part : (test : ℕ → Bool) (part whole : ℕ → Option ℕ) (ds : List (ℕ × ℕ)) → ((id : ℕ) → test id ≡ is_some (part id)) → IsPart part whole
    → AreListed whole ds → AreListed part (retained test ds)
listed-part test part whole ds has found are q = left-at (test q) (part q) (whole q) (priorities_of nat_cmp ds q) _ (priorities-retained test q ds) (are q) (has q) (found q)

-- where one is last among one at most, none is before it
front-none : (ts : List ℕ) (t : ℕ) (one : Option ℕ) → ts ++ t ∷ [] ≡ listed one → ts ≡ []
front-none [] t one is = refl
front-none (u ∷ []) t None is = absurd cc
front-none (u ∷ []) t (Some v) is = absurd cc
front-none (u ∷ w ∷ us) t None is = absurd cc
front-none (u ∷ w ∷ us) t (Some v) is = absurd cc

module _ {K P : Type 0} where
  -- a request is put, and its time
  pub times-put : (id : ℕ) (r : Request K P) (old new : List (ℕ × Request K P)) → ((q : ℕ) → request_of new q ≡ cond (is_at (nat_cmp id) q) (Some r) (request_of old q))
      → (q : ℕ) → times_of new q ≡ with_time (times_of old) id r.deadline q
  times-put id r old new updates q = let after = updates q in grind (arith, common_steps, after)

  -- a request is taken out, and its time
  pub times-without : (id : ℕ) (old new : List (ℕ × Request K P)) → ((q : ℕ) → request_of new q ≡ cond (is_at (nat_cmp id) q) None (request_of old q))
      → (q : ℕ) → times_of new q ≡ without_time (times_of old) id q
  times-without id old new updates q = let after = updates q in grind (arith, common_steps, after)

  -- some of the requests have some of the times
  pub times-part : (old new : List (ℕ × Request K P)) → ((q : ℕ) (r : Request K P) → request_of new q ≡ Some r → request_of old q ≡ Some r) → IsPart (times_of new) (times_of old)
  times-part old new found q time at =
      let here = request-at (request_of new q) time at in
      ap (option_map (λ (r : Request K P). r.deadline)) (found q here.0 here.1) ∙ ap (λ (t : ℕ). Some t) here.2

  held-time : (found : Option (Request K P)) → is_some found ≡ is_some (option_map (λ (r : Request K P). r.deadline) found)
  held-time None = refl
  held-time (Some r) = refl

  -- an id that is held has a time
  pub has-time : (asked : List (ℕ × Request K P)) (id : ℕ) → is_some (request_of asked id) ≡ is_some (times_of asked id)
  has-time asked id = held-time (request_of asked id)

  -- what is listed so far, with the times of the rest, is all
  abbrev pub AreAll : (whole : ℕ → Option ℕ) (ds : List (ℕ × ℕ)) (rest : List (ℕ × Request K P)) → Type 0
  AreAll whole ds rest = (q : ℕ) → priorities_of nat_cmp ds q ++ listed (times_of rest q) ≡ listed (whole q)

  none-behind : (k : ℕ) (xs : List (ℕ × Request K P)) → AllByRecursion (λ y. nat_cmp k y ≡ Less) (keys_of xs) → request_of xs k ≡ None
  none-behind k xs all = at (request_of xs k) refl where
    at : (found : Option (Request K P)) → request_of xs k ≡ found → request_of xs k ≡ None
    at None is = is
    at (Some r) is = let later : k < k = behind k xs all k r is in absurd (omega arith)

  -- one more is listed
  pub all-put : (whole : ℕ → Option ℕ) (ds : List (ℕ × ℕ)) (x : ℕ × Request K P) (rest : List (ℕ × Request K P)) → IsStrictlySortedBy nat_cmp (keys_of (x ∷ rest))
      → AreAll whole ds (x ∷ rest) → AreAll whole (insert_key by_deadline ds (x.1.deadline, x.0)) rest
  all-put whole ds x rest sorted are q =
      let none : priorities_of nat_cmp ds x.0 ≡ [] = front-none (priorities_of nat_cmp ds x.0) x.1.deadline (whole x.0) (ap (λ (o : Option (Request K P)). priorities_of nat_cmp ds x.0 ++ listed (option_map (λ (s : Request K P). s.deadline) o)) (sym (at-head x rest)) ∙ are x.0) in
      let put = priorities-insert nat_cmp_total nat_cmp_total (x.1.deadline, x.0) q ds none in
      let gone : request_of rest x.0 ≡ None = none-behind x.0 rest (sorted_head nat_cmp x.0 (keys_of rest) sorted) in
      let before = are q in
      grind (arith, nat_tests, common_steps, none, put, gone, before)
