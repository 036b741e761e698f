-- No key stands twice among the waiting and the asked ones.
use Rattle.std.proofs.Common.{◌≡◌, refl, ap, sym, ◌∙◌, ℕ, ◌+◌, ◌≤◌, Bool, true, false, List, [], ◌∷◌, length, map, filter, Option, None, Some, option_map, cond, find, arith}
use Rattle.std.proofs.lemmas.Bool.Decides.{nat_tests}
use Rattle.std.proofs.lemmas.Cmp.{nat_cmp_total, on_total, then_total, tied_itself}
use Rattle.std.proofs.lemmas.Grind.{common_steps}
use Rattle.std.specs.Cmp.{IsTotalOrder, Equal-is, bool_cmp_total}
use Rattle.std.specs.BTreeMap.{insert_entry}
use Rattle.std.specs.Ordering.{is_eq, nat_cmp}
use Rattle.std.specs.declared.cmp.Ordering.{Ordering}
use Rattle.std.specs.declared.cmp.Ordering.TheVariants.{Equal}
use Rattle.resolver_priority_set.specs.Priorities.{has_item, is_of, listed, priorities_of, put, retained, without}
use Rattle.resolver_priority_set.proofs.Priorities.{priorities-put, priorities-without}
use Rattle.resolver_fetch_requests.specs.declared.requests.request.Request.{Request}
use Rattle.resolver_fetch_requests.specs.Ids.{is_held}
use Rattle.resolver_fetch_requests.specs.Requests.{ids_of, is_asked, is_for, request_of, without_request}
use Rattle.resolver_fetch_scan.specs.declared.place.Place.{Place}
use Rattle.resolver_fetch_scan.specs.declared.trail.Try.{Try}
use Rattle.resolver_fetch_scan.specs.Fetcher.{EachOnce, Fetcher, snapshot, waiting_of}
use Rattle.resolver_fetch_scan.specs.Orders.{Orders}
use Rattle.resolver_fetch_scan.specs.Scan.{can_be_tried}
use Rattle.resolver_fetch.specs.Seeking.{scan_at, tried_next}
use Rattle.resolver_fetch_scan.specs.Trying.{Trying, trying_for}
use Rattle.resolver_fetch_scan.specs.Waiting.{place_order}
use Rattle.resolver_fetch.proofs.Seeking.{find-map}

place_total : IsTotalOrder place_order
place_total = then_total (on_total (λ p. p.is_retry) bool_cmp_total) (on_total (λ p. p.due) nat_cmp_total)

some-same : {X : Type 0} (x y : X) → Some x ≡ Some y → x ≡ y
some-same x y e = cc

module _ {K : Type 0} (by_key : K → K → Ordering) where
  -- a key that doesn't wait has no place
  pub none-waits : (key : K) (ps : List (Place × K)) → has_item by_key ps key ≡ false → priorities_of by_key ps key ≡ []
  none-waits key [] none = refl
  none-waits key (p ∷ ps) none = let rest = none-waits key ps in grind (arith, common_steps, rest, none)

  pub waits-none : (key : K) (ps : List (Place × K)) → length (priorities_of by_key ps key) ≡ 0 → has_item by_key ps key ≡ false
  waits-none key [] none = refl
  waits-none key (p ∷ ps) none = let rest = waits-none key ps in grind (arith, common_steps, rest, none)

  -- no key has more places among those that are kept
  pub fewer-kept : (test : K → Bool) (key : K) (ps : List (Place × K)) → length (priorities_of by_key (retained test ps) key) ≤ length (priorities_of by_key ps key)
  fewer-kept test key [] = omega arith
  fewer-kept test key (p ∷ ps) = let rest = fewer-kept test key ps in grind (arith, common_steps, rest)

  -- where a key waits is the place that it has first
  pub place-first : (key : K) (ps : List (Place × K)) (found : Option Place) → listed found ≡ priorities_of by_key ps key → found ≡ option_map (λ p. p.0) (find (is_of by_key key) ps)
  place-first key [] None is = refl
  place-first key [] (Some place) is = cc
  place-first key (p ∷ ps) None is = let rest = place-first key ps None in grind (arith, common_steps, rest, is)
  place-first key (p ∷ ps) (Some place) is = let rest = place-first key ps (Some place) in grind (arith, common_steps, rest, is)

module _ {K P : Type 0} (by_key : K → K → Ordering) where
  pub none-asked : (key : K) (asked : List (ℕ × Request K P)) → is_asked by_key asked key ≡ false → ids_of by_key asked key ≡ []
  none-asked key [] none = refl
  none-asked key (r ∷ asked) none = let rest = none-asked key asked in grind (arith, common_steps, rest, none)

  pub asked-none : (key : K) (asked : List (ℕ × Request K P)) → length (ids_of by_key asked key) ≡ 0 → is_asked by_key asked key ≡ false
  asked-none key [] none = refl
  asked-none key (r ∷ asked) none = let rest = asked-none key asked in grind (arith, common_steps, rest, none)

  pub fewer-asked : (test : K → Bool) (key : K) (asked : List (ℕ × Request K P)) → length (ids_of by_key (filter (λ r. test r.1.key) asked) key) ≤ length (ids_of by_key asked key)
  fewer-asked test key [] = omega arith
  fewer-asked test key (r ∷ asked) = let rest = fewer-asked test key asked in grind (arith, common_steps, rest)

  -- without a request
  pub fewer-without : (id : ℕ) (key : K) (asked : List (ℕ × Request K P)) → length (ids_of by_key (without_request id asked) key) ≤ length (ids_of by_key asked key)
  fewer-without id key [] = omega arith
  fewer-without id key (r ∷ asked) = let rest = fewer-without id key asked in grind (arith, nat_tests, common_steps, rest)

  -- its key is asked for once less
  pub once-less : (id : ℕ) (r : Request K P) (asked : List (ℕ × Request K P)) → is_eq (by_key r.key r.key) ≡ true → request_of asked id ≡ Some r
      → length (ids_of by_key (without_request id asked) r.key) + 1 ≡ length (ids_of by_key asked r.key)
  once-less id r [] itself there = absurd cc
  once-less id r (q ∷ asked) itself there = let rest = once-less id r asked itself in grind (arith, nat_tests, common_steps, rest, itself, there)

  -- with a request more, its key is asked for once more
  pub once-asked : (id : ℕ) (r : Request K P) (key : K) (asked : List (ℕ × Request K P)) → is_held asked id ≡ false
      → length (ids_of by_key (insert_entry nat_cmp asked id r) key) ≡ length (ids_of by_key asked key) + cond (is_eq (by_key key r.key)) 1 0
  once-asked id r key [] new = grind (arith, common_steps)
  once-asked id r key (q ∷ asked) new = let rest = once-asked id r key asked in grind (arith, nat_tests, common_steps, rest, new)

module _ {K P : Type 0} {by_key : K → K → Ordering} (o : IsTotalOrder by_key) where
  ids-same : (k l : K) (asked : List (ℕ × Request K P)) → by_key k l ≡ Equal → ids_of by_key asked k ≡ ids_of by_key asked l
  ids-same k l [] same = refl
  ids-same k l (r ∷ asked) same =
      let rest = ids-same k l asked same in
      let here : is_for by_key k r ≡ is_for by_key l r = ap is_eq (o.congr k l r.1.key same) in
      grind (arith, common_steps, rest, here)

  -- a key that is in no phase waits
  pub once-put : (p : Place × K) (waiting : List (Place × K)) (asked : List (ℕ × Request K P)) → EachOnce by_key waiting asked
      → is_asked by_key asked p.1 ≡ false → EachOnce by_key (put place_order by_key waiting p) asked
  once-put p waiting asked once none key =
      let waits = priorities-put o place_total p key waiting in
      let gone = none-asked by_key p.1 asked none in
      let same = ids-same key p.1 asked in
      let back = o.antisymm p.1 key in
      let tied = Equal-is (by_key key p.1) in
      let before = once key in
      grind (arith, common_steps, waits, gone, same, back, tied, before)

  -- a key that waits is asked for
  pub once-sent : (id : ℕ) (r : Request K P) (waiting : List (Place × K)) (asked : List (ℕ × Request K P)) → EachOnce by_key waiting asked
      → is_held asked id ≡ false → is_asked by_key asked r.key ≡ false
      → EachOnce by_key (without by_key r.key waiting) (insert_entry nat_cmp asked id r)
  once-sent id r waiting asked once new none key =
      let waits = priorities-without o r.key key waiting in
      let asks = once-asked by_key id r key asked new in
      let gone = none-asked by_key r.key asked none in
      let same = ids-same key r.key asked in
      let back = o.antisymm r.key key in
      let tied = Equal-is (by_key key r.key) in
      let before = once key in
      grind (arith, common_steps, waits, asks, gone, same, back, tied, before)

  -- a request is answered, and its key is in no phase
  pub idle-then : (id : ℕ) (r : Request K P) (waiting : List (Place × K)) (asked : List (ℕ × Request K P)) → EachOnce by_key waiting asked → request_of asked id ≡ Some r
      → (has_item by_key waiting r.key ≡ false) × (is_asked by_key (without_request id asked) r.key ≡ false)
  idle-then id r waiting asked once there =
      let less = once-less by_key id r asked (ap is_eq (tied_itself o r.key)) there in
      let before = once r.key in (
        waits-none by_key r.key waiting (omega (arith, less, before)),
        asked-none by_key r.key (without_request id asked) (omega (arith, less, before)),
      )

module _ {K P : Type 0} (o : Orders K P) (total : IsTotalOrder o.key) (f : Fetcher K P) (moment : ℕ) (trail : List (Try K P)) where
  found-waits : (test : Place × K → Bool) (ps : List (Place × K)) (p : Place × K) → find test ps ≡ Some p → 1 ≤ length (priorities_of o.key ps p.1)
  found-waits test [] p is = absurd cc
  found-waits test (q ∷ ps) p is =
      let rest = found-waits test ps p in
      let itself : is_eq (o.key p.1 p.1) ≡ true = ap is_eq (tied_itself total p.1) in
      let here : q ≡ p → is_eq (o.key p.1 q.1) ≡ true = λ same. ap (λ (x : Place × K). is_eq (o.key p.1 x.1)) same ∙ itself in
      grind (arith, common_steps, rest, here, is)

  none-left : (places : List Place) → length places ≤ 0 → places ≡ []
  none-left [] few = refl
  none-left (place ∷ places) few = absurd (omega (arith, few))

  -- it has no other place
  found-alone : (test : Place × K → Bool) (ps : List (Place × K)) (p : Place × K) → find test ps ≡ Some p → length (priorities_of o.key ps p.1) ≤ 1 → priorities_of o.key ps p.1 ≡ p.0 ∷ []
  found-alone test [] p is once = absurd cc
  found-alone test (q ∷ ps) p is once =
      let rest = found-alone test ps p in
      let waits = found-waits test ps p in
      let none = none-left (priorities_of o.key ps p.1) in
      let itself : is_eq (o.key p.1 p.1) ≡ true = ap is_eq (tied_itself total p.1) in
      let here : q ≡ p → is_eq (o.key p.1 q.1) ≡ true = λ same. ap (λ (x : Place × K). is_eq (o.key p.1 x.1)) same ∙ itself in
      grind (arith, common_steps, rest, waits, none, here, is, once)

  -- what is tried waits
  pub tried-waits : (t : Trying K P) → tried_next o f moment trail ≡ Some t → 1 ≤ length (priorities_of o.key f.waiting t.key)
  tried-waits t is =
      at (find (λ p. can_be_tried o (snapshot o f) (scan_at moment trail) (waiting_of o f p)) f.waiting) refl
      (sym (ap (option_map (trying_for o (snapshot o f) trail)) (find-map (can_be_tried o (snapshot o f) (scan_at moment trail)) (waiting_of o f) f.waiting)) ∙ is) where
        at : (found : Option (Place × K)) → find (λ p. can_be_tried o (snapshot o f) (scan_at moment trail) (waiting_of o f p)) f.waiting ≡ found
            → option_map (trying_for o (snapshot o f) trail) (option_map (waiting_of o f) found) ≡ Some t → 1 ≤ length (priorities_of o.key f.waiting t.key)
        at None here tried = absurd cc
        at (Some p) here tried =
            let key : p.1 ≡ t.key = ap (λ (n : Trying K P). n.key) (some-same _ _ tried) in
            rw (← key) (found-waits _ f.waiting p here)

  -- as what it is tried
  pub tried-kind : (t : Trying K P) → tried_next o f moment trail ≡ Some t → EachOnce o.key f.waiting f.asked
      → map (λ place. place.is_retry) (priorities_of o.key f.waiting t.key) ≡ t.place.is_retry ∷ []
  tried-kind t is once =
      at (find (λ p. can_be_tried o (snapshot o f) (scan_at moment trail) (waiting_of o f p)) f.waiting) refl
      (sym (ap (option_map (trying_for o (snapshot o f) trail)) (find-map (can_be_tried o (snapshot o f) (scan_at moment trail)) (waiting_of o f) f.waiting)) ∙ is) where
        at : (found : Option (Place × K)) → find (λ p. can_be_tried o (snapshot o f) (scan_at moment trail) (waiting_of o f p)) f.waiting ≡ found
            → option_map (trying_for o (snapshot o f) trail) (option_map (waiting_of o f) found) ≡ Some t
            → map (λ place. place.is_retry) (priorities_of o.key f.waiting t.key) ≡ t.place.is_retry ∷ []
        at None here tried = absurd cc
        at (Some p) here tried =
            let same : trying_for o (snapshot o f) trail (waiting_of o f p) ≡ t = some-same _ _ tried in
            let few : length (priorities_of o.key f.waiting p.1) ≤ 1 = (let all = once p.1 in omega (arith, all)) in
            let alone : map (λ place. place.is_retry) (priorities_of o.key f.waiting p.1) ≡ p.0.is_retry ∷ [] = ap (map (λ place. place.is_retry)) (found-alone _ f.waiting p here few) in
            ap (λ (n : Trying K P). map (λ place. place.is_retry) (priorities_of o.key f.waiting n.key)) (sym same)
            ∙ alone
            ∙ ap (λ (n : Trying K P). n.place.is_retry ∷ []) same

  -- so it is not asked for
  pub tried-apart : (t : Trying K P) → tried_next o f moment trail ≡ Some t → EachOnce o.key f.waiting f.asked → is_asked o.key f.asked t.key ≡ false
  tried-apart t is once =
      let waits = tried-waits t is in
      let before = once t.key in
      asked-none o.key t.key f.asked (omega (arith, waits, before))
