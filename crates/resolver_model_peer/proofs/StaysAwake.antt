-- The machine begins awake, and stays so while the moments of its inputs don't go back.
use Rattle.std.proofs.Common.{◌≡◌, refl, ap, sym, ◌∙◌, subst, ◌⊎◌, inl, inr, ℕ, ◌<◌, ◌≤◌, max, Bool, true, false, not, ◌&&◌, ◌||◌, List, [], ◌∷◌, Option, None, Some, Result, Ok, Err, filter_map, arith}
use Rattle.std.proofs.lemmas.Bool.Decides.{nat_tests}
use Rattle.std.proofs.lemmas.Grind.{common_steps}
use Rattle.std.specs.Prelude.{nat_le, option_and_then, unwrap_or, ⊤}
use Rattle.std.specs.Cmp.{IsTotalOrder}
use Rattle.std.specs.BTreeSet.{insert_key}
use Rattle.std.specs.List.{cons_option, list_all, list_any}
use Rattle.std.specs.List.Sorted.{IsStrictlySortedBy}
use Rattle.std.specs.Ordering.{match_ordering}
use Rattle.std.specs.declared.cmp.Ordering.{Ordering}
use Rattle.std.specs.declared.cmp.Ordering.TheVariants.{Less, Equal, Greater}
use Rattle.resolver_base.specs.declared.fault.Fault.{Fault}
use Rattle.resolver_fetch_requests.specs.declared.requests.request.Request.{Request}
use Rattle.resolver_fetch_scan.specs.declared.place.Place.{Place}
use Rattle.resolver_fetch_scan.specs.Waiting as waits
use Rattle.resolver_fetch_scan.specs.Waiting.{Waiting, in_order, waiting_order, place_order}
use Rattle.resolver_fetch_scan.specs.Snapshot.{eligible}
use Rattle.resolver_fetch_scan.specs.Scan.{Scan, Turn, begins, is_over, takes, trail_moment, was_tried}
use Rattle.resolver_fetch_scan.specs.FetcherLaws.{AllAre, IsAmong}
use Rattle.resolver_model_peer.specs.Parties.{Parties, orders_of}
use Rattle.resolver_model_peer.specs.PeerRows.{Row, Phase, Waits, Asked, Judged, waiting_in, waiting_of}
use Rattle.resolver_model.specs.declared.status.Status.{Status}
use Rattle.resolver_model.specs.declared.status.Status.TheVariants.{Running, Ended, Failed}
use Rattle.resolver_model_peer.specs.Peer.{Machine, Done, Input, Happens, Answers, and_then, snapshot, turned, with_sent, does, is_due, wake_up, scanned_if, scanned, step_of, answer_of, step_running, step_in, step, opening}
use Rattle.resolver_model_peer.specs.PeerRun.{Fed, after}
use Rattle.resolver_model_peer.specs.PeerAwake.{IsAwake, can_be_tried}
use Rattle.resolver_model_peer.specs.PeerLaws.{NeverGoBack, StaysAwake}
use Rattle.resolver_model_peer.proofs.AsksEligible.{IsCalmIfDone, does-calm}
use Rattle.resolver_model_peer.proofs.InOrder.{among-put, behind-first, behind-retry, level-place, sorted-order, then-first, W-total}
use Rattle.resolver_model_peer.proofs.PeerPhases.{RowsAre, IsKeptIfDone, are-changed, does-kept}
use Rattle.resolver_model_peer.proofs.Quiet.{IsQuiet, begins-quiet, clear-quiet, takes-quiet}
use Rattle.resolver_model_peer.proofs.Resting.{IsResting, IsRestingIfDone, does-resting}

module _ {X : Type 0} (test : X → Bool) where
  any-none : (xs : List X) → ((x : X) → IsAmong x xs → test x ≡ false) → list_any test xs ≡ false
  any-none [] none = refl
  any-none (x ∷ xs) none = rw (none x (inl refl), any-none xs (λ y i. none y (inr i))) refl

  none-any : (xs : List X) → list_any test xs ≡ false → (x : X) → IsAmong x xs → test x ≡ false
  none-any [] none x i = absurd i
  none-any (y ∷ xs) none x i = at (test y) refl none i (none-any xs) where
    at : (b : Bool) → test y ≡ b → (b || list_any test xs) ≡ false → IsAmong x (y ∷ xs) → (list_any test xs ≡ false → (x : X) → IsAmong x xs → test x ≡ false) → test x ≡ false
    at true is any j rest = absurd cc
    at false is any (inl e) rest = ap test e ∙ is
    at false is any (inr j) rest = rest any x j

  all-none : (xs : List X) → list_all test xs ≡ true → AllAre (λ x. test x ≡ true) xs
  all-none [] all = tt
  all-none (x ∷ xs) all = at (test x) refl all (all-none xs) where
    at : (b : Bool) → test x ≡ b → (b && list_all test xs) ≡ true → (list_all test xs ≡ true → AllAre (λ x. test x ≡ true) xs) → (test x ≡ true) × AllAre (λ x. test x ≡ true) xs
    at true is all rest = (is, rest all)
    at false is all rest = absurd cc

  none-all : (xs : List X) → ((x : X) → IsAmong x xs → test x ≡ true) → list_all test xs ≡ true
  none-all [] each = refl
  none-all (x ∷ xs) each = rw (each x (inl refl), none-all xs (λ y i. each y (inr i))) refl

-- The place of a key that waits: a retry, or due by this moment.
abbrev is_timely : (moment : ℕ) → Place → Bool
is_timely moment place = place.is_retry || nat_le place.due moment

abbrev IsTimely : {K P : Type 0} → (moment : ℕ) → Phase K P → Type 0
IsTimely moment (Waits place) = is_timely moment place ≡ true
IsTimely moment phase = ⊤

timely-later : (r : Bool) (due moment now : ℕ) → moment ≤ now → (r || nat_le due moment) ≡ true → (r || nat_le due now) ≡ true
timely-later true due moment now later is = refl
timely-later false due moment now later is = grind (arith, nat_tests, common_steps, later, is)

module _ {K P : Type 0} (moment now : ℕ) (later : moment ≤ now) where
  phase-later : (phase : Phase K P) → IsTimely moment phase → IsTimely now phase
  phase-later (Waits place) is = timely-later place.is_retry place.due moment now later is
  phase-later (Asked id request) is = tt
  phase-later (Judged j) is = tt

  rows-later : {S : Type 0} (rows : List (K × Row K S P)) → RowsAre (IsTimely moment) rows → RowsAre (IsTimely now) rows
  rows-later [] all = tt
  rows-later (r ∷ rows) all = (phase-later r.1.phase all.0, rows-later rows all.1)

asleep : (due waiter t : ℕ) → t < waiter → nat_le (max due waiter) t ≡ false
asleep due waiter t less = grind (arith, nat_tests, common_steps, less)

either-later : (due waiter t : ℕ) → nat_le (max due waiter) t ≡ false → (t < waiter) ⊎ (t < due)
either-later due waiter t is = at (nat_le waiter t) refl (nat_le due t) refl where
  at : (b : Bool) → nat_le waiter t ≡ b → (c : Bool) → nat_le due t ≡ c → (t < waiter) ⊎ (t < due)
  at false here c there = inl (grind (arith, nat_tests, common_steps, here))
  at true here false there = inr (grind (arith, nat_tests, common_steps, there))
  at true here true there = absurd (grind (arith, nat_tests, common_steps, here, there, is))

late : (due t : ℕ) → t < due → nat_le due t ≡ false
late due t less = grind (arith, nat_tests, common_steps, less)

fresh-late : (r : Bool) (due moment t : ℕ) → (r || nat_le due moment) ≡ true → moment ≤ t → t < due → r ≡ true
fresh-late true due moment t is from less = refl
fresh-late false due moment t is from less = absurd (grind (arith, nat_tests, common_steps, is, from, less))

module _ {K S P : Type 0} (a : Parties K S P) (total : IsTotalOrder a.key) where
  -- keys in their order have the same places
  module _ (Q : Place → Bool) where
    abbrev Placed : K × Waiting P → Type 0
    Placed w = Q w.1.place ≡ true

    unput : (w : K × Waiting P) (xs : List (K × Waiting P)) → AllAre Placed (insert_key (waiting_order (orders_of a)) xs w) → Placed w × AllAre Placed xs
    unput w [] all = all
    unput w (x ∷ xs) all = at (waiting_order (orders_of a) w x) refl all (unput w xs) where
      at : (o : Ordering) → waiting_order (orders_of a) w x ≡ o → AllAre Placed (match_ordering o (w ∷ x ∷ xs) (x ∷ xs) (x ∷ insert_key (waiting_order (orders_of a)) xs w))
          → (AllAre Placed (insert_key (waiting_order (orders_of a)) xs w) → Placed w × AllAre Placed xs) → Placed w × AllAre Placed (x ∷ xs)
      at Less is all rest = all
      at Equal is all rest = (ap Q (level-place w.1.place x.1.place (then-first (place_order w.1.place x.1.place) _ is)) ∙ all.0, all)
      at Greater is all rest = let behind = rest all.1 in (behind.0, (all.0, behind.1))

    unordered : (ws : List (K × Waiting P)) → AllAre Placed (in_order (orders_of a) ws) → AllAre Placed ws
    unordered [] all = tt
    unordered (w ∷ ws) all = let both = unput w (in_order (orders_of a) ws) all in (both.0, unordered ws both.1)

    in-order : (ws : List (K × Waiting P)) → AllAre Placed ws → (w : K × Waiting P) → IsAmong w (in_order (orders_of a) ws) → Placed w
    in-order [] all w i = absurd i
    in-order (v ∷ ws) all w i = at (among-put (waiting_order (orders_of a)) w v (in_order (orders_of a) ws) i) (in-order ws all.1 w) where
      at : (w ≡ v) ⊎ IsAmong w (in_order (orders_of a) ws) → (IsAmong w (in_order (orders_of a) ws) → Placed w) → Placed w
      at (inl e) rest = ap (λ (x : K × Waiting P). Q x.1.place) e ∙ all.0
      at (inr j) rest = rest j

  module _ (moment : ℕ) where
    rows-timely : (rows : List (K × Row K S P)) → AllAre (Placed (is_timely moment)) (filter_map waiting_of rows) → RowsAre (IsTimely moment) rows
    rows-timely [] all = tt
    rows-timely (r ∷ rows) all = let both = at r.1.phase all in (both.0, rows-timely rows both.1) where
      at : (phase : Phase K P) → AllAre (Placed (is_timely moment)) (cons_option (waiting_in r.0 r.1 phase) (filter_map waiting_of rows))
          → IsTimely moment phase × AllAre (Placed (is_timely moment)) (filter_map waiting_of rows)
      at (Waits place) all = all
      at (Asked id request) all = (tt, all)
      at (Judged j) all = (tt, all)

    timely-rows : (rows : List (K × Row K S P)) → RowsAre (IsTimely moment) rows → AllAre (Placed (is_timely moment)) (filter_map waiting_of rows)
    timely-rows [] all = tt
    timely-rows (r ∷ rows) all = at r.1.phase all.0 (timely-rows rows all.1) where
      at : (phase : Phase K P) → IsTimely moment phase → AllAre (Placed (is_timely moment)) (filter_map waiting_of rows)
          → AllAre (Placed (is_timely moment)) (cons_option (waiting_in r.0 r.1 phase) (filter_map waiting_of rows))
      at (Waits place) is rest = (is, rest)
      at (Asked id request) is rest = rest
      at (Judged j) is rest = rest

  -- A waiter that holds nothing back, and fresh keys that are due: this is what is kept.
  abbrev IsReady : Machine K S P → Type 0
  IsReady m = IsQuiet a m × RowsAre (IsTimely m.moment) m.rows

  sleeps : (ws : List (K × Waiting P)) (waiter : Option ℕ) (t : ℕ) → t < unwrap_or waiter 0 → is_due t (waits.wake_up (λ w. w.1.place.due) ws waiter) ≡ false
  sleeps [] waiter t less = refl
  sleeps (w ∷ ws) waiter t less = asleep w.1.place.due (unwrap_or waiter 0) t less

  behind : (b c : Bool) → b ≡ false → (not b && c) ≡ false → c ≡ false
  behind true c is e = absurd cc
  behind false c is e = e

  both-false : (b c : Bool) → (b && c) ≡ false → b ≡ true → c ≡ false
  both-false true c e is = e
  both-false false c e is = absurd cc

  awake-ready : (m : Machine K S P) → IsAwake a m → IsReady m
  awake-ready m awake = (
    (λ t from less w i due p j.
        let none = behind (is_due t (wake_up a m)) _ (sleeps (snapshot a m).waiting m.waiter t less) (awake.0 t from) in
        let here = none-any _ (snapshot a m).waiting none w i in
        none-any (λ q. can_be_tried a m t w.0 q.0) (eligible (orders_of a) (snapshot a m) w.1.targets) (both-false (nat_le w.1.place.due t) _ here due) (p, j.0) j.1),
    rows-timely m.moment m.rows (unordered (is_timely m.moment) (filter_map waiting_of m.rows) (all-none (λ w. is_timely m.moment w.1.place) (snapshot a m).waiting awake.1)),
  )

  -- none is due before the first, where the first isn't
  first-late : (moment t : ℕ) (w : K × Waiting P) (ws : List (K × Waiting P)) → IsStrictlySortedBy (waiting_order (orders_of a)) (w ∷ ws) → is_timely moment w.1.place ≡ true
      → moment ≤ t → t < w.1.place.due → (v : K × Waiting P) → IsAmong v (w ∷ ws) → nat_le v.1.place.due t ≡ false
  first-late moment t w ws sorted is from less v (inl e) = ap (λ (x : K × Waiting P). nat_le x.1.place.due t) e ∙ late w.1.place.due t less
  first-late moment t w ws sorted is from less v (inr i) =
      behind-retry w.1.place.is_retry v.1.place.is_retry w.1.place.due v.1.place.due t (a.key w.0 v.0) (behind-first (W-total a total) w v ws sorted i)
      (fresh-late w.1.place.is_retry w.1.place.due moment t is from less) less

  and-false : (b c : Bool) → b ≡ false → (b && c) ≡ false
  and-false true c is = absurd cc
  and-false false c is = refl

  module _ (m : Machine K S P) (ready : IsReady m) (t : ℕ) (from : m.moment ≤ t) where
    abbrev due_and_left : K × Waiting P → Bool
    due_and_left w = nat_le w.1.place.due t && list_any (λ p. can_be_tried a m t w.0 p.0) (eligible (orders_of a) (snapshot a m) w.1.targets)

    left-at : (w : K × Waiting P) (b : Bool) → nat_le w.1.place.due t ≡ b → (b ≡ true → list_any (λ p. can_be_tried a m t w.0 p.0) (eligible (orders_of a) (snapshot a m) w.1.targets) ≡ false)
        → (b && list_any (λ p. can_be_tried a m t w.0 p.0) (eligible (orders_of a) (snapshot a m) w.1.targets)) ≡ false
    left-at w true is none = none refl
    left-at w false is none = refl

    none-left : (t < unwrap_or m.waiter 0) → (w : K × Waiting P) → IsAmong w (snapshot a m).waiting → due_and_left w ≡ false
    none-left less w i =
        left-at w (nat_le w.1.place.due t) refl (λ due.
        any-none (λ p. can_be_tried a m t w.0 p.0) (eligible (orders_of a) (snapshot a m) w.1.targets) (λ p j. ready.0 t from less w i due p.0 (p.1, j)))

    -- of the keys that wait
    none-behind : (ws : List (K × Waiting P)) → (snapshot a m).waiting ≡ ws → (b : Bool) → is_due t (waits.wake_up (λ w. w.1.place.due) ws m.waiter) ≡ b
        → (not b && list_any due_and_left ws) ≡ false
    none-behind ws is true due = refl
    none-behind [] is false due = refl
    none-behind (w ∷ ws) is false due = any-none due_and_left (w ∷ ws) (at (either-later w.1.place.due (unwrap_or m.waiter 0) t due)) where
      at : (t < unwrap_or m.waiter 0) ⊎ (t < w.1.place.due) → (v : K × Waiting P) → IsAmong v (w ∷ ws) → due_and_left v ≡ false
      at (inl less) v i = none-left less v (subst (λ (vs : List (K × Waiting P)). IsAmong v vs) (sym is) i)
      at (inr less) v i =
          let sorted = subst (λ (vs : List (K × Waiting P)). IsStrictlySortedBy (waiting_order (orders_of a)) vs) is (sorted-order a total (filter_map waiting_of m.rows)) in
          let timely = in-order (is_timely m.moment) (filter_map waiting_of m.rows) (timely-rows m.moment m.rows ready.1) w (subst (λ (vs : List (K × Waiting P)). IsAmong w vs) (sym is) (inl refl)) in
          and-false (nat_le v.1.place.due t) _ (first-late m.moment t w ws sorted timely from less v i)

  ready-awake : (m : Machine K S P) → IsReady m → IsAwake a m
  ready-awake m ready = (
    (λ t from. none-behind m ready t from (snapshot a m).waiting refl (is_due t (wake_up a m)) refl),
    none-all (λ w. is_timely m.moment w.1.place) (snapshot a m).waiting (in-order (is_timely m.moment) (filter_map waiting_of m.rows) (timely-rows m.moment m.rows ready.1)),
  )

  -- a machine that rests
  quiet-resting : (m n : Machine K S P) → n.scan ≡ m.scan → n.configuration ≡ m.configuration → n.moment ≡ m.moment → IsResting a total m n → IsQuiet a m → IsQuiet a n
  quiet-resting m n scan configuration moment (inl clear) ready = clear-quiet a n clear
  quiet-resting m n scan configuration moment (inr still) ready = λ t from less w i due p j.
      ap (λ (s : Scan K P). not (was_tried (orders_of a) s.trail w.0 p) || is_due t (trail_moment n.configuration.retry_delay s.moment s.trail)) scan
      ∙ ap (λ c. not (was_tried (orders_of a) m.scan.trail w.0 p) || is_due t (trail_moment c.retry_delay m.scan.moment m.scan.trail)) configuration
      ∙ ready t (subst (λ (x : ℕ). x ≤ t) moment from) (subst (λ (x : Option ℕ). t < unwrap_or x 0) still.0 less) w (still.1 w i) due p (still.2 w.1.targets p j)

  sent-ready : (m : Machine K S P) (scan : Scan K P) (last waiter : Option ℕ) (sent : Option (ℕ × Request K P)) → RowsAre (IsTimely m.moment) m.rows
      → RowsAre (IsTimely (with_sent a m sent).moment) (with_sent a m sent).rows × ((with_sent a m sent).moment ≡ m.moment)
  sent-ready m scan last waiter None timely = (timely, refl)
  sent-ready m scan last waiter (Some r) timely = (are-changed (IsTimely m.moment) _ _ (λ row q. tt) m.rows timely, refl)

  -- after a step
  abbrev IsReadyBy : (now : ℕ) → Machine K S P → Type 0
  IsReadyBy now m = IsReady m × (m.moment ≤ now)

  turned-ready : (m : Machine K S P) (t : Turn K P) (now : ℕ) → m.moment ≤ now → RowsAre (IsTimely m.moment) m.rows → IsQuiet a (turned a m t) → IsReadyBy now (turned a m t)
  turned-ready m t now by timely calm =
      let sent = sent-ready m t.scan t.last_id t.waiter t.sent timely in
      ((calm, sent.0), subst (λ (x : ℕ). x ≤ now) (sym sent.1) by)

  scanned-ready : (b : Bool) (m : Machine K S P) (now : ℕ) → IsReadyBy now m → IsReadyBy now (scanned_if a b m now).machine
  scanned-ready true m now ready = turned-ready m (begins (orders_of a) (snapshot a m) now) now ready.1 ready.0.1 (begins-quiet a m now)
  scanned-ready false m now ready = ready

  happened-ready : (o : Option (Done K S P)) (m : Machine K S P) (now : ℕ) → IsReadyBy now m → ((d : Done K S P) → o ≡ Some d → IsReadyBy now d.machine)
      → IsReadyBy now (step_of a (option_and_then (λ d. and_then d (λ n. Some (scanned a n now))) o) m).1
  happened-ready None m now ready here = ready
  happened-ready (Some d) m now ready here = scanned-ready (is_due now (wake_up a d.machine)) d.machine now (here d refl)

  does-ready : (m : Machine K S P) (now : ℕ) → IsReadyBy now m → m.moment ≡ now → (o : Option (Done K S P))
      → IsCalmIfDone m o → IsKeptIfDone (IsTimely now) m o → IsRestingIfDone a total m o → (d : Done K S P) → o ≡ Some d → IsReadyBy now d.machine
  does-ready m now ready is None calm kept rests d e = absurd cc
  does-ready m now ready is (Some c) calm kept rests d e =
      let same : c ≡ d = cc in
      let moment : c.machine.moment ≡ now = kept.2 ∙ is in
      let timely : RowsAre (IsTimely now) c.machine.rows = kept.3 (subst (λ (x : ℕ). RowsAre (IsTimely x) m.rows) is ready.0.1) in
      subst (λ (x : Done K S P). IsReadyBy now x.machine) same (
        (quiet-resting m c.machine calm.0 kept.0 kept.2 rests ready.0.0, subst (λ (x : ℕ). RowsAre (IsTimely x) c.machine.rows) (sym moment) timely),
        subst (λ (x : ℕ). x ≤ now) (sym moment) (omega arith),
      )

  begun-ready : (m : Machine K S P) (now : ℕ) → m.moment ≤ now → IsReady m → IsReadyBy now (record m { moment = now })
  begun-ready m now by ready = (((λ t from. ready.0 t (omega (arith, by, from))), rows-later m.moment now by m.rows ready.1), omega arith)

  taken-ready : (m : Machine K S P) (answer : _) (now : ℕ) → m.moment ≤ now → IsReady m → (r : Result (Turn K P) Fault) → takes (orders_of a) (snapshot a m) m.scan answer ≡ r → IsReadyBy now (answer_of a r m).1
  taken-ready m answer now by ready (Err fault) is = (ready, by)
  taken-ready m answer now by ready (Ok t) is = turned-ready m t now by ready.1 (takes-quiet a m answer t is)

  running-ready : (over : Bool) (m : Machine K S P) (now : ℕ) (input : Input K S P) → m.moment ≤ now → IsReady m → IsReadyBy now (step_running a over m now input).1
  running-ready true m now (Happens event) by ready =
      let begun : Machine K S P = record m { moment = now } in
      let done = does a begun now event in
      let timely = does-kept a (IsTimely now) now (grind (arith, nat_tests, common_steps)) (λ due. refl) (λ j. tt) begun event in
      happened-ready done m now (ready, by) (does-ready begun now (begun-ready m now by ready) refl done (does-calm a begun now event) timely (does-resting a total begun now event))
  running-ready false m now (Happens event) by ready = (ready, by)
  running-ready over m now (Answers answer) by ready = taken-ready m answer now by ready (takes (orders_of a) (snapshot a m) m.scan answer) refl

  in-ready : (status : Status) (m : Machine K S P) (now : ℕ) (input : Input K S P) → m.moment ≤ now → IsReady m → IsReadyBy now (step_in a status m now input).1
  in-ready Failed m now input by ready = (ready, by)
  in-ready Ended m now input by ready = (ready, by)
  in-ready Running m now input by ready = running-ready (is_over m.scan) m now input by ready

  after-ready : (m : Machine K S P) (from : ℕ) (inputs : List (Fed K S P)) → m.moment ≤ from → NeverGoBack from inputs → IsReady m → IsReady (after a m inputs)
  after-ready m from [] by forward ready = ready
  after-ready m from (i ∷ is) by forward ready =
      let next : IsReadyBy i.now (step a m i.now i.input).1 = in-ready m.status m i.now i.input (omega (arith, by, forward.0)) ready in
      after-ready (step a m i.now i.input).1 i.now is next.1 forward.1 next.0

  pub stays_awake : StaysAwake a
  stays_awake = record {
    at_first = λ configuration replies_first. ready-awake (opening configuration replies_first) (clear-quiet a (opening configuration replies_first) refl, tt);
    later = λ m inputs awake forward. ready-awake (after a m inputs) (after-ready m m.moment inputs (omega arith) forward (awake-ready m awake));
  }
