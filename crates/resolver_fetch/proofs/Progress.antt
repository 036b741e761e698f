-- An open scan tries something, takes an answer that fits, and comes to its end.
use Rattle.std.proofs.Common.{◌≡◌, refl, ap, subst, sym, ◌∙◌, ℕ, zero, suc, ◌+◌, ◌*◌, ◌<◌, ◌≤◌, ◌^◌, Bool, true, false, not, ◌&&◌, ◌||◌, cond, List, [], ◌∷◌, ◌++◌, length, Option, None, Some, Result, Ok, Err, filter, if◌then◌else◌, arith, lit<}
use Rattle.std.proofs.lemmas.Bool.{lt-ltb, ltb-true}
use Rattle.std.proofs.lemmas.Cmp.{tied_itself}
use Rattle.std.proofs.lemmas.List.Sums.{sum_by-cons}
use Rattle.std.specs.Cmp.{IsTotalOrder}
use Rattle.std.specs.List.{list_any}
use Rattle.std.specs.Ordering.{is_eq}
use Rattle.std.specs.Prelude.{IfErr, find, is_some, nat_lt, sum, ◌≢◌}
use Rattle.resolver_base.specs.declared.check.Check.TheVariants.{Clear, Until}
use Rattle.resolver_base.specs.declared.fault.Fault.{Fault}
use Rattle.resolver_base.specs.declared.fault.Fault.TheVariants as faults
use Rattle.resolver_base.specs.declared.fault.Fault.TheVariants.{OutOfRange}
use Rattle.resolver_sampling.specs.declared.score.Averages.{Averages}
use Rattle.resolver_sampling.specs.declared.score.Averages.TheVariants.{Unobserved, Observed}
use Rattle.resolver_fetch_scan.specs.declared.scan.Answer.{Answer}
use Rattle.resolver_fetch_scan.specs.declared.scan.Answer.TheVariants.{Drawn, Checked, Sent}
use Rattle.resolver_fetch_scan.specs.declared.scan.Ask.{Ask}
use Rattle.resolver_fetch_scan.specs.declared.trail.Expected.{Expected}
use Rattle.resolver_fetch_scan.specs.declared.trail.Expected.TheVariants.{Mode, ByWeight, ByPlace, Checking, FirstId, Sending}
use Rattle.resolver_fetch_scan.specs.declared.trail.Reason.{Reason}
use Rattle.resolver_fetch_scan.specs.declared.trail.Reason.TheVariants.{Limited, Refused}
use Rattle.resolver_fetch_scan.specs.declared.trail.Try.{Try}
use Rattle.resolver_sampling.specs.Choice.{chosen}
use Rattle.resolver_sampling.specs.Modes.{means_weighted}
use Rattle.resolver_fetch_scan.specs.Fetcher.{Fetcher, answered as answered_with, asked_by, question, scan_answer, scan_begin, scan_taken, snapshot, turned}
use Rattle.resolver_fetch_scan.specs.Orders.{Orders, same_key, same_peer}
use Rattle.resolver_fetch.specs.Progress.{ExpectsLeft, Fits, IsAnswerable, IsSound, IsSoundWith, IsTrying, Keeps, answers_left, answers_with, is_left, pairs_left, stage}
use Rattle.resolver_sampling.specs.Scores.{weight_of}
use Rattle.resolver_fetch_scan.specs.Snapshot.{Snapshot}
use Rattle.resolver_fetch_scan.specs.Scan as scans
use Rattle.resolver_fetch_scan.specs.Scan.{Scan, Turn, answered, asks_for, by_place, by_weight, can_be_tried, clears, draws, fails, goes_on, goes_on_with, is_due, left, next, question_for, question_of, takes_for, weights}
use Rattle.resolver_fetch_scan.specs.Waiting.{Waiting}
use Rattle.resolver_fetch_scan.proofs.ChoosesBelow.{chooses_below}
use Rattle.resolver_fetch.proofs.Continues.{left-after}
use Rattle.resolver_fetch_scan.proofs.OneOf.{found-passes}

module _ {X : Type 0} where
  some-same : (x y : X) → Some x ≡ Some y → x ≡ y
  some-same x y e = cc

  fewer-all : (test : X → Bool) (xs : List X) → length (filter (λ x. not (test x)) xs) ≤ length xs
  fewer-all test [] = omega arith
  fewer-all test (x ∷ xs) = at (test x) (fewer-all test xs) where
    at : (b : Bool) → length (filter (λ x. not (test x)) xs) ≤ length xs → length (cond (not b) (x ∷ filter (λ x. not (test x)) xs) (filter (λ x. not (test x)) xs)) ≤ length (x ∷ xs)
    at true rest = omega (arith, rest)
    at false rest = omega (arith, rest)

  -- where some pass a test, the others are fewer than all
  fewer-others : (test : X → Bool) (xs : List X) → list_any test xs ≡ true → length (filter (λ x. not (test x)) xs) < length xs
  fewer-others test [] any = cc
  fewer-others test (x ∷ xs) any = at (test x) any (fewer-others test xs) where
    at : (b : Bool) → (b || list_any test xs) ≡ true → (list_any test xs ≡ true → length (filter (λ x. not (test x)) xs) < length xs)
        → length (cond (not b) (x ∷ filter (λ x. not (test x)) xs) (filter (λ x. not (test x)) xs)) < length (x ∷ xs)
    at true any rest = omega (arith, fewer-all test xs)
    at false any rest = omega (arith, rest any)

and-second : (b c : Bool) → (b && c) ≡ true → c ≡ true
and-second true c e = e
and-second false c e = cc

or-true : (b : Bool) → (b || true) ≡ true
or-true true = refl
or-true false = refl

module _ {K P : Type 0} (o : Orders K P) (s : Snapshot K P) (trail : List (Try K P)) (t : Try K P) where
  abbrev later : List (Try K P)
  later = trail ++ t ∷ []

  here-at-most : (w : K × Waiting P) → length (left o s later w) ≤ length (left o s trail w)
  here-at-most w = rw (left-after o s zero trail t w) (fewer-all (λ p. same_key o w.0 t.key && same_peer o p.0 t.peer) (left o s trail w))

  pairs-at-most : (ws : List (K × Waiting P)) → pairs_left o s later ws ≤ pairs_left o s trail ws
  pairs-at-most [] = omega arith
  pairs-at-most (w ∷ ws) = omega (arith, here-at-most w, pairs-at-most ws)

  here-fewer : (w : K × Waiting P) → same_key o w.0 t.key ≡ true → is_left o (left o s trail w) t.peer ≡ true → length (left o s later w) < length (left o s trail w)
  here-fewer w same is = rw (left-after o s zero trail t w, same) (fewer-others (λ p. same_peer o p.0 t.peer) (left o s trail w) is)

  -- a try more of a pair that was left leaves fewer
  pairs-fewer : (test : K × Waiting P → Bool) (ws : List (K × Waiting P)) (w : K × Waiting P) → find test ws ≡ Some w → same_key o w.0 t.key ≡ true
      → is_left o (left o s trail w) t.peer ≡ true → pairs_left o s later ws < pairs_left o s trail ws
  pairs-fewer test [] w found same is = cc
  pairs-fewer test (v ∷ ws) w found same is = at (test v) found (pairs-fewer test ws w) where
    at : (b : Bool) → cond b (Some v) (find test ws) ≡ Some w
        → (find test ws ≡ Some w → same_key o w.0 t.key ≡ true → is_left o (left o s trail w) t.peer ≡ true → pairs_left o s later ws < pairs_left o s trail ws)
        → pairs_left o s later (v ∷ ws) < pairs_left o s trail (v ∷ ws)
    at true found rest =
        let it : w ≡ v = sym (some-same v w found) in
        let Q : K × Waiting P → Type 0 = λ x. length (left o s later x) < length (left o s trail x) in
        omega (arith, subst Q it (here-fewer w same is), pairs-at-most ws)
    at false found rest = omega (arith, here-at-most v, rest found same is)

module _ {K P : Type 0} (o : Orders K P) (by_key : IsTotalOrder o.key) (by_peer : IsTotalOrder o.peer) where
  -- the peer at a place is one of them
  place-left : (ps : List (P × Averages)) (n : ℕ) (peer : P) → by_place ps n ≡ Some peer → is_left o ps peer ≡ true
  place-left [] n peer e = cc
  place-left (p ∷ ps) zero peer e =
      let it : p.0 ≡ peer = some-same p.0 peer e in
      let same : same_peer o p.0 peer ≡ true = rw it (ap is_eq (tied_itself by_peer peer)) in
      rw same refl
  place-left (p ∷ ps) (suc n) peer e = rw (place-left ps n peer e) (or-true (same_peer o p.0 peer))

  weight-left : (ps : List (P × Averages)) (n : ℕ) (peer : P) → by_weight ps n ≡ Some peer → is_left o ps peer ≡ true
  weight-left ps n peer e = at (nat_lt n (sum (weights ps))) e where
    at : (b : Bool) → (if b then by_place ps (chosen (weights ps) n) else None) ≡ Some peer → is_left o ps peer ≡ true
    at true e = place-left ps (chosen (weights ps) n) peer e
    at false e = cc

  module _ (f : Fetcher K P) where
    abbrev read : Snapshot K P
    read = snapshot o f

    -- what a turn makes of the fetcher: less is to come, and the scan is sound if it is open
    abbrev IsGood : ℕ → Fetcher K P → Type 0
    IsGood most g = IsSound o g × (answers_left o g < most) × Keeps f g

    abbrev Good : ℕ → Turn K P → Type 0
    Good most t = IsGood most (turned o t f)

    module _ (scan : Scan K P) where
      abbrev pairs : ℕ
      pairs = 6 * pairs_left o read scan.trail read.waiting

      good-asks : (w : K × Waiting P) → next o read scan ≡ Some w → (e : Expected P) → ExpectsLeft o (left o read scan.trail w) e
          → (last : Option ℕ) (most : ℕ) → pairs + stage (Some e) < most → Good most (record (asks_for o read scan e) { last_id = last })
      good-asks w is e expects last most less =
          let Q : Option (K × Waiting P) → Type 0 = λ found. IsTrying o read (record scan { expects = Some e }) found (Some e) in
          (subst Q (sym is) expects, less, refl)

      good-goes-with : (most : ℕ) → pairs + 5 < most → (found : Option (K × Waiting P)) → next o read scan ≡ found → Good most (goes_on_with o read scan found)
      good-goes-with most less None is = (tt, omega (arith, less), tt)
      good-goes-with most less (Some w) is = good-asks w is Mode tt f.last_id most less

      -- a scan goes on
      good-goes : (most : ℕ) → pairs + 5 < most → Good most (goes_on o read scan)
      good-goes most less = good-goes-with most less (next o read scan) refl

    module _ (scan : Scan K P) (w : K × Waiting P) (is : next o read scan ≡ Some w) where
      good-fails : (peer : P) → is_left o (left o read scan.trail w) peer ≡ true → (reason : Reason) (most : ℕ) → pairs scan < most
          → Good most (fails o read scan w.0 peer reason)
      good-fails peer left_still reason most less =
          let t : Try K P = record { key = w.0; peer = peer; reason = reason } in
          let same : same_key o w.0 w.0 ≡ true = ap is_eq (tied_itself by_key w.0) in
          let fewer : pairs_left o read (scan.trail ++ t ∷ []) read.waiting < pairs_left o read scan.trail read.waiting =
          pairs-fewer o read scan.trail t (can_be_tried o read scan) read.waiting w is same left_still in
          good-goes (record scan { trail = scan.trail ++ t ∷ [] }) most (omega (arith, fewer, less))

      good-mode : (b : Bool) → Good (pairs scan + 5) (asks_for o read scan (if b then ByWeight else ByPlace))
      good-mode true = good-asks scan w is ByWeight tt f.last_id (pairs scan + 5) (omega arith)
      good-mode false = good-asks scan w is ByPlace tt f.last_id (pairs scan + 5) (omega arith)

      abbrev After : ℕ → Result (Turn K P) Fault → Type 0
      After most (Ok t) = Good most t
      After most (Err fault) = Unit {0}

      after-if : (most : ℕ) (b : Bool) (t : Turn K P) → Good most t → After most (if b then Ok t else Err OutOfRange)
      after-if most true t good = good
      after-if most false t good = tt

      after-draws : (found : Option P) → ((peer : P) → found ≡ Some peer → is_left o (left o read scan.trail w) peer ≡ true) → After (pairs scan + 4) (draws o read scan found)
      after-draws None among = tt
      after-draws (Some peer) among = good-asks scan w is (Checking peer) (among peer refl) f.last_id (pairs scan + 4) (omega arith)

      after-clears : (peer : P) → is_left o (left o read scan.trail w) peer ≡ true → (last : Option ℕ) → Good (pairs scan + 3) (clears o read scan peer last)
      after-clears peer among None = good-asks scan w is (FirstId peer) among f.last_id (pairs scan + 3) (omega arith)
      after-clears peer among (Some last) = good-asks scan w is (Sending peer _) among (Some _) (pairs scan + 3) (omega arith)

      after-answer : (e : Expected P) → ExpectsLeft o (left o read scan.trail w) e → (answer : Answer) → After (pairs scan + stage (Some e)) (answered o read scan w e answer)
      after-answer Mode expects (Drawn n) = after-if (pairs scan + 5) (nat_lt n (w.1.retries + 4)) _ (good-mode (means_weighted n))
      after-answer Mode expects (Checked check) = tt
      after-answer Mode expects (Sent accepted) = tt
      after-answer ByWeight expects (Drawn n) = after-draws (by_weight (left o read scan.trail w) n) (weight-left (left o read scan.trail w) n)
      after-answer ByWeight expects (Checked check) = tt
      after-answer ByWeight expects (Sent accepted) = tt
      after-answer ByPlace expects (Drawn n) = after-draws (by_place (left o read scan.trail w) n) (place-left (left o read scan.trail w) n)
      after-answer ByPlace expects (Checked check) = tt
      after-answer ByPlace expects (Sent accepted) = tt
      after-answer (Checking peer) expects (Drawn n) = tt
      after-answer (Checking peer) expects (Checked Clear) = after-clears peer expects f.last_id
      after-answer (Checking peer) expects (Checked (Until moment)) = good-fails peer expects (Limited moment) (pairs scan + 3) (omega arith)
      after-answer (Checking peer) expects (Sent accepted) = tt
      after-answer (FirstId peer) expects (Drawn n) =
          after-if (pairs scan + 2) (nat_lt n (2 ^ 64)) _ (good-asks scan w is (Sending peer n) expects (Some n) (pairs scan + 2) (omega arith))
      after-answer (FirstId peer) expects (Checked check) = tt
      after-answer (FirstId peer) expects (Sent accepted) = tt
      after-answer (Sending peer id) expects (Drawn n) = tt
      after-answer (Sending peer id) expects (Checked check) = tt
      after-answer (Sending peer id) expects (Sent true) = (tt, omega arith, tt)
      after-answer (Sending peer id) expects (Sent false) = good-fails peer expects Refused (pairs scan + 1) (omega arith)

      taken-good : (most : ℕ) (g : Fetcher K P) (r : Result (Turn K P) Fault) → After most r → scan_taken o f r ≡ (Ok tt, g) → IsGood most g
      taken-good most g (Ok t) good taken =
          let it : turned o t f ≡ g = ap (λ x. x.1) taken in
          let Q : Fetcher K P → Type 0 = λ x. IsGood most x in
          subst Q it good
      taken-good most g (Err fault) good taken = let not_ok : Err fault ≡ Ok tt = ap (λ x. x.0) taken in cc

    good-for : (scan : Scan K P) (found : Option (K × Waiting P)) → next o read scan ≡ found → (e : Option (Expected P)) → IsTrying o read scan found e
        → (answer : Answer) (g : Fetcher K P) → scan_taken o f (takes_for o read scan found e answer) ≡ (Ok tt, g) → IsGood (pairs scan + stage e) g
    good-for scan None is e sound answer g taken = absurd sound
    good-for scan (Some w) is None sound answer g taken = absurd sound
    good-for scan (Some w) is (Some e) sound answer g taken = taken-good scan w is (pairs scan + stage (Some e)) g (answered o read scan w e answer) (after-answer scan w is e sound answer) taken

    good-with : (scan : Option (Scan K P)) → IsSoundWith o f scan → (answer : Answer) (g : Fetcher K P) → answered_with o f answer scan ≡ (Ok tt, g) → IsGood (answers_with o read scan) g
    good-with None sound answer g taken = let not_ok : Err faults.Unasked ≡ Ok tt = ap (λ x. x.0) taken in cc
    good-with (Some scan) sound answer g taken = good-for scan (next o read scan) refl scan.expects sound answer g taken

    -- an answer that is taken leaves a sound scan, and fewer answers to take
    pub goes-forward : IsSound o f → (answer : Answer) (g : Fetcher K P) → scan_answer o answer f ≡ (Ok tt, g) → IsGood (answers_left o f) g
    goes-forward sound answer g taken = good-with f.scan sound answer g taken

    -- so does a beginning
    pub begins-sound : (now : ℕ) → IsSound o (scan_begin o now f)
    begins-sound now =
        let scan : Scan K P = record { moment = now; trail = []; expects = None } in
        (good-goes scan (pairs scan + 6) (omega arith)).0

module _ {K P : Type 0} (o : Orders K P) (s : Snapshot K P) where
  least-weight : (averages : Averages) → 0 < weight_of averages
  least-weight Unobserved = lit< tt
  least-weight (Observed bytes elapsed) = omega arith

  weights-positive : (ps : List (P × Averages)) → 0 < length ps → 0 < sum (weights ps)
  weights-positive [] some = absurd (omega (arith, some))
  weights-positive (p ∷ ps) some = omega (arith, least-weight p.1, sum_by-cons (λ x. x) (weight_of p.1) (weights ps))

  answerable-for : (scan : Scan K P) (w : K × Waiting P) (e : Expected P) → 0 < length (left o s scan.trail w) → IsAnswerable (question_for o s scan w e)
  answerable-for scan w Mode some = omega arith
  answerable-for scan w ByWeight some = weights-positive (left o s scan.trail w) some
  answerable-for scan w ByPlace some = some
  answerable-for scan w (Checking peer) some = tt
  answerable-for scan w (FirstId peer) some = lit< tt
  answerable-for scan w (Sending peer id) some = tt

  -- what a scan asks can be answered
  pub question-answerable : (scan : Scan K P) (ask : Ask K P) → scans.question o s scan ≡ Some ask → IsAnswerable ask
  question-answerable scan ask asked = found (next o s scan) scan.expects refl asked where
    found : (at : Option (K × Waiting P)) (e : Option (Expected P)) → next o s scan ≡ at → question_of o s scan at e ≡ Some ask → IsAnswerable ask
    found None e is asked = cc
    found (Some w) None is asked = cc
    found (Some w) (Some e) is asked =
        let passes : can_be_tried o s scan w ≡ true = found-passes (can_be_tried o s scan) s.waiting w is in
        let some : 0 < length (left o s scan.trail w) = ltb-true 0 _ (and-second (is_due scan.moment w) _ passes) in
        subst IsAnswerable (some-same _ ask asked) (answerable-for scan w e some)

module _ {K P : Type 0} (o : Orders K P) (f : Fetcher K P) where
  -- a scan that asks nothing is over
  pub asks-nothing : IsSound o f → question o f ≡ None → f.scan ≡ None
  asks-nothing sound none = with f.scan sound none where
    for : (scan : Scan K P) (found : Option (K × Waiting P)) (e : Option (Expected P)) → IsTrying o (snapshot o f) scan found e → question_of o (snapshot o f) scan found e ≡ None → Some scan ≡ None
    for scan None e sound none = absurd sound
    for scan (Some w) None sound none = absurd sound
    for scan (Some w) (Some e) sound none = cc

    with : (scan : Option (Scan K P)) → IsSoundWith o f scan → asked_by o f scan ≡ None → scan ≡ None
    with None sound none = refl
    with (Some scan) sound none = for scan (next o (snapshot o f) scan) scan.expects sound none

  module _ (ask : Ask K P) (asked : question o f ≡ Some ask) where
    pub is-answerable : IsAnswerable ask
    is-answerable = with f.scan asked where
      with : (scan : Option (Scan K P)) → asked_by o f scan ≡ Some ask → IsAnswerable ask
      with None asked = cc
      with (Some scan) asked = question-answerable o (snapshot o f) scan ask asked

    abbrev IsTaken : Result (Turn K P) Fault → Type 0
    IsTaken (Ok t) = Unit {0}
    IsTaken (Err fault) = ⊥

    -- an answer that fits is not refused
    pub fits-taken : (answer : Answer) → Fits ask answer → (fault : Fault) → scan_answer o answer f ≡ (Err fault, f) → ⊥
    fits-taken answer fits fault refused = with f.scan asked refused where
      if-taken : (b : Bool) (t : Turn K P) → b ≡ true → IsTaken (if b then Ok t else Err OutOfRange)
      if-taken true t is = tt
      if-taken false t is = cc

      draws-taken : (scan : Scan K P) (found : Option P) → is_some found ≡ true → IsTaken (draws o (snapshot o f) scan found)
      draws-taken scan None is = cc
      draws-taken scan (Some peer) is = tt

      for : (scan : Scan K P) (w : K × Waiting P) (e : Expected P) (answer : Answer) → Fits (question_for o (snapshot o f) scan w e) answer → IsTaken (answered o (snapshot o f) scan w e answer)
      for scan w Mode (Drawn n) fits = if-taken (nat_lt n (w.1.retries + 4)) _ (lt-ltb n (w.1.retries + 4) fits)
      for scan w Mode (Checked check) fits = fits
      for scan w Mode (Sent accepted) fits = fits
      for scan w ByWeight (Drawn n) fits =
          draws-taken scan (by_weight (left o (snapshot o f) scan.trail w) n) (chooses_below.weighted (left o (snapshot o f) scan.trail w) n ∙ lt-ltb n _ fits)
      for scan w ByWeight (Checked check) fits = fits
      for scan w ByWeight (Sent accepted) fits = fits
      for scan w ByPlace (Drawn n) fits =
          draws-taken scan (by_place (left o (snapshot o f) scan.trail w) n) (chooses_below.uniform (left o (snapshot o f) scan.trail w) n ∙ lt-ltb n _ fits)
      for scan w ByPlace (Checked check) fits = fits
      for scan w ByPlace (Sent accepted) fits = fits
      for scan w (Checking peer) (Drawn n) fits = fits
      for scan w (Checking peer) (Checked Clear) fits = tt
      for scan w (Checking peer) (Checked (Until moment)) fits = tt
      for scan w (Checking peer) (Sent accepted) fits = fits
      for scan w (FirstId peer) (Drawn n) fits = if-taken (nat_lt n (2 ^ 64)) _ (lt-ltb n (2 ^ 64) fits)
      for scan w (FirstId peer) (Checked check) fits = fits
      for scan w (FirstId peer) (Sent accepted) fits = fits
      for scan w (Sending peer id) (Drawn n) fits = fits
      for scan w (Sending peer id) (Checked check) fits = fits
      for scan w (Sending peer id) (Sent true) fits = tt
      for scan w (Sending peer id) (Sent false) fits = tt

      taken-not : (r : Result (Turn K P) Fault) → IsTaken r → scan_taken o f r ≡ (Err fault, f) → ⊥
      taken-not (Ok t) taken refused = let not_ok : Ok tt ≡ Err fault = ap (λ x. x.0) refused in cc
      taken-not (Err other) taken refused = taken

      found : (scan : Scan K P) (at : Option (K × Waiting P)) (e : Option (Expected P)) → question_of o (snapshot o f) scan at e ≡ Some ask
          → scan_taken o f (takes_for o (snapshot o f) scan at e answer) ≡ (Err fault, f) → ⊥
      found scan None e asked refused = cc
      found scan (Some w) None asked refused = cc
      found scan (Some w) (Some e) asked refused =
          let Q : Ask K P → Type 0 = λ q. Fits q answer in
          taken-not (answered o (snapshot o f) scan w e answer) (for scan w e answer (subst Q (sym (some-same _ ask asked)) fits)) refused

      with : (scan : Option (Scan K P)) → asked_by o f scan ≡ Some ask → answered_with o f answer scan ≡ (Err fault, f) → ⊥
      with None asked refused = cc
      with (Some scan) asked refused = found scan (next o (snapshot o f) scan) scan.expects asked refused

-- A refusal that is no other is want of memory.
pub only-memory : (fault : Fault) → (fault ≢ faults.OutOfMemory → ⊥) → fault ≡ faults.OutOfMemory
only-memory faults.OutOfMemory not_other = refl
only-memory faults.Failed not_other = absurd (not_other (λ e. cc))
only-memory faults.Ended not_other = absurd (not_other (λ e. cc))
only-memory faults.Busy not_other = absurd (not_other (λ e. cc))
only-memory faults.Unasked not_other = absurd (not_other (λ e. cc))
only-memory faults.OutOfRange not_other = absurd (not_other (λ e. cc))
only-memory faults.Exhausted not_other = absurd (not_other (λ e. cc))
only-memory faults.EndOfBuffer not_other = absurd (not_other (λ e. cc))
only-memory faults.InvalidTag not_other = absurd (not_other (λ e. cc))
only-memory faults.InvalidVarint not_other = absurd (not_other (λ e. cc))
only-memory faults.ExtraData not_other = absurd (not_other (λ e. cc))
only-memory faults.Key not_other = absurd (not_other (λ e. cc))
only-memory faults.Uneven not_other = absurd (not_other (λ e. cc))

pub if-refused : {T E : Type 0} (r : Result T E) (A B : E → Type 0) → ((e : E) → A e → B e) → IfErr r A → IfErr r B
if-refused (Ok x) A B f a = tt
if-refused (Err e) A B f a = f e a
