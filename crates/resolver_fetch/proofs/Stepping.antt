-- What an answer makes of a scan, by what it means for the key that is tried.
use Rattle.std.proofs.Common.{◌≡◌, refl, ap, subst, ◌∙◌, sym, ℕ, zero, suc, ◌+◌, ◌^◌, Bool, true, false, List, [], ◌∷◌, ◌++◌, Option, None, Some, Result, Ok, Err, option_map, if◌then◌else◌}
use Rattle.std.proofs.lemmas.List.{length-map}
use Rattle.std.specs.List.{slice_get}
use Rattle.std.specs.Prelude.{IfErr, is_ok, nat_lt, sum}
use Rattle.resolver_base.specs.declared.check.Check.TheVariants.{Clear, Until}
use Rattle.resolver_base.specs.declared.fault.Fault.{Fault}
use Rattle.resolver_base.specs.declared.fault.Fault.TheVariants.{OutOfMemory, OutOfRange, Unasked}
use Rattle.resolver_sampling.specs.declared.score.Averages.{Averages}
use Rattle.resolver_fetch_scan.specs.declared.scan.Answer.{Answer}
use Rattle.resolver_fetch_scan.specs.declared.scan.Answer.TheVariants.{Drawn, Checked, Sent}
use Rattle.resolver_fetch_scan.specs.declared.scan.Ask.TheVariants as asks
use Rattle.resolver_fetch_scan.specs.declared.step.Step.{Step}
use Rattle.resolver_fetch_scan.specs.declared.step.Step.TheVariants as steps
use Rattle.resolver_fetch_scan.specs.declared.trail.Reason.{Reason}
use Rattle.resolver_fetch_scan.specs.declared.trail.Try.{Try}
use Rattle.resolver_fetch_scan.specs.declared.trail.Expected.{Expected}
use Rattle.resolver_fetch_scan.specs.declared.trail.Expected.TheVariants.{Mode, ByWeight, ByPlace, Checking, FirstId, Sending}
use Rattle.resolver_sampling.specs.Choice.{chosen}
use Rattle.resolver_sampling.specs.Modes.{means_weighted}
use Rattle.resolver_fetch_requests.specs.declared.requests.request.Request.{Request}
use Rattle.resolver_fetch_scan.specs.declared.cursor.Cursor.{Cursor}
use Rattle.resolver_fetch.specs.Cursor.{ExpectsNewId, TakesNewId, scan_of}
use Rattle.resolver_fetch_scan.specs.Fetcher.{AsksNewId, Fetcher, answered as answered_with, asked_by, question, scan_answer, scan_taken, snapshot, turned}
use Rattle.resolver_fetch_scan.specs.Orders.{Orders}
use Rattle.resolver_sampling.specs.Scores.{weight_of}
use Rattle.resolver_fetch.specs.Seeking.{scan_at, tried_next}
use Rattle.resolver_fetch_scan.specs.Snapshot.{Snapshot}
use Rattle.resolver_fetch_scan.specs.Scan.{Scan, Turn, answered, by_place, by_weight, draws, left, goes_on_with, mode_of, next, question_for, question_of, sends, takes_for, weights}
use Rattle.resolver_fetch.specs.Stepping.{after_all, after_step}
use Rattle.resolver_fetch_scan.specs.ScanSteps.{and_then, ask_for, step_chosen, step_of, stepped}
use Rattle.resolver_fetch_scan.specs.Trying.{Trying, at_place, at_weight, trying_for, weighed, weights_of}
use Rattle.resolver_fetch_scan.specs.Waiting.{Waiting}

module _ {P : Type 0} where
  get-weighed : (ps : List (P × Averages)) (n : ℕ) → option_map (λ p. p.0) (slice_get (weighed ps) n) ≡ option_map (λ p. p.0) (slice_get ps n)
  get-weighed [] n = refl
  get-weighed (p ∷ ps) zero = refl
  get-weighed (p ∷ ps) (suc n) = get-weighed ps n

  same-weights : (ps : List (P × Averages)) → weights_of (weighed ps) ≡ weights ps
  same-weights [] = refl
  same-weights (p ∷ ps) = ap (λ ws. weight_of p.1 ∷ ws) (same-weights ps)

  same-place : (ps : List (P × Averages)) (n : ℕ) → at_place (weighed ps) n ≡ by_place ps n
  same-place ps n = get-weighed ps n

  same-choice : (ps : List (P × Averages)) (n : ℕ) → at_weight (weighed ps) n ≡ by_weight ps n
  same-choice ps n = rw (same-weights ps, get-weighed ps (chosen (weights ps) n)) refl

module _ {K P : Type 0} (o : Orders K P) where
  -- what an answer that means a step makes of a scan
  abbrev Makes : Snapshot K P → Scan K P → K → Result (Step P) Fault → Result (Turn K P) Fault
  Makes s scan key (Ok step) = Ok (stepped o s scan key step)
  Makes s scan key (Err fault) = Err fault

  makes-draw : (s : Snapshot K P) (scan : Scan K P) (key : K) (peer : Option P) → Makes s scan key (step_chosen peer) ≡ draws o s scan peer
  makes-draw s scan key None = refl
  makes-draw s scan key (Some peer) = refl

  makes-if : (s : Snapshot K P) (scan : Scan K P) (key : K) (b : Bool) (step : Step P) → Makes s scan key (if b then Ok step else Err OutOfRange) ≡ (if b then Ok (stepped o s scan key step) else Err OutOfRange)
  makes-if s scan key true step = refl
  makes-if s scan key false step = refl

  makes-first : (s : Snapshot K P) (scan : Scan K P) (key : K) (peer : P) (n : ℕ) (b : Bool)
      → Makes s scan key (and_then (λ id. Ok (steps.Send peer id)) (if b then Ok n else Err OutOfRange)) ≡ (if b then Ok (sends o s scan peer n) else Err OutOfRange)
  makes-first s scan key peer n true = refl
  makes-first s scan key peer n false = refl

  answered-by : (s : Snapshot K P) (scan : Scan K P) (w : K × Waiting P) (expected : Expected P) (answer : Answer)
      → Makes s scan w.0 (step_of (trying_for o s scan.trail w) expected answer) ≡ answered o s scan w expected answer
  answered-by s scan w Mode (Drawn n) = makes-if s scan w.0 (nat_lt n (w.1.retries + 4)) (steps.Expect (mode_of n))
  answered-by s scan w Mode (Checked check) = refl
  answered-by s scan w Mode (Sent accepted) = refl
  answered-by s scan w ByWeight (Drawn n) =
      ap (λ p. Makes s scan w.0 (step_chosen p)) (same-choice (left o s scan.trail w) n) ∙ makes-draw s scan w.0 (by_weight (left o s scan.trail w) n)
  answered-by s scan w ByWeight (Checked check) = refl
  answered-by s scan w ByWeight (Sent accepted) = refl
  answered-by s scan w ByPlace (Drawn n) =
      ap (λ p. Makes s scan w.0 (step_chosen p)) (same-place (left o s scan.trail w) n) ∙ makes-draw s scan w.0 (by_place (left o s scan.trail w) n)
  answered-by s scan w ByPlace (Checked check) = refl
  answered-by s scan w ByPlace (Sent accepted) = refl
  answered-by s scan w (Checking peer) (Drawn n) = refl
  answered-by s scan w (Checking peer) (Checked Clear) = refl
  answered-by s scan w (Checking peer) (Checked (Until moment)) = refl
  answered-by s scan w (Checking peer) (Sent accepted) = refl
  answered-by s scan w (FirstId peer) (Drawn n) = makes-first s scan w.0 peer n (nat_lt n (2 ^ 64))
  answered-by s scan w (FirstId peer) (Checked check) = refl
  answered-by s scan w (FirstId peer) (Sent accepted) = refl
  answered-by s scan w (Sending peer id) (Drawn n) = refl
  answered-by s scan w (Sending peer id) (Checked check) = refl
  answered-by s scan w (Sending peer id) (Sent true) = refl
  answered-by s scan w (Sending peer id) (Sent false) = refl

  -- what an answer that means a step makes of a fetcher
  abbrev Leaves : Fetcher K P → Scan K P → K → Result (Step P) Fault → Result (Unit {0}) Fault × Fetcher K P
  Leaves f scan key (Ok step) = (Ok tt, turned o (stepped o (snapshot o f) scan key step) f)
  Leaves f scan key (Err fault) = (Err fault, f)

  leaves-made : (f : Fetcher K P) (scan : Scan K P) (key : K) (r : Result (Step P) Fault) → scan_taken o f (Makes (snapshot o f) scan key r) ≡ Leaves f scan key r
  leaves-made f scan key (Ok step) = refl
  leaves-made f scan key (Err fault) = refl

  some-same : {X : Type 0} (x y : X) → Some x ≡ Some y → x ≡ y
  some-same x y e = cc

  taken-for : (f : Fetcher K P) (scan : Scan K P) (answer : Answer) (t : Trying K P) (w : Option (K × Waiting P)) (expected : Expected P)
      → option_map (trying_for o (snapshot o f) scan.trail) w ≡ Some t
      → scan_taken o f (takes_for o (snapshot o f) scan w (Some expected) answer) ≡ Leaves f scan t.key (step_of t expected answer)
  taken-for f scan answer t None expected is = cc
  taken-for f scan answer t (Some w) expected is =
      let same : trying_for o (snapshot o f) scan.trail w ≡ t = some-same _ _ is in
      ap (scan_taken o f) (sym (answered-by (snapshot o f) scan w expected answer))
      ∙ leaves-made f scan w.0 (step_of (trying_for o (snapshot o f) scan.trail w) expected answer)
      ∙ ap (λ (u : Trying K P). Leaves f scan u.key (step_of u expected answer)) same

  answers-with : (f : Fetcher K P) (cursor : Cursor K P) (answer : Answer) → f.scan ≡ Some (scan_of cursor) → tried_next o f cursor.moment cursor.trail ≡ Some cursor.trying
      → scan_answer o answer f ≡ Leaves f (scan_of cursor) cursor.trying.key (step_of cursor.trying cursor.expects answer)
  answers-with f cursor answer is tried =
      ap (answered_with o f answer) is
      ∙ taken-for f (scan_of cursor) answer cursor.trying (next o (snapshot o f) (scan_of cursor)) cursor.expects tried

  -- an answer that means a step is taken
  pub answer-taken : (f : Fetcher K P) (cursor : Cursor K P) (answer : Answer) (step : Step P) → f.scan ≡ Some (scan_of cursor)
      → tried_next o f cursor.moment cursor.trail ≡ Some cursor.trying → step_of cursor.trying cursor.expects answer ≡ Ok step
      → scan_answer o answer f ≡ (Ok tt, after_step o (scan_of cursor) cursor.trying.key step f)
  answer-taken f cursor answer step is tried means = answers-with f cursor answer is tried ∙ ap (Leaves f (scan_of cursor) cursor.trying.key) means

  -- an answer that means none is refused
  pub answer-refused : (f : Fetcher K P) (cursor : Cursor K P) (answer : Answer) (fault : Fault) → f.scan ≡ Some (scan_of cursor)
      → tried_next o f cursor.moment cursor.trail ≡ Some cursor.trying → step_of cursor.trying cursor.expects answer ≡ Err fault
      → scan_answer o answer f ≡ (Err fault, f)
  answer-refused f cursor answer fault is tried means = answers-with f cursor answer is tried ∙ ap (Leaves f (scan_of cursor) cursor.trying.key) means

  wanted-step : (f : Fetcher K P) (scan : Scan K P) (key : K) (r : Result (Step P) Fault) → is_ok r ≡ true → (Leaves f scan key r).0 ≡ Ok tt
  wanted-step f scan key (Ok step) is = refl
  wanted-step f scan key (Err fault) is = absurd cc

  -- an answer that means some step would be taken
  pub answer-wanted : (f : Fetcher K P) (cursor : Cursor K P) (answer : Answer) → f.scan ≡ Some (scan_of cursor)
      → tried_next o f cursor.moment cursor.trail ≡ Some cursor.trying → is_ok (step_of cursor.trying cursor.expects answer) ≡ true
      → (scan_answer o answer f).0 ≡ Ok tt
  answer-wanted f cursor answer is tried means =
      ap (λ r. r.0) (answers-with f cursor answer is tried) ∙ wanted-step f (scan_of cursor) cursor.trying.key (step_of cursor.trying cursor.expects answer) means

  -- where no scan is open no answer is expected
  pub answer-unasked : (f : Fetcher K P) (answer : Answer) → f.scan ≡ None → scan_answer o answer f ≡ (Err Unasked, f)
  answer-unasked f answer is = ap (answered_with o f answer) is

  turned-closed : (f : Fetcher K P) (t : Turn K P) (sent : Option (ℕ × Request K P)) → turned o (record t { sent = sent }) (record f { scan = None }) ≡ turned o (record t { sent = sent }) f
  turned-closed f t None = refl
  turned-closed f t (Some r) = refl

  -- what a scan's step makes of a fetcher doesn't depend on the scan that it had
  pub step-closed : (f : Fetcher K P) (scan : Scan K P) (key : K) (step : Step P) → after_step o scan key step (record f { scan = None }) ≡ after_step o scan key step f
  step-closed f scan key step = turned-closed f (stepped o (snapshot o f) scan key step) (stepped o (snapshot o f) scan key step).sent

  asks-same : (s : Snapshot K P) (scan : Scan K P) (w : K × Waiting P) (e : Expected P) → question_for o s scan w e ≡ ask_for s.configuration.priority_requests (trying_for o s scan.trail w) e
  asks-same s scan w Mode = refl
  asks-same s scan w ByWeight = ap asks.Draw (ap sum (sym (same-weights (left o s scan.trail w))))
  asks-same s scan w ByPlace = ap asks.Draw (sym (length-map (left o s scan.trail w) (λ p. (p.0, weight_of p.1))))
  asks-same s scan w (Checking peer) = refl
  asks-same s scan w (FirstId peer) = refl
  asks-same s scan w (Sending peer id) = refl

  asks-for : (s : Snapshot K P) (scan : Scan K P) (t : Trying K P) (e : Expected P) (w : Option (K × Waiting P)) (expects : Option (Expected P))
      → option_map (trying_for o s scan.trail) w ≡ Some t → expects ≡ Some e → question_of o s scan w expects ≡ Some (ask_for s.configuration.priority_requests t e)
  asks-for s scan t e None expects is expected = cc
  asks-for s scan t e (Some w) None is expected = cc
  asks-for s scan t e (Some w) (Some f) is expected =
      let same : trying_for o s scan.trail w ≡ t = some-same _ _ is in
      let it : f ≡ e = some-same _ _ expected in
      ap Some (asks-same s scan w f ∙ ap (λ (u : Trying K P). ask_for s.configuration.priority_requests u f) same ∙ ap (ask_for s.configuration.priority_requests t) it)

  -- what is asked once the scan expects something
  pub asks-kept : (f : Fetcher K P) (moment : ℕ) (trail : List (Try K P)) (t : Trying K P) (e : Expected P) (last waiter : Option ℕ) → tried_next o f moment trail ≡ Some t
      → Some (ask_for f.configuration.priority_requests t e) ≡ question o (record f { scan = Some (record { moment = moment; trail = trail; expects = Some e }); last_id = last; waiter = waiter })
  asks-kept f moment trail t e last waiter tried =
      sym (asks-for (snapshot o f) (record { moment = moment; trail = trail; expects = Some e }) t e (next o (snapshot o f) (scan_at moment trail)) (Some e) tried refl)

  -- what is asked has no id that is held, where none is expected
  pub asks-new : (f : Fetcher K P) (priority : Bool) (t : Trying K P) (last : Option ℕ) (e : Expected P) → ExpectsNewId f.asked last e → AsksNewId o f (Some (ask_for priority t e))
  asks-new f priority t last Mode is = tt
  asks-new f priority t last ByWeight is = tt
  asks-new f priority t last ByPlace is = tt
  asks-new f priority t last (Checking peer) is = tt
  asks-new f priority t last (FirstId peer) is = tt
  asks-new f priority t last (Sending peer id) is = is.0

  -- the id of what the open scan asks is held by no request
  pub question-new : (f : Fetcher K P) (cursor : Cursor K P) → f.scan ≡ Some (scan_of cursor) → tried_next o f cursor.moment cursor.trail ≡ Some cursor.trying
      → ExpectsNewId f.asked f.last_id cursor.expects → AsksNewId o f (question o f)
  question-new f cursor is tried new =
      subst (AsksNewId o f)
      (asks-kept f cursor.moment cursor.trail cursor.trying cursor.expects f.last_id f.waiter tried ∙ ap (asked_by o f) (sym is))
      (asks-new f f.configuration.priority_requests cursor.trying f.last_id cursor.expects new)

  goes-like : (s : Snapshot K P) (moment : ℕ) (trail : List (Try K P)) (e d : Option (Expected P)) (w : Option (K × Waiting P))
      → goes_on_with o s (record { moment = moment; trail = trail; expects = e }) w ≡ goes_on_with o s (record { moment = moment; trail = trail; expects = d }) w
  goes-like s moment trail e d None = refl
  goes-like s moment trail e d (Some w) = refl

  -- a scan goes on once a try in vain is noted
  pub fails-on : (f : Fetcher K P) (scan : Scan K P) (key : K) (peer : P) (reason : Reason) (noted : List (Try K P)) → noted ≡ scan.trail ++ record { key = key; peer = peer; reason = reason } ∷ []
      → after_all o scan.moment noted f ≡ after_step o scan key (steps.Fail peer reason) f
  fails-on f scan key peer reason noted added =
      ap (λ ts. after_all o scan.moment ts f) added
      ∙ ap (λ t. turned o t f) (goes-like (snapshot o f) scan.moment (scan.trail ++ record { key = key; peer = peer; reason = reason } ∷ []) None scan.expects _)

  -- a step of a scan that expects a new id takes no other
  pub step-new : (asked : List (ℕ × Request K P)) (last : Option ℕ) (t : Trying K P) (e : Expected P) (answer : Answer) (step : Step P) → ExpectsNewId asked last e → step_of t e answer ≡ Ok step → TakesNewId asked last step
  step-new asked last t e answer step new means = onto (step_of t e answer) (new-of e answer new) means where
    NewOf : Result (Step P) Fault → Type 0
    NewOf (Ok step) = TakesNewId asked last step
    NewOf (Err fault) = Unit {0}

    onto : (r : Result (Step P) Fault) → NewOf r → r ≡ Ok step → TakesNewId asked last step
    onto (Ok other) found is = let same : other ≡ step = cc in subst (TakesNewId asked last) same found
    onto (Err fault) found is = absurd cc

    mode-new : (b c : Bool) → NewOf (if b then Ok (steps.Expect (if c then ByWeight else ByPlace)) else Err OutOfRange)
    mode-new true true = tt
    mode-new true false = tt
    mode-new false c = tt

    chosen-new : (peer : Option P) → NewOf (step_chosen peer)
    chosen-new None = tt
    chosen-new (Some peer) = tt

    first-new : (peer : P) (n : ℕ) (b : Bool) → asked ≡ [] → NewOf (and_then (λ id. Ok (steps.Send peer id)) (if b then Ok n else Err OutOfRange))
    first-new peer n true none = rw none refl
    first-new peer n false none = tt

    new-of : (e : Expected P) (answer : Answer) → ExpectsNewId asked last e → NewOf (step_of t e answer)
    new-of Mode (Drawn n) new = mode-new (nat_lt n (t.retries + 4)) (means_weighted n)
    new-of Mode (Checked check) new = tt
    new-of Mode (Sent accepted) new = tt
    new-of ByWeight (Drawn n) new = chosen-new (at_weight t.left n)
    new-of ByWeight (Checked check) new = tt
    new-of ByWeight (Sent accepted) new = tt
    new-of ByPlace (Drawn n) new = chosen-new (at_place t.left n)
    new-of ByPlace (Checked check) new = tt
    new-of ByPlace (Sent accepted) new = tt
    new-of (Checking peer) (Drawn n) new = tt
    new-of (Checking peer) (Checked Clear) new = tt
    new-of (Checking peer) (Checked (Until moment)) new = tt
    new-of (Checking peer) (Sent accepted) new = tt
    new-of (FirstId peer) (Drawn n) new = first-new peer n (nat_lt n (2 ^ 64)) new
    new-of (FirstId peer) (Checked check) new = tt
    new-of (FirstId peer) (Sent accepted) new = tt
    new-of (Sending peer id) (Drawn n) new = tt
    new-of (Sending peer id) (Checked check) new = tt
    new-of (Sending peer id) (Sent true) new = new
    new-of (Sending peer id) (Sent false) new = tt

-- what is so anyway is so where memory is wanting
pub if-memory : {T : Type 0} (r : Result T Fault) (A : Type 0) → A → IfErr r (λ fault. fault ≡ OutOfMemory → A)
if-memory (Ok x) A a = tt
if-memory (Err fault) A a = λ wanting. a
