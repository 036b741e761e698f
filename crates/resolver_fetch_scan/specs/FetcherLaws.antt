-- What holds of every scan.
use Rattle.std.specs.Prelude.{◌≡◌, ℕ, ◌<◌, ◌⊎◌, Bool, true, false, ◌&&◌, option_map, List, [], ◌∷◌, Option, None, Some, is_some, nat_lt, length, sum, Result, Ok, Err, ⊤}
use Rattle.resolver_base.specs.declared.fault.Fault.{Fault}
use Rattle.resolver_sampling.specs.declared.score.Averages.{Averages}
use Rattle.resolver_fetch_scan.specs.declared.scan.Answer.{Answer}
use Rattle.resolver_fetch_scan.specs.declared.scan.Answer.TheVariants.{Drawn, Sent}
use Rattle.resolver_fetch_scan.specs.declared.scan.Ask.{Ask}
use Rattle.resolver_fetch_scan.specs.declared.scan.Ask.TheVariants as asks
use Rattle.resolver_fetch_scan.specs.declared.trail.Expected.{Expected}
use Rattle.resolver_fetch_scan.specs.declared.trail.Expected.TheVariants.{Mode, ByWeight, ByPlace, Checking}
use Rattle.resolver_fetch_scan.specs.declared.trail.Reason.{Reason}
use Rattle.resolver_fetch_scan.specs.declared.trail.Reason.TheVariants.{Limited, Refused}
use Rattle.resolver_fetch_scan.specs.declared.trail.Try.{Try}
use Rattle.resolver_sampling.specs.Choice.{count_below}
use Rattle.resolver_sampling.specs.Scores.{weight_of}
use Rattle.resolver_sampling.specs.Times.{never}
use Rattle.resolver_fetch_scan.specs.Orders.{Orders, same_peer}
use Rattle.resolver_fetch_scan.specs.Waiting.{Waiting}
use Rattle.resolver_fetch_requests.specs.Loads.{is_full}
use Rattle.resolver_fetch_scan.specs.Snapshot.{Snapshot, eligible, known}
use Rattle.resolver_fetch_scan.specs.Scan.{Scan, Turn, is_over, is_due, was_tried, least_until, weights, by_weight, by_place, left, begins, answered, takes, question_for, question}
use Rattle.resolver_fetch_scan.specs.Fetcher as calls
use Rattle.resolver_fetch_scan.specs.Fetcher.{AsksNewId, Fetcher, pending_deadline, scan_begin, scan_answer, snapshot, turned, weight}

-- each of these is so
abbrev pub AllAre : {X : Type 0} → (X → Type 0) → List X → Type 0
AllAre P [] = ⊤
AllAre P (x ∷ xs) = P x × AllAre P xs

-- x is one of these
abbrev pub IsAmong : {X : Type 0} → X → List X → Type 0
IsAmong x [] = ⊥
IsAmong x (y ∷ ys) = (x ≡ y) ⊎ IsAmong x ys

abbrev pub is_empty : {X : Type 0} → List X → Bool
is_empty [] = true
is_empty (x ∷ xs) = false

-- later than this moment, if there is one
abbrev pub IsLaterIfAny : (now : ℕ) → Option ℕ → Type 0
IsLaterIfAny now None = ⊤
IsLaterIfAny now (Some moment) = now < moment

-- a limit that is over only after this moment, or a refusal
abbrev pub IsLaterLimit : (now : ℕ) → Reason → Type 0
IsLaterLimit now (Limited until) = now < until
IsLaterLimit now Refused = ⊤

-- no weight, where this is so
abbrev pub weight_unless : (is_full : Bool) → (weight : Option ℕ) → Option ℕ
weight_unless true weight = option_map (λ w. 0) weight
weight_unless false weight = weight

-- what an answer makes of a scan; a refused one changes nothing
abbrev pub unless_refused : {K P : Type 0} → Turn K P → Result (Turn K P) Fault → Turn K P
unless_refused t (Ok next) = next
unless_refused t (Err fault) = t

module _ {K P : Type 0} (o : Orders K P) where
  -- each eligible peer of each due key was tried
  abbrev pub HasTriedAll : Snapshot K P → Scan K P → Type 0
  HasTriedAll s scan =
      AllAre (λ w. is_due scan.moment w ≡ true → AllAre (λ p. was_tried o scan.trail w.0 p.0 ≡ true) (eligible o s w.1.targets)) s.waiting

  -- a scan that is over without an accepted request
  abbrev pub IsInVain : Turn K P → Type 0
  IsInVain t = (is_over t.scan ≡ true) × (t.sent ≡ None)

  -- A scan that ends in vain, at once or later, has tried each eligible peer of each due key.
  pub record TriesAll : Type 0 where
    pub at_once : (s : Snapshot K P) (now : ℕ) → IsInVain (begins o s now) → HasTriedAll s (begins o s now).scan
    pub later : (s : Snapshot K P) (scan : Scan K P) (answer : Answer) (t : Turn K P)
        → takes o s scan answer ≡ Ok t → IsInVain t → HasTriedAll s t.scan

  -- the same pairs were tried, and the least limit is the same
  abbrev pub IsLikeTrail : (x y : List (Try K P)) → Type 0
  IsLikeTrail x y =
      ((key : K) (peer : P) → was_tried o x key peer ≡ was_tried o y key peer) × (least_until x ≡ least_until y) × (is_empty x ≡ is_empty y)

  abbrev pub IsLikeTurn : (t u : Turn K P) → Type 0
  IsLikeTurn t u = (t.scan.moment ≡ u.scan.moment) × (t.scan.expects ≡ u.scan.expects) × IsLikeTrail t.scan.trail u.scan.trail
      × (t.last_id ≡ u.last_id) × (t.waiter ≡ u.waiter) × (t.sent ≡ u.sent)

  abbrev pub IsLikeResult : (t u : Result (Turn K P) Fault) → Type 0
  IsLikeResult (Ok t) (Ok u) = IsLikeTurn t u
  IsLikeResult (Err fault) (Err other) = fault ≡ other
  IsLikeResult t u = ⊥

  -- A scan needs no more of its trail than which pairs were tried, and the least limit.
  abbrev pub NeedsPairs : Type 0
  NeedsPairs = (s : Snapshot K P) (scan : Scan K P) (trail : List (Try K P)) → IsLikeTrail scan.trail trail
      → (question o s scan ≡ question o s (record scan { trail = trail }))
      × ((answer : Answer) → IsLikeResult (takes o s scan answer) (takes o s (record scan { trail = trail }) answer))

  -- no pair stands twice
  abbrev pub IsOnce : List (Try K P) → Type 0
  IsOnce [] = ⊤
  IsOnce (t ∷ trail) = AllAre (λ later. was_tried o (t ∷ []) later.key later.peer ≡ false) trail × IsOnce trail

  -- a pair of a due key and a peer that is eligible for it
  abbrev pub IsPair : Snapshot K P → (now : ℕ) → Try K P → Type 0
  IsPair s now t = (w : K × Waiting P) × IsAmong w s.waiting × (w.0 ≡ t.key) × (is_due now w ≡ true)
      × ((x : Averages) × IsAmong (t.peer, x) (eligible o s w.1.targets))

  -- a scan after these answers, while nothing else changes
  abbrev pub after_answers : Snapshot K P → Turn K P → List Answer → Turn K P
  after_answers s t [] = t
  after_answers s t (answer ∷ answers) =
      after_answers s (unless_refused t (takes o (record s { last_id = t.last_id }) t.scan answer)) answers

  -- A scan that takes answers while nothing else changes tries pairs of a due key and an eligible peer alone, and none twice.
  pub record TriesPairs : Type 0 where
    pub eligible_alone : (s : Snapshot K P) (now : ℕ) (answers : List Answer) → AllAre (IsPair s now) (after_answers s (begins o s now) answers).scan.trail
    pub none_twice : (s : Snapshot K P) (now : ℕ) (answers : List Answer) → IsOnce (after_answers s (begins o s now) answers).scan.trail

  -- A scan in vain that met no limit at or before its moment wakes later, or never, where retries wait at all.
  pub record WakesLater : Type 0 where
    pub at_once : (f : Fetcher K P) (now : ℕ) → 0 < f.configuration.retry_delay → now < never
        → IsInVain (begins o (snapshot o f) now) → IsLaterIfAny now (pending_deadline (scan_begin o now f))
    pub later : (f : Fetcher K P) (scan : Scan K P) (answer : Answer) (t : Turn K P) → takes o (snapshot o f) scan answer ≡ Ok t
        → 0 < f.configuration.retry_delay → t.scan.moment < never → AllAre (λ y. IsLaterLimit t.scan.moment y.reason) t.scan.trail
        → IsInVain t → IsLaterIfAny t.scan.moment (pending_deadline (turned o t f))

  -- whether a request to a peer is accepted
  abbrev pub is_sent_to : P → Option (Ask K P) → Answer → Bool
  is_sent_to peer (Some (asks.Request other id key priority)) (Sent true) = same_peer o other peer
  is_sent_to peer ask answer = false

  -- A scan leaves every weight as it was, but that of a peer that an accepted request brings to the limit: it is nothing then.
  pub record KeepsWeights : Type 0 where
    pub begun : (f : Fetcher K P) (peer : P) (now : ℕ) → weight o peer (scan_begin o now f) ≡ weight o peer f
    pub answered : (f : Fetcher K P) (peer : P) (answer : Answer) → AsksNewId o f (calls.question o f)
        → let after = (scan_answer o answer f).1 in
        weight o peer after ≡ weight_unless (is_sent_to peer (calls.question o f) answer && is_full (known o (snapshot o after)).load peer) (weight o peer f)

-- how many of the numbers that a question asks for pass as its answers
abbrev pub count_answers : {K P : Type 0} → Ask K P → (Answer → Bool) → ℕ
count_answers (asks.Draw bound) passes = count_below bound (λ number. passes (Drawn number))
count_answers ask passes = 0

-- whether an answer is taken, and what is expected then passes
abbrev pub leads_to : {K P : Type 0} → (Option (Expected P) → Bool) → Result (Turn K P) Fault → Bool
leads_to passes (Ok t) = passes t.scan.expects
leads_to passes (Err fault) = false

-- whether the peer is drawn by weight
abbrev pub is_weighted : {P : Type 0} → Option (Expected P) → Bool
is_weighted (Some ByWeight) = true
is_weighted expected = false

module _ {K P : Type 0} (o : Orders K P) where
  -- whether a word on this peer is expected
  abbrev pub is_check : P → Option (Expected P) → Bool
  is_check peer (Some (Checking other)) = same_peer o peer other
  is_check peer expected = false

  -- Of the numbers that a scan asks for while it tries a key, so many choose the way to draw and each peer left.
  pub record DrawCounts (s : Snapshot K P) : Type 0 where
    -- four mean that a peer is drawn by weight
    pub mode : (scan : Scan K P) (w : K × Waiting P) → count_answers (question_for o s scan w Mode) (λ a. leads_to is_weighted (answered o s scan w Mode a)) ≡ 4
    -- by weight: as many as it weighs choose each
    pub weighted : (scan : Scan K P) (w : K × Waiting P) (p : P × Averages) → IsAmong p (left o s scan.trail w)
        → count_answers (question_for o s scan w ByWeight) (λ a. leads_to (is_check p.0) (answered o s scan w ByWeight a)) ≡ weight_of p.1
    -- by place: one chooses each
    pub uniform : (scan : Scan K P) (w : K × Waiting P) (p : P × Averages) → IsAmong p (left o s scan.trail w)
        → count_answers (question_for o s scan w ByPlace) (λ a. leads_to (is_check p.0) (answered o s scan w ByPlace a)) ≡ 1

-- A number chooses a peer exactly where it is below the asked bound.
pub record ChoosesBelow (P : Type 0) : Type 0 where
  pub weighted : (ps : List (P × Averages)) (number : ℕ) → is_some (by_weight ps number) ≡ nat_lt number (sum (weights ps))
  pub uniform : (ps : List (P × Averages)) (number : ℕ) → is_some (by_place ps number) ≡ nat_lt number (length ps)
