-- What a scan tried, and what the calls of a scan promise.
use Rattle.std.specs.Prelude.{◌≡◌, ℕ, ◌<◌, Bool, false, ◌&&◌, List, [], Option, None, Some, IfSome, Result, Ok, Err, option_and_then}
use Rattle.resolver_base.specs.declared.fault.Fault.{Fault}
use Rattle.resolver_sampling.specs.declared.score.Averages.{Averages}
use Rattle.resolver_sampling.specs.Times.{never}
use Rattle.resolver_fetch_requests.specs.Loads.{is_full}
use Rattle.resolver_fetch_scan.specs.declared.scan.Answer.{Answer}
use Rattle.resolver_fetch_scan.specs.declared.scan.Answer.TheVariants.{Sent}
use Rattle.resolver_fetch_scan.specs.declared.trail.Expected.{Expected}
use Rattle.resolver_fetch_scan.specs.declared.trail.Expected.TheVariants.{Checking, FirstId, Sending}
use Rattle.resolver_fetch_scan.specs.declared.trail.Try.{Try}
use Rattle.resolver_fetch_scan.specs.Orders.{Orders}
use Rattle.resolver_fetch_scan.specs.Waiting.{Waiting}
use Rattle.resolver_fetch_scan.specs.Snapshot.{Snapshot, known}
use Rattle.resolver_fetch_scan.specs.Scan.{Scan, Turn, left, next, takes}
use Rattle.resolver_fetch_scan.specs.Fetcher.{AsksNewId, Fetcher, pending_deadline, question, scan_answer, scan_begin, snapshot, weight}
use Rattle.resolver_fetch_scan.specs.FetcherLaws.{AllAre, HasTriedAll, IsAmong, IsLaterIfAny, IsLaterLimit, IsOnce, IsPair, is_sent_to, weight_unless}

-- whether an answer says that a request was accepted
abbrev pub is_accepted : Answer → Bool
is_accepted (Sent accepted) = accepted
is_accepted answer = false

-- the peer on whom a word is expected
abbrev pub awaited : {P : Type 0} → Option (Expected P) → Option P
awaited (Some (Checking peer)) = Some peer
awaited (Some (FirstId peer)) = Some peer
awaited (Some (Sending peer id)) = Some peer
awaited expected = None

-- the scan as an answer makes it
abbrev pub scan_in : {K P : Type 0} → Result (Turn K P) Fault → Option (Scan K P)
scan_in (Ok t) = Some t.scan
scan_in (Err fault) = None

module _ {K P : Type 0} (o : Orders K P) where
  -- pairs of a due key and a peer that is eligible for it alone, and none twice
  pub record IsTrail (s : Snapshot K P) (moment : ℕ) (trail : List (Try K P)) : Type 0 where
    pub pairs : AllAre (IsPair o s moment) trail
    pub once : IsOnce o trail

  -- the peer is left to try for the key that the scan tries
  abbrev pub IsLeft : Snapshot K P → Scan K P → P → Type 0
  IsLeft s scan peer = (w : K × Waiting P) → next o s scan ≡ Some w → (x : Averages) × IsAmong (peer, x) (left o s scan.trail w)

  -- A scan tried such pairs alone, and expects a word on no peer but one that is left to try.
  pub record TriesRightly (s : Snapshot K P) (scan : Scan K P) : Type 0 where
    pub fits : scan.moment < never
    pub tried : IsTrail s scan.moment scan.trail
    pub left_still : IfSome (awaited scan.expects) (IsLeft s scan)

  -- so does the open scan, if there is one
  abbrev pub ScansRightly : Fetcher K P → Type 0
  ScansRightly f = IfSome f.scan (TriesRightly (snapshot o f))

  -- the trail holds exactly the pairs of a due key and a peer that is eligible for it, each once
  pub record TriesExactly (s : Snapshot K P) (scan : Scan K P) : Type 0 where
    pub all : HasTriedAll o s scan
    pub alone : IsTrail s scan.moment scan.trail

  -- The scan is over without an accepted request. It wakes later, or never, where retries wait at all and it met no limit at or before its moment.
  pub record EndsInVain (old : Fetcher K P) (scan : Scan K P) (new : Fetcher K P) : Type 0 where
    pub exactly : TriesExactly (snapshot o old) scan
    pub later : 0 < old.configuration.retry_delay → AllAre (λ t. IsLaterLimit scan.moment t.reason) scan.trail → IsLaterIfAny scan.moment (pending_deadline new)

  -- the open scan as an answer makes it, also where it is over then
  abbrev pub scan_after : Fetcher K P → Answer → Option (Scan K P)
  scan_after f answer = option_and_then (λ scan. scan_in (takes o (snapshot o f) scan answer)) f.scan

  -- a scan of this moment is begun
  pub record BeginsRightly (now : ℕ) (old new : Fetcher K P) : Type 0 where
    pub rightly : ScansRightly new
    pub in_vain : new.scan ≡ None → EndsInVain old (record { moment = now; trail = []; expects = None }) new
    pub weights : (peer : P) → weight o peer new ≡ weight o peer old

  -- The open scan takes an answer. Every weight stays, but that of a peer that an accepted request makes full: it is nothing then.
  pub record AnswersRightly (answer : Answer) (old new : Fetcher K P) : Type 0 where
    pub rightly : ScansRightly old → ScansRightly new
    pub in_vain : ScansRightly old → new.scan ≡ None → is_accepted answer ≡ false
        → (scan : Scan K P) × (scan_after old answer ≡ Some scan) × EndsInVain old scan new
    pub weights : (peer : P) → weight o peer new
        ≡ weight_unless (is_sent_to o peer (question o old) answer && is_full (known o (snapshot o new)).load peer) (weight o peer old)

  -- each call of a scan is such
  pub record TrailLaw : Type 0 where
    pub begun : (f : Fetcher K P) (now : ℕ) → now < never → BeginsRightly now f (scan_begin o now f)
    pub answered : (f g : Fetcher K P) (answer : Answer) → AsksNewId o f (question o f) → scan_answer o answer f ≡ (Ok tt, g) → AnswersRightly answer f g
