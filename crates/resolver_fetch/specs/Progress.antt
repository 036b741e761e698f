-- What holds of every open scan, and how many answers it takes at most.
use Rattle.std.specs.Prelude.{◌≡◌, ℕ, ◌+◌, ◌*◌, ◌<◌, Bool, true, List, [], ◌∷◌, length, Option, None, Some}
use Rattle.std.specs.List.{list_any}
use Rattle.resolver_sampling.specs.declared.score.Averages.{Averages}
use Rattle.resolver_fetch_scan.specs.declared.scan.Answer.{Answer}
use Rattle.resolver_fetch_scan.specs.declared.scan.Answer.TheVariants.{Drawn, Checked, Sent}
use Rattle.resolver_fetch_scan.specs.declared.scan.Ask.{Ask}
use Rattle.resolver_fetch_scan.specs.declared.scan.Ask.TheVariants as asks
use Rattle.resolver_fetch_scan.specs.declared.trail.Expected.{Expected}
use Rattle.resolver_fetch_scan.specs.declared.trail.Expected.TheVariants.{Mode, ByWeight, ByPlace, Checking, FirstId, Sending}
use Rattle.resolver_fetch_scan.specs.declared.trail.Try.{Try}
use Rattle.resolver_fetch_scan.specs.Fetcher.{Fetcher, snapshot}
use Rattle.resolver_fetch.specs.Fetching.{given_up}
use Rattle.resolver_fetch_scan.specs.Orders.{Orders, same_peer}
use Rattle.resolver_fetch_scan.specs.Scan.{Scan, left, next}
use Rattle.resolver_fetch_scan.specs.Snapshot.{Snapshot}
use Rattle.resolver_fetch_scan.specs.Waiting.{Waiting}

-- how many answers are expected at most until the peer that is drawn next was tried
abbrev pub stage : {P : Type 0} → Option (Expected P) → ℕ
stage None = 0
stage (Some Mode) = 5
stage (Some ByWeight) = 4
stage (Some ByPlace) = 4
stage (Some (Checking peer)) = 3
stage (Some (FirstId peer)) = 2
stage (Some (Sending peer id)) = 1

module _ {K P : Type 0} where
  -- a number is asked for below a bound that there is one below
  abbrev pub IsAnswerable : Ask K P → Type 0
  IsAnswerable (asks.Draw bound) = 0 < bound
  IsAnswerable (asks.Check peer) = Unit {0}
  IsAnswerable (asks.Request peer id key priority) = Unit {0}

  -- the answer is of the kind that is asked for, and a number is below the bound
  abbrev pub Fits : Ask K P → Answer → Type 0
  Fits (asks.Draw bound) (Drawn n) = n < bound
  Fits (asks.Check peer) (Checked check) = Unit {0}
  Fits (asks.Request peer id key priority) (Sent accepted) = Unit {0}
  Fits ask answer = ⊥

  abbrev pub KeepsWith : (f g : Fetcher K P) → Option (Scan K P) → Type 0
  KeepsWith f g None = Unit {0}
  KeepsWith f g (Some scan) = given_up g ≡ given_up (record f { last_id = g.last_id })

  -- while a scan is open, nothing but it, the last id and the waiter changes
  abbrev pub Keeps : (f g : Fetcher K P) → Type 0
  Keeps f g = KeepsWith f g g.scan

module _ {K P : Type 0} (o : Orders K P) where
  abbrev pub is_left : List (P × Averages) → P → Bool
  is_left ps peer = list_any (λ p. same_peer o p.0 peer) ps

  -- the peer that a word is expected on is left to try
  abbrev pub ExpectsLeft : List (P × Averages) → Expected P → Type 0
  ExpectsLeft ps Mode = Unit {0}
  ExpectsLeft ps ByWeight = Unit {0}
  ExpectsLeft ps ByPlace = Unit {0}
  ExpectsLeft ps (Checking peer) = is_left ps peer ≡ true
  ExpectsLeft ps (FirstId peer) = is_left ps peer ≡ true
  ExpectsLeft ps (Sending peer id) = is_left ps peer ≡ true

  -- it tries a key, and expects something
  abbrev pub IsTrying : Snapshot K P → Scan K P → Option (K × Waiting P) → Option (Expected P) → Type 0
  IsTrying s scan (Some w) (Some expected) = ExpectsLeft (left o s scan.trail w) expected
  IsTrying s scan w expected = ⊥

  abbrev pub IsSoundWith : Fetcher K P → Option (Scan K P) → Type 0
  IsSoundWith f None = Unit {0}
  IsSoundWith f (Some scan) = IsTrying (snapshot o f) scan (next o (snapshot o f) scan) scan.expects

  -- an open scan tries something
  abbrev pub IsSound : Fetcher K P → Type 0
  IsSound f = IsSoundWith f f.scan

  -- how many pairs of a key and a peer are left to try
  abbrev pub pairs_left : Snapshot K P → List (Try K P) → List (K × Waiting P) → ℕ
  pairs_left s trail [] = 0
  pairs_left s trail (w ∷ ws) = length (left o s trail w) + pairs_left s trail ws

  abbrev pub answers_with : Snapshot K P → Option (Scan K P) → ℕ
  answers_with s None = 0
  answers_with s (Some scan) = 6 * pairs_left s scan.trail s.waiting + stage scan.expects

  -- how many answers the open scan takes at most
  abbrev pub answers_left : Fetcher K P → ℕ
  answers_left f = answers_with (snapshot o f) f.scan
