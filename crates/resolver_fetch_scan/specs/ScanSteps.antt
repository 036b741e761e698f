-- What an answer makes of the key that a scan tries, and what that makes of the scan.
use Rattle.std.specs.Prelude.{ℕ, ◌+◌, ◌^◌, Bool, true, false, nat_lt, length, sum, Option, None, Some, Result, Ok, Err, if◌then◌else◌}
use Rattle.resolver_base.specs.declared.check.Check.{Check}
use Rattle.resolver_base.specs.declared.check.Check.TheVariants.{Clear, Until}
use Rattle.resolver_base.specs.declared.fault.Fault.{Fault}
use Rattle.resolver_base.specs.declared.fault.Fault.TheVariants.{Unasked, OutOfRange}
use Rattle.resolver_fetch_scan.specs.declared.scan.Answer.{Answer}
use Rattle.resolver_fetch_scan.specs.declared.scan.Answer.TheVariants.{Drawn, Checked, Sent}
use Rattle.resolver_fetch_scan.specs.declared.scan.Ask.{Ask}
use Rattle.resolver_fetch_scan.specs.declared.scan.Ask.TheVariants as asks
use Rattle.resolver_fetch_scan.specs.declared.step.Step.{Step}
use Rattle.resolver_fetch_scan.specs.declared.step.Step.TheVariants as steps
use Rattle.resolver_fetch_scan.specs.declared.trail.Expected.{Expected}
use Rattle.resolver_fetch_scan.specs.declared.trail.Expected.TheVariants.{Mode, ByWeight, ByPlace, Checking, FirstId, Sending}
use Rattle.resolver_fetch_scan.specs.declared.trail.Reason.TheVariants.{Limited, Refused}
use Rattle.resolver_fetch_scan.specs.Orders.{Orders}
use Rattle.resolver_fetch_scan.specs.Snapshot.{Snapshot}
use Rattle.resolver_fetch_scan.specs.Scan.{Scan, Turn, mode_of, asks_for, clears, sends, fails, succeeds}
use Rattle.resolver_fetch_scan.specs.Trying.{Trying, at_place, at_weight, weights_of}

-- a refusal stays; what there is else goes on
abbrev pub and_then : {X Y : Type 0} → (X → Result Y Fault) → Result X Fault → Result Y Fault
and_then next (Ok x) = next x
and_then next (Err fault) = Err fault

-- the number, the word on a peer, or the word on a request that an answer is
abbrev pub drawn_of : Answer → Result ℕ Fault
drawn_of (Drawn n) = Ok n
drawn_of (Checked check) = Err Unasked
drawn_of (Sent accepted) = Err Unasked

abbrev pub checked_of : Answer → Result Check Fault
checked_of (Drawn n) = Err Unasked
checked_of (Checked check) = Ok check
checked_of (Sent accepted) = Err Unasked

abbrev pub sent_of : Answer → Result Bool Fault
sent_of (Drawn n) = Err Unasked
sent_of (Checked check) = Err Unasked
sent_of (Sent accepted) = Ok accepted

-- the id that a number is
abbrev pub id_of : (number : ℕ) → Result ℕ Fault
id_of number = if nat_lt number (2 ^ 64) then Ok number else Err OutOfRange

module _ {P : Type 0} where
  -- the way in which a peer is drawn
  abbrev pub step_mode : (retries number : ℕ) → Result (Step P) Fault
  step_mode retries number = if nat_lt number (retries + 4) then Ok (steps.Expect (mode_of number)) else Err OutOfRange

  -- a number that chose no peer was out of range
  abbrev pub step_chosen : Option P → Result (Step P) Fault
  step_chosen None = Err OutOfRange
  step_chosen (Some peer) = Ok (steps.Expect (Checking peer))

  abbrev pub step_checked : P → Check → Step P
  step_checked peer Clear = steps.Clear peer
  step_checked peer (Until moment) = steps.Fail peer (Limited moment)

  abbrev pub step_sent : P → (id : ℕ) → (accepted : Bool) → Step P
  step_sent peer id true = steps.Accept peer id
  step_sent peer id false = steps.Fail peer Refused

module _ {K P : Type 0} where
  -- what an answer means, to a scan that tries a key and expects something
  abbrev pub step_of : Trying K P → Expected P → Answer → Result (Step P) Fault
  step_of t Mode answer = and_then (step_mode t.retries) (drawn_of answer)
  step_of t ByWeight answer = and_then (λ n. step_chosen (at_weight t.left n)) (drawn_of answer)
  step_of t ByPlace answer = and_then (λ n. step_chosen (at_place t.left n)) (drawn_of answer)
  step_of t (Checking peer) answer = and_then (λ check. Ok (step_checked peer check)) (checked_of answer)
  step_of t (FirstId peer) answer = and_then (λ id. Ok (steps.Send peer id)) (and_then id_of (drawn_of answer))
  step_of t (Sending peer id) answer = and_then (λ accepted. Ok (step_sent peer id accepted)) (sent_of answer)

  -- what a scan asks that tries a key and expects something
  abbrev pub ask_for : (priority : Bool) → Trying K P → Expected P → Ask K P
  ask_for priority t Mode = asks.Draw (t.retries + 4)
  ask_for priority t ByWeight = asks.Draw (sum (weights_of t.left))
  ask_for priority t ByPlace = asks.Draw (length t.left)
  ask_for priority t (Checking peer) = asks.Check peer
  ask_for priority t (FirstId peer) = asks.Draw (2 ^ 64)
  ask_for priority t (Sending peer id) = asks.Request peer id t.key priority

module _ {K P : Type 0} (o : Orders K P) where
  -- what a step makes of a scan that tries a key
  abbrev pub stepped : Snapshot K P → Scan K P → K → Step P → Turn K P
  stepped s scan key (steps.Expect expected) = asks_for o s scan expected
  stepped s scan key (steps.Clear peer) = clears o s scan peer s.last_id
  stepped s scan key (steps.Send peer id) = sends o s scan peer id
  stepped s scan key (steps.Fail peer reason) = fails o s scan key peer reason
  stepped s scan key (steps.Accept peer id) = succeeds o s scan key peer id
