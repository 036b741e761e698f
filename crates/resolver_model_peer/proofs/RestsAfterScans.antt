-- A wake-up at the moment of an event, or of a scan that ended in vain, begins no scan.
use Rattle.std.proofs.Common.{◌≡◌, refl, ap, ◌∙◌, subst, ℕ, ◌<◌, Bool, true, false, List, [], Option, None, Some, Result, Ok, Err}
use Rattle.std.specs.Prelude.{option_and_then}
use Rattle.resolver_base.specs.declared.fault.Fault.{Fault}
use Rattle.resolver_base.specs.declared.fault.Fault.TheVariants as faults
use Rattle.resolver_sampling.specs.Times.{never}
use Rattle.resolver_fetch_scan.specs.declared.scan.Answer.{Answer}
use Rattle.resolver_fetch_scan.specs.FetcherLaws.{AllAre, IsLaterLimit}
use Rattle.resolver_fetch_scan.specs.Scan.{Scan, Turn, ends, goes_on_with, is_over, next, takes, waiter_of}
use Rattle.resolver_fetch_scan.specs.Snapshot.{Snapshot}
use Rattle.resolver_fetch_scan.specs.TrailLaws.{is_accepted}
use Rattle.resolver_fetch_scan.specs.Waiting.{Waiting}
use Rattle.resolver_fetch_scan.proofs.InVain.{takes-in-vain}
use Rattle.resolver_fetch_scan.proofs.TrailLaws.{takes-unsent}
use Rattle.resolver_fetch_scan.proofs.WakesLater.{later-wake, waiter-later}
use Rattle.resolver_model_peer.specs.Parties.{Parties, orders_of}
use Rattle.resolver_model.specs.declared.status.Status.{Status}
use Rattle.resolver_model.specs.declared.status.Status.TheVariants.{Running, Ended, Failed}
use Rattle.resolver_model_peer.specs.Peer.{Answers, Done, Effect, Event, Happens, Machine, and_then, answer_of, does, is_due, scanned, scanned_if, snapshot, step_in, step_of, step_running, turned, wake_up}
use Rattle.resolver_model_peer.specs.PeerPoints.{RestsAfterScans, RestsAt}
use Rattle.resolver_model_peer.proofs.Quiet.{not-due}

module _ {K S P : Type 0} (a : Parties K S P) where
  -- nothing begins before the wake-up
  rests : (m : Machine K S P) (now : ℕ) → m.status ≡ Running → is_over m.scan ≡ true → is_due now (wake_up a m) ≡ false → RestsAt a m now
  rests m now runs over early = rw (runs, over, early) refl

  -- a waiter later than this moment
  abbrev WaitsFor : (now : ℕ) → (waiter : Option ℕ) → Type 0
  WaitsFor now waiter = (until : ℕ) × (waiter ≡ Some until) × (now < until)

  waits-early : (m : Machine K S P) (now : ℕ) → WaitsFor now m.waiter → is_due now (wake_up a m) ≡ false
  waits-early m now (until, is, later) =
      not-due now (wake_up a m) (rw is (later-wake now (λ (w : K × Waiting P). w.1.place.due) (snapshot a m).waiting until later))

  module _ (s : Snapshot K P) (waits : 0 < s.configuration.retry_delay) where
    abbrev EndsLater : Turn K P → Type 0
    EndsLater t = t.scan.moment < never → AllAre (λ y. IsLaterLimit t.scan.moment y.reason) t.scan.trail → WaitsFor t.scan.moment t.waiter

    ends-later : (scan : Scan K P) → next (orders_of a) s scan ≡ None → EndsLater (ends (orders_of a) s scan)
    ends-later scan none fits limits = (waiter_of (orders_of a) s scan, refl, waiter-later (orders_of a) s waits scan fits limits)

  -- an answer
  answer-rests : (m new : Machine K S P) (answer : Answer) (effects : List (Effect K S P)) → m.status ≡ Running
      → (r : Result (Turn K P) Fault) → takes (orders_of a) (snapshot a m) m.scan answer ≡ r → answer_of a r m ≡ (Ok effects, new)
      → is_over new.scan ≡ true → is_accepted answer ≡ false → 0 < new.configuration.retry_delay → new.scan.moment < never
      → AllAre (λ t. IsLaterLimit new.scan.moment t.reason) new.scan.trail → RestsAt a new new.scan.moment
  answer-rests m new answer effects runs (Err fault) is took = let clash : Err fault ≡ Ok effects = ap (λ x. x.0) took in absurd cc
  answer-rests m new answer effects runs (Ok t) is took =
      let it : turned a m t ≡ new = ap (λ x. x.1) took in
      subst (λ (n : Machine K S P). is_over n.scan ≡ true → is_accepted answer ≡ false → 0 < n.configuration.retry_delay → n.scan.moment < never
      → AllAre (λ y. IsLaterLimit n.scan.moment y.reason) n.scan.trail → RestsAt a n n.scan.moment) it
      (λ over other. at is over (takes-unsent (orders_of a) (snapshot a m) m.scan answer t is other))
    where
      at : takes (orders_of a) (snapshot a m) m.scan answer ≡ Ok t → is_over t.scan ≡ true → t.sent ≡ None
          → 0 < (turned a m t).configuration.retry_delay → t.scan.moment < never → AllAre (λ y. IsLaterLimit t.scan.moment y.reason) t.scan.trail → RestsAt a (turned a m t) t.scan.moment
      at is over unsent waits fits limits =
          let kept : (turned a m t).configuration ≡ m.configuration = rw unsent refl in
          let still : (turned a m t).status ≡ m.status = rw unsent refl in
          let delay : 0 < m.configuration.retry_delay = rw kept at waits in
          rests (turned a m t) t.scan.moment (still ∙ runs) over
          (waits-early (turned a m t) t.scan.moment
          (takes-in-vain (orders_of a) (snapshot a m) (EndsLater (snapshot a m) delay) (ends-later (snapshot a m) delay) m.scan answer t is (over, unsent) fits limits))

  -- an event
  module _ (new : Machine K S P) (now : ℕ) (effects : List (Effect K S P)) where
    abbrev Rests : Machine K S P → Type 0
    Rests n = n.status ≡ Running → is_over n.scan ≡ true → 0 < n.configuration.retry_delay → now < never → RestsAt a n now

    begun-rests : (m : Machine K S P) → (w : Option (K × Waiting P)) → Rests (turned a m (goes_on_with (orders_of a) (snapshot a m) (record { moment = now; trail = []; expects = None }) w))
    begun-rests m (Some w) runs over waits fits = cc
    begun-rests m None runs over waits fits =
        let opened : Scan K P = record { moment = now; trail = []; expects = None } in
        let n : Machine K S P = turned a m (ends (orders_of a) (snapshot a m) opened) in
        rests n now runs over
        (waits-early n now (waiter_of (orders_of a) (snapshot a m) opened, refl, waiter-later (orders_of a) (snapshot a m) waits opened fits tt))

    scanned-rests : (b : Bool) (m : Machine K S P) → is_due now (wake_up a m) ≡ b → Rests (scanned_if a b m now).machine
    scanned-rests true m is = begun-rests m (next (orders_of a) (snapshot a m) (record { moment = now; trail = []; expects = None }))
    scanned-rests false m is = λ runs over waits fits. rests m now runs over is

    happened-rests : (m : Machine K S P) (o : Option (Done K S P)) → step_of a (option_and_then (λ d. and_then d (λ n. Some (scanned a n now))) o) m ≡ (Ok effects, new) → Rests new
    happened-rests m None took = let clash : Err faults.Exhausted ≡ Ok effects = ap (λ x. x.0) took in absurd cc
    happened-rests m (Some d) took = subst Rests (ap (λ x. x.1) took) (scanned-rests (is_due now (wake_up a d.machine)) d.machine refl)

    running-rests : (m : Machine K S P) (over : Bool) (event : Event K S P) → step_running a over m now (Happens event) ≡ (Ok effects, new) → Rests new
    running-rests m true event took = happened-rests m (does a (record m { moment = now }) now event) took
    running-rests m false event took = let clash : Err faults.Busy ≡ Ok effects = ap (λ x. x.0) took in absurd cc

    event-rests : (m : Machine K S P) (status : Status) (event : Event K S P) → step_in a status m now (Happens event) ≡ (Ok effects, new) → Rests new
    event-rests m Running event took = running-rests m (is_over m.scan) event took
    event-rests m Ended event took = let clash : Err faults.Ended ≡ Ok effects = ap (λ x. x.0) took in absurd cc
    event-rests m Failed event took = let clash : Err faults.Failed ≡ Ok effects = ap (λ x. x.0) took in absurd cc

  answered-rests : (m new : Machine K S P) (now : ℕ) (answer : Answer) (effects : List (Effect K S P)) (status : Status) → m.status ≡ status → step_in a status m now (Answers answer) ≡ (Ok effects, new)
      → is_over new.scan ≡ true → is_accepted answer ≡ false → 0 < new.configuration.retry_delay → new.scan.moment < never
      → AllAre (λ t. IsLaterLimit new.scan.moment t.reason) new.scan.trail → RestsAt a new new.scan.moment
  answered-rests m new now answer effects Running runs took = answer-rests m new answer effects runs (takes (orders_of a) (snapshot a m) m.scan answer) refl (at (is_over m.scan) took)
    where
      at : (over : Bool) → step_running a over m now (Answers answer) ≡ (Ok effects, new) → answer_of a (takes (orders_of a) (snapshot a m) m.scan answer) m ≡ (Ok effects, new)
      at true took = took
      at false took = took
  answered-rests m new now answer effects Ended runs took = let clash : Err faults.Ended ≡ Ok effects = ap (λ x. x.0) took in absurd cc
  answered-rests m new now answer effects Failed runs took = let clash : Err faults.Failed ≡ Ok effects = ap (λ x. x.0) took in absurd cc

  pub rests_after_scans : RestsAfterScans a
  rests_after_scans = record {
    after_event = λ m new now event effects took. event-rests new now effects m m.status event took;
    after_answer = λ m new now answer effects took. answered-rests m new now answer effects m.status refl took;
  }
