-- What an input does to the parts, by what its event does and by the scan behind it.
use Rattle.std.proofs.Common.{◌≡◌, refl, ap, sym, ◌∙◌, subst, ℕ, Bool, true, false, not, ◌&&◌, List, ◌++◌, map, Option, None, Some, Result, Ok, Err, append_assoc}
use Rattle.std.proofs.lemmas.List.{map-append}
use Rattle.std.specs.Option.{option_and_then}
use Rattle.std.specs.Prelude.{is_err, is_none, is_some, ◌==◌}
use Rattle.std.specs.Map.{lookup}
use Rattle.resolver_base.specs.declared.fault.Fault.{Fault}
use Rattle.resolver_base.specs.declared.fault.Fault.TheVariants.{OutOfMemory, Exhausted}
use Rattle.resolver_fetch_requests.specs.declared.requests.request.Request.{Request}
use Rattle.resolver_fetch_requests.specs.Requests.{overdue}
use Rattle.resolver_fetch_scan.specs.declared.scan.Answer.{Answer}
use Rattle.resolver_fetch_scan.specs.Fetcher.{Fetcher, unless_over}
use Rattle.resolver_fetch_scan.specs.Scan.{is_over, takes}
use Rattle.resolver_model_peer.specs.declared.named.Serve.{Serve}
use Rattle.resolver_model_peer.specs.Parties.{Parties, orders_of}
use Rattle.resolver_model_peer.specs.Peer.{Done, Event, Fetch, Retain, PeerSet, Blocked, ActiveDue, PendingDue, Verdict, Served, Net, End, Happens, Answers, Machine, Open, and_then, asking, does, happen, is_due, quiet, scanned, served_by, snapshot, step_of, step_running, times_out, turned, verdict_on, wake_up}
use Rattle.resolver_model_peer.specs.Peer as machines
use Rattle.resolver_model_peer.specs.PeerSteps.{is_passed_over, takes_no_memory}
use Rattle.resolver_model_peer.proofs.PeerPoints.{passed-quiet}
use Rattle.resolver_model_peer.proofs.AsksEligible.{IsCalmIfDone, does-calm}
use Rattle.resolver_model_peer.specs.declared.effects.Effect.{Effect as Told}
use Rattle.resolver_peer_step.specs.declared.parts.Parts.{Parts}
use Rattle.resolver_peer_step.specs.ScanAnswers.{Answered}
use Rattle.resolver_peer_step.specs.EngineSteps.{Taken, running}
use Rattle.resolver_peer_step.specs.Going.{Goes, Went}
use Rattle.resolver_peer_step.specs.Said.{Codec, written}
use Rattle.resolver_peer_step.specs.Tied.{Agrees}

some-same : {X : Type 0} (x y : X) → Some x ≡ Some y → x ≡ y
some-same x y is = cc

not-false : (b : Bool) → false ≡ not b → b ≡ true
not-false true is = refl
not-false false is = absurd cc

ok-of : {T : Type 0} (r : Result T Fault) → is_err r ≡ false → (t : T) × (r ≡ Ok t)
ok-of (Ok t) is = (t, refl)
ok-of (Err fault) is = absurd cc

module _ {K S P : Type 0} (a : Parties K S P) where
  calm-done : (m : Machine K S P) (going : Option (Done K S P)) (d : Done K S P) → IsCalmIfDone m going → going ≡ Some d → d.machine.scan ≡ m.scan
  calm-done m None d calm is = absurd cc
  calm-done m (Some e) d calm is = let same : e ≡ d = cc in ap (λ (d : Done K S P). d.machine.scan) (sym same) ∙ calm.0

  answers-running : (over : Bool) (m : Machine K S P) (moment : ℕ) (answer : Answer)
      → step_running a over m moment (Answers answer) ≡ machines.answer_of a (takes (orders_of a) (snapshot a m) m.scan answer) m
  answers-running true m moment answer = refl
  answers-running false m moment answer = refl

  module _ (c : Codec K) where
    -- an event leaves the scan closed
    pub closed-behind : (e f : Parts K P S) (m : Machine K S P) (now : ℕ) (event : Event K S P) (before mid : List (Told K P S)) → Agrees a e m → is_some e.fetcher.scan ≡ false
        → Went a c (does a m now event) before mid f → is_some f.fetcher.scan ≡ false
    closed-behind e f m now event before mid is closed went =
        ap (λ (f : Fetcher K P). is_some f.scan) went.agrees.fetcher
        ∙ ap (λ scan. is_some (unless_over scan)) (calm-done m (does a m now event) went.done (does-calm a m now event) went.is)
        ∙ ap (λ (f : Fetcher K P). is_some f.scan) (sym is.fetcher) ∙ closed

    -- what a last call does where its machine has all numbers that it needs
    goes-then : (done : Done K S P) (going : Option (Done K S P)) (before mid after : List (Told K P S)) (e : Parts K P S) (r : Result (Unit {0}) Fault) → Goes a c (Some done) mid after e r
        → (Went a c (Some done) mid after e → Went a c going before after e) → Goes a c going before after e r
    goes-then done going before mid after e (Ok _) goes then = then goes
    goes-then done going before mid after e (Err OutOfMemory) goes then = tt
    goes-then done going before mid after e (Err Exhausted) goes then = absurd cc
    goes-then done going before mid after e (Err fault) goes then = absurd goes

    both : (m : Machine K S P) (now : ℕ) (event : Event K S P) (before mid after : List (Told K P S)) (e f : Parts K P S) (first : Went a c (does a (record m { moment = now }) now event) before mid e)
        → Went a c (Some (scanned a first.done.machine now)) mid after f → Went a c (happen a m now event) before after f
    both m now event before mid after e f first last =
        let s = scanned a first.done.machine now in
        let same : s ≡ last.done = some-same s last.done last.is in
        record {
          done = record { machine = s.machine; effects = first.done.effects ++ s.effects };
          is = ap (option_and_then (λ d. and_then d (λ n. Some (scanned a n now)))) first.is;
          told =
              last.told ∙ ap (λ (d : Done K S P). mid ++ map (written c) d.effects) (sym same)
              ∙ ap (λ told. told ++ map (written c) s.effects) first.told
              ∙ append_assoc before (map (written c) first.done.effects) (map (written c) s.effects)
              ∙ ap (λ told. before ++ told) (sym (map-append (written c) first.done.effects s.effects));
          agrees = subst (λ (d : Done K S P). Agrees a f d.machine) (sym same) last.agrees;
        }

    -- an event, with the scan that it gives rise to
    pub happened : (m : Machine K S P) (now : ℕ) (event : Event K S P) (before mid after : List (Told K P S)) (e f : Parts K P S) → m.scan.expects ≡ None
        → Went a c (does a (record m { moment = now }) now event) before mid e → (r : Result (Unit {0}) Fault)
        → ((n : Machine K S P) → Agrees a e n → n.scan.expects ≡ None → Goes a c (Some (scanned a n now)) mid after f r) → Goes a c (happen a m now event) before after f r
    happened m now event before mid after e f over first r scans =
        let left = calm-done (record m { moment = now }) (does a (record m { moment = now }) now event) first.done (does-calm a (record m { moment = now }) now event) first.is in
        goes-then (scanned a first.done.machine now) (happen a m now event) before mid after f r (scans first.done.machine first.agrees (ap (λ scan. scan.expects) left ∙ over))
        (both m now event before mid after e f first)

    -- an event that is refused begins no scan
    pub refused-behind : (m : Machine K S P) (now : ℕ) (event : Event K S P) (before after : List (Told K P S)) (e : Parts K P S) (fault : Fault)
        → Goes a c (does a (record m { moment = now }) now event) before after e (Err fault) → Goes a c (happen a m now event) before after e (Err fault)
    refused-behind m now event before after e OutOfMemory goes = tt
    refused-behind m now event before after e Exhausted goes = ap (option_and_then (λ d. and_then d (λ n. Some (scanned a n now)))) goes
    refused-behind m now event before after e fault goes = absurd goes

    -- memory is wanting in a scan alone where the event took none
    pub wanting-behind : (m : Machine K S P) (now : ℕ) (event : Event K S P) (before mid : List (Told K P S)) (e : Parts K P S) (first : Went a c (does a (record m { moment = now }) now event) before mid e)
        → is_due now (wake_up a first.done.machine) ≡ true → takes_no_memory a m now (Happens event) ≡ false
    wanting-behind m now event before mid e first due = at (is_passed_over a m now event) refl
      where
        at : (passed : Bool) → is_passed_over a m now event ≡ passed → (passed && not (is_due now (wake_up a m))) ≡ false
        at false is = refl
        at true is =
            let kept : quiet (record m { moment = now }) ≡ first.done = some-same (quiet (record m { moment = now })) first.done (sym (passed-quiet a m now event is) ∙ first.is) in
            ap not (ap (λ (d : Done K S P). is_due now (wake_up a d.machine)) kept ∙ due)

    -- an event is taken
    pub took-event : (m : Machine K S P) (now : ℕ) (event : Event K S P) (before after : List (Told K P S)) (e : Parts K P S) → false ≡ not (is_over m.scan) → (r : Result (Unit {0}) Fault)
        → Goes a c (happen a m now event) before after e r → (r ≡ Err OutOfMemory → takes_no_memory a m now (Happens event) ≡ false)
        → Taken a c m (record { now = now; input = Happens event }) before after e r
    took-event m now event before after e shut = at
      where
        over : is_over m.scan ≡ true
        over = not-false (is_over m.scan) shut

        runs : running a m (record { now = now; input = Happens event }) ≡ step_of a (happen a m now event) m
        runs = ap (λ over. step_running a over m now (Happens event)) over

        at : (r : Result (Unit {0}) Fault) → Goes a c (happen a m now event) before after e r → (r ≡ Err OutOfMemory → takes_no_memory a m now (Happens event) ≡ false)
            → Taken a c m (record { now = now; input = Happens event }) before after e r
        at (Ok _) goes wanting = record {
          effects = goes.done.effects;
          machine = goes.done.machine;
          is = runs ∙ ap (λ going. step_of a going m) goes.is;
          told = goes.told;
          agrees = goes.agrees;
        }
        at (Err OutOfMemory) goes wanting = (ap not over, wanting refl)
        at (Err Exhausted) goes wanting = ap (λ r. r.0) (runs ∙ ap (λ going. step_of a going m) goes)
        at (Err fault) goes wanting = absurd goes

    -- an answer is taken
    pub took-answer : (m : Machine K S P) (moment : ℕ) (answer : Answer) (before after : List (Told K P S)) (e : Parts K P S) (r : Result (Unit {0}) Fault)
        → Answered a c m answer before after e r → Taken a c m (record { now = moment; input = Answers answer }) before after e r
    took-answer m moment answer before after e = at
      where
        runs : running a m (record { now = moment; input = Answers answer }) ≡ machines.answer_of a (takes (orders_of a) (snapshot a m) m.scan answer) m
        runs = answers-running (is_over m.scan) m moment answer

        refused : (fault : Fault) → takes (orders_of a) (snapshot a m) m.scan answer ≡ Err fault → running a m (record { now = moment; input = Answers answer }) ≡ (Err fault, m)
        refused fault took = runs ∙ ap (λ taken. machines.answer_of a taken m) took

        at : (r : Result (Unit {0}) Fault) → Answered a c m answer before after e r → Taken a c m (record { now = moment; input = Answers answer }) before after e r
        at (Ok _) answered =
            let asks = asking a (turned a m answered.0) in
            let same : asks ≡ answered.2.done = some-same asks answered.2.done answered.2.is in
            record {
              effects = answered.2.done.effects;
              machine = answered.2.done.machine;
              is = runs ∙ ap (λ taken. machines.answer_of a taken m) answered.1 ∙ ap (λ (d : Done K S P). (Ok d.effects, d.machine)) same;
              told = answered.2.told;
              agrees = answered.2.agrees;
            }
        at (Err OutOfMemory) answered = let took = (ok-of (takes (orders_of a) (snapshot a m) m.scan answer) answered).1 in (rw took refl, refl)
        at (Err Exhausted) answered = ap (λ r. r.0) (refused Exhausted answered.0)
        at (Err fault) answered = (refused fault answered.0, answered.1, answered.2)
