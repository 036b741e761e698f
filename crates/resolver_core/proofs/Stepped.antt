-- What a step is to the machines that the engine's core matches.
use Rattle.std.proofs.Common.{◌≡◌, ◌≢◌, refl, ap, sym, ◌∙◌, subst, ℕ, Bool, true, false, List, [], ◌++◌, map, Result, Ok, Err, if◌then◌else◌}
use Rattle.resolver_base.specs.declared.fault.Fault.{Fault}
use Rattle.resolver_base.specs.declared.fault.Fault.TheVariants as faults
use Rattle.resolver_model_peer.specs.Parties.{Parties}
use Rattle.resolver_model.specs.declared.status.Status.{Status}
use Rattle.resolver_model.specs.declared.status.Status.TheVariants.{Running, Ended, Failed}
use Rattle.resolver_model_peer.specs.Peer.{Machine}
use Rattle.resolver_model_peer.specs.Peer as machines
use Rattle.resolver_model_peer.specs.PeerRun.{Fed}
use Rattle.resolver_model_peer.specs.PeerSteps.{step_on}
use Rattle.resolver_model_peer.specs.declared.effects.Effect.{Effect as Told}
use Rattle.resolver_model_peer.specs.declared.inputs.Event.{Event as CodeEvent}
use Rattle.resolver_model_peer.specs.declared.inputs.Event.TheVariants as events
use Rattle.resolver_model_peer.specs.declared.inputs.Input.{Input as CodeInput}
use Rattle.resolver_model_peer.specs.declared.inputs.Input.TheVariants as inputs
use Rattle.resolver_peer_step.specs.declared.parts.Parts.{Parts}
use Rattle.resolver_core.specs.Ending.{is_end, is_end_event}
use Rattle.resolver_peer_step.specs.Going.{IsTied}
use Rattle.resolver_peer_step.specs.EngineSteps.{Stepped, Taken, Takes, running, written_of}
use Rattle.resolver_core.specs.Matching.{Engine, IsOf, IsTiedUnlessFailed, Matches, UnlessFailed, held_by, is_final}
use Rattle.resolver_peer_step.specs.Said.{Codec, event_of, fed_of, written}
use Rattle.resolver_peer_step.specs.Tied.{Agrees}
use Rattle.resolver_core.proofs.Lasting.{behind, behind_input, status-behind}

module _ {K S P : Type 0} (a : Parties K S P) where
  pub is-of : (e : Parts K P S) (m : Machine K S P) → Agrees a e m → IsOf a (held_by e) m
  is-of e m is = record {
    sound = is.sound;
    demand = is.demand;
    entries = is.entries;
    deliveries = is.deliveries;
    next_delivery = is.next_delivery;
    fetcher = is.fetcher;
    serves = is.serves;
    next_serve = is.next_serve;
    last_index = is.last_index;
    priority = is.priority;
  }

  pub agrees-of : (e : Parts K P S) (m : Machine K S P) → IsOf a (held_by e) m → Agrees a e m
  agrees-of e m is = record {
    sound = is.sound;
    demand = is.demand;
    entries = is.entries;
    deliveries = is.deliveries;
    next_delivery = is.next_delivery;
    fetcher = is.fetcher;
    serves = is.serves;
    next_serve = is.next_serve;
    last_index = is.last_index;
    priority = is.priority;
  }

  -- the core, by its parts and its status
  abbrev pub core : Parts K P S → Status → Engine K S P
  core e status = record { held = held_by e; status = status }

  matches : (e : Parts K P S) (status : Status) (m : Machine K S P) → status ≡ m.status → Agrees a e m → Matches a (core e status) m
  matches e status m same is = record { status = same; held = at status }
    where
      at : (status : Status) → UnlessFailed status (IsOf a (held_by e) m)
      at Running = is-of e m is
      at Ended = is-of e m is
      at Failed = tt

  -- the status is the core's own
  agrees-as : (e : Parts K P S) (m : Machine K S P) (status : Status) → Agrees a e m → Agrees a e (record m { status = status })
  agrees-as e m status is = record {
    sound = record { ordered = is.sound.ordered; ids = is.sound.ids; own = is.sound.own; below = is.sound.below; new_id = is.sound.new_id };
    demand = is.demand;
    entries = is.entries;
    deliveries = is.deliveries;
    next_delivery = is.next_delivery;
    fetcher = is.fetcher;
    serves = is.serves;
    next_serve = is.next_serve;
    last_index = is.last_index;
    priority = is.priority;
  }

  -- a core that hasn't failed matches some machine
  pub some-machine : (e : Parts K P S) (status : Status) → UnlessFailed status (IsTied a e) → UnlessFailed status ((m : Machine K S P) × Matches a (core e status) m)
  some-machine e Running tied = (record tied.0 { status = Running }, matches e Running (record tied.0 { status = Running }) refl (agrees-as e tied.0 Running tied.1))
  some-machine e Ended tied = (record tied.0 { status = Ended }, matches e Ended (record tied.0 { status = Ended }) refl (agrees-as e tied.0 Ended tied.1))
  some-machine e Failed tied = tt

  module _ (c : Codec K) where
    -- what a step of the core is, to a machine that it matched
    abbrev pub Becomes : Machine K S P → Fed K S P → Result (List (Told K P S)) Fault → Engine K S P → Type 0
    Becomes m fed answer e = (n : Machine K S P) × Takes a c m fed answer n × Matches a e n

    step-running : (m : Machine K S P) (fed : Fed K S P) → m.status ≡ Running → step_on a m fed ≡ running a m fed
    step-running m fed runs = ap (λ status. machines.step_in a status m fed.now fed.input) runs

    -- a refusal that isn't final leaves all as it was
    pub refused-same : (m : Machine K S P) (fed : Fed K S P) (before after : List (Told K P S)) (e : Parts K P S) (fault : Fault) → is_final fault ≡ false → Taken a c m fed before after e (Err fault)
        → (running a m fed ≡ (Err fault, m)) × Agrees a e m
    refused-same m fed before after e faults.OutOfMemory final taken = absurd cc
    refused-same m fed before after e faults.Exhausted final taken = absurd cc
    refused-same m fed before after e fault final taken = (taken.0, taken.2)

    pub refused-becomes : (m : Machine K S P) (fed : Fed K S P) (before after : List (Told K P S)) (e : Parts K P S) → m.status ≡ Running → (fault : Fault) → is_final fault ≡ false
        → Taken a c m fed before after e (Err fault) → Becomes m fed (Err fault) (core e Running)
    refused-becomes m fed before after e runs faults.OutOfMemory final taken = absurd cc
    refused-becomes m fed before after e runs faults.Exhausted final taken = absurd cc
    refused-becomes m fed before after e runs fault final taken =
        (m, ap (λ r. (written_of a c r.0, r.1)) (step-running m fed runs ∙ taken.0), matches e Running m (sym runs) taken.2)

    abbrev failed : Machine K S P → Machine K S P
    failed m = record m { status = Failed }

    -- want of memory or of numbers fails the engine
    pub final-becomes : (m : Machine K S P) (fed : Fed K S P) (before after : List (Told K P S)) (e : Parts K P S) → m.status ≡ Running → (fault : Fault) → is_final fault ≡ true
        → Taken a c m fed before after e (Err fault) → Becomes m fed (Err fault) (core e Failed)
    final-becomes m fed before after e runs faults.OutOfMemory final taken = (failed m, ((runs, taken.0, taken.1), refl), record { status = refl; held = tt })
    final-becomes m fed before after e runs faults.Exhausted final taken =
        (failed m, (ap (written_of a c) (ap (λ r. r.0) (step-running m fed runs) ∙ taken), refl), record { status = refl; held = tt })
    final-becomes m fed before after e runs fault final taken = absurd cc

    module _ {Q : Type 0} (keeps : Q → K → S → Bool) where
      ends-behind : (moment : ℕ) (input : CodeInput K P S Q) → behind_input Running (fed_of c keeps moment input).input ≡ (if is_end input then Ended else Running)
      ends-behind moment (inputs.Happens happening) = at happening.event
        where
          at : (event : CodeEvent K P S Q) → behind Running (event_of c keeps event) ≡ (if is_end_event event then Ended else Running)
          at (events.Fetch items) = refl
          at (events.Retain keep) = refl
          at (events.PeerSet index peers) = refl
          at (events.Blocked peers) = refl
          at events.ActiveDue = refl
          at events.PendingDue = refl
          at (events.Verdict number outcome) = refl
          at (events.Served serve value) = refl
          at (events.Net peer bytes) = refl
          at events.End = refl
      ends-behind moment (inputs.Answers answer) = refl

      -- an input that is taken
      pub taken-becomes : (m : Machine K S P) (moment : ℕ) (input : CodeInput K P S Q) (before after : List (Told K P S)) (e : Parts K P S) → m.status ≡ Running → before ≡ []
          → Stepped a c m (fed_of c keeps moment input) before after e → (ends : Bool) → ends ≡ is_end input → Becomes m (fed_of c keeps moment input) (Ok after) (core e (if ends then Ended else Running))
      taken-becomes m moment input before after e runs none stepped ends ended =
          let fed = fed_of c keeps moment input in
          let told : after ≡ map (written c) stepped.effects = stepped.told ∙ ap (λ before. before ++ map (written c) stepped.effects) none in
          let status : (if ends then Ended else Running) ≡ stepped.machine.status =
          ap (λ ends. if ends then Ended else Running) ended ∙ sym (ends-behind moment input) ∙ ap (λ status. behind_input status fed.input) (sym runs) ∙ sym (status-behind a m stepped.machine fed stepped.effects stepped.is) in (
            stepped.machine,
            ap (λ r. (written_of a c r.0, r.1)) (step-running m fed runs ∙ stepped.is) ∙ ap (λ told. (Ok told, stepped.machine)) (sym told),
            matches e (if ends then Ended else Running) stepped.machine status stepped.agrees,
          )

  -- a core that runs has parts that agree
  pub was-running : (e : Parts K P S) (code : Status) (now : Engine K S P) (m : Machine K S P) → core e code ≡ now → code ≡ Running → Matches a now m
      → Agrees a e m × (m.status ≡ Running)
  was-running e code now m view is matched =
      let runs = subst (λ code. Matches a (core e code) m) is (subst (λ now. Matches a now m) (sym view) matched) in
      (agrees-of e m runs.held, sym runs.status)

  pub was-tied : (e : Parts K P S) (code : Status) → code ≡ Running → IsTiedUnlessFailed a code e → IsTied a e
  was-tied e code is tied = subst (λ code. IsTiedUnlessFailed a code e) is tied

  -- the same of a core that has ended
  pub was-ended : (e : Parts K P S) (code : Status) (now : Engine K S P) (m : Machine K S P) → core e code ≡ now → code ≡ Ended → Matches a now m → Agrees a e m
  was-ended e code now m view is matched =
      let ends = subst (λ code. Matches a (core e code) m) is (subst (λ now. Matches a now m) (sym view) matched) in
      agrees-of e m ends.held

  pub still-tied : (e : Parts K P S) (code : Status) → code ≡ Running → IsTied a e → IsTiedUnlessFailed a code e
  still-tied e code is tied = subst (λ code. IsTiedUnlessFailed a code e) (sym is) tied

  -- a core that hasn't failed has parts that agree
  pub was-well : (e : Parts K P S) (code : Status) (now : Engine K S P) (m : Machine K S P) → core e code ≡ now → Matches a now m → m.status ≢ Failed → Agrees a e m
  was-well e code now m view matched well = at code (subst (λ now. Matches a now m) (sym view) matched)
    where
      at : (code : Status) → Matches a (core e code) m → Agrees a e m
      at Running is = agrees-of e m is.held
      at Ended is = agrees-of e m is.held
      at Failed is = absurd (well (sym is.status))
