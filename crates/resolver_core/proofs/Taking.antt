-- What a core took is a run of each machine that it matched, by however many calls.
use Rattle.std.proofs.Common.{◌≡◌, refl, ap, sym, ◌∙◌, subst, ℕ, ◌≤◌, ◌||◌, arith, Bool, true, false, List, [], ◌∷◌, ◌++◌, length, map, Result, Ok, Err}
use Rattle.std.specs.Prelude.{MatchBool, ◌≢◌}
use Rattle.std.specs.List.{list_any}
use Rattle.std.specs.Cmp.{IsTotalOrder}
use Rattle.std.proofs.lemmas.Cmp.{eq_by_cmp_equiv}
use Rattle.std.proofs.lemmas.List.{map-append}
use Rattle.std.specs.declared.vec.Vec.{Vec}
use Rattle.std.specs.declared.alloc.Global.{Global}
use Rattle.resolver_base.specs.declared.fault.Fault.{Fault}
use Rattle.resolver_base.specs.declared.fault.Fault.TheVariants as faults
use Rattle.resolver_fetch_scan.specs.FetcherLaws.{AllAre}
use Rattle.resolver_model.specs.Lawful.{AnswersAlike}
use Rattle.resolver_model.specs.Steps.{stops}
use Rattle.resolver_model.proofs.Runs.{goes-on as none-stops, runs-join}
use Rattle.resolver_model_peer.specs.Parties.{Parties, names_of}
use Rattle.resolver_model.specs.declared.status.Status.{Status}
use Rattle.resolver_model.specs.declared.status.Status.TheVariants.{Running, Ended, Failed}
use Rattle.resolver_model_peer.specs.Peer.{Machine, Effect, Event, Fetch, Retain, PeerSet, Blocked, ActiveDue, PendingDue, Verdict, Served, Net, End, Input, Happens, Answers, step, step_in}
use Rattle.resolver_model_peer.specs.PeerLaws.{AcceptsSend, EndsOrRetries, HasNewId}
use Rattle.resolver_model_peer.specs.PeerRun.{Fed, after}
use Rattle.resolver_model_peer.specs.PeerSteps as machines
use Rattle.resolver_model_peer.specs.PeerSteps.{MayWant, step_on}
use Rattle.resolver_model_peer.specs.declared.effects.Effect.{Effect as Told}
use Rattle.resolver_model_peer.specs.declared.inputs.Input.{Input as CodeInput}
use Rattle.resolver_model_peer.proofs.AskedOnce.{asked_once}
use Rattle.resolver_model_peer.proofs.AsksWell.{asks_well}
use Rattle.resolver_model_peer.proofs.PaysOnce.{is_paid_once}
use Rattle.resolver_model_peer.proofs.PaysSenders.{is_paid_to_senders}
use Rattle.resolver_model_peer.proofs.PeerKept.{demand_is_kept}
use Rattle.resolver_model_peer.proofs.PeerRunLaws.{goes-on, keeps-awake}
use Rattle.resolver_peer_step.specs.EngineSteps.{Takes, all_fed, later, running, written_of}
use Rattle.resolver_peer_step.specs.Said.{Codec, answer_of, fed_of}
use Rattle.resolver_core.specs.EngineLaws.{AsksOnce, HaveNewIds, RunsWell}
use Rattle.resolver_core.specs.Matching.{Engine, IsOf, Matches, UnlessFailed}
use Rattle.resolver_core.specs.Taking.{CoresTake, Took, latest}
use Rattle.resolver_core.proofs.Asked.{step-new}
use Rattle.resolver_core.proofs.Lasting.{behind, behind_input, status-behind}
use Rattle.resolver_core.proofs.RunLaws.{IsSaid, all-lawful, stops-written, takes-said}

abbrev Said : (K S P : Type 0) → Type 0
Said K S P = List (Result (List (Effect K S P)) Fault)

abbrev Answer : (K P S : Type 0) → Type 0
Answer K P S = Result (Vec (Told K P S) Global) Fault

stops-answer_of : {K P S : Type 0} (r : Answer K P S) → stops (answer_of r) ≡ stops r
stops-answer_of (Ok effects) = refl
stops-answer_of (Err faults.OutOfMemory) = refl
stops-answer_of (Err faults.Exhausted) = refl
stops-answer_of (Err fault) = refl

stop-alike : {K P S : Type 0} (answers : List (Answer K P S)) → list_any stops (map answer_of answers) ≡ list_any stops answers
stop-alike [] = refl
stop-alike (r ∷ answers) = ap (λ b. b || list_any stops (map answer_of answers)) (stops-answer_of r) ∙ ap (λ b. stops r || b) (stop-alike answers)

abbrev refused : {E : Type 0} → Fault → Result (List E) Fault
refused fault = Err fault

refused-never : {E : Type 0} (fault : Fault) (effects : List E) → refused fault ≢ Ok effects
refused-never fault effects is = cc

module _ {K S P : Type 0} (a : Parties K S P) where
  behind-well : (input : Input K S P) → behind_input Running input ≢ Failed
  behind-well (Answers answer) is = cc
  behind-well (Happens event) is = at event is
    where
      at : (event : Event K S P) → behind Running event ≢ Failed
      at (Fetch items) is = cc
      at (Retain keep) is = cc
      at (PeerSet index peers) is = cc
      at (Blocked peers) is = cc
      at ActiveDue is = cc
      at PendingDue is = cc
      at (Verdict number outcome) is = cc
      at (Served serve bytes) is = cc
      at (Net peer message) is = cc
      at End is = cc

  -- a machine that answered hasn't failed
  well-after : (m n : Machine K S P) (fed : Fed K S P) (effects : List (Effect K S P)) → step_on a m fed ≡ (Ok effects, n) → n.status ≢ Failed
  well-after m n fed effects is = at m.status refl
    where
      at : (status : Status) → m.status ≡ status → n.status ≢ Failed
      at Running runs failed =
          let here : running a m fed ≡ (Ok effects, n) = ap (λ status. step_in a status m fed.now fed.input) (sym runs) ∙ is in
          let became : n.status ≡ behind_input Running fed.input = status-behind a m n fed effects here ∙ ap (λ status. behind_input status fed.input) runs in
          behind-well fed.input (sym became ∙ failed)
      at Ended ends failed =
          let none : step_in a Ended m fed.now fed.input ≡ (Ok effects, n) = ap (λ status. step_in a status m fed.now fed.input) (sym ends) ∙ is in
          refused-never faults.Ended effects (ap (λ r. r.0) none)
      at Failed fails failed =
          let none : step_in a Failed m fed.now fed.input ≡ (Ok effects, n) = ap (λ status. step_in a status m fed.now fed.input) (sym fails) ∙ is in
          refused-never faults.Failed effects (ap (λ r. r.0) none)

  -- a core that matches a machine that hasn't failed
  of-well : (e : Engine K S P) (n : Machine K S P) → Matches a e n → n.status ≢ Failed → IsOf a e.held n
  of-well e n matches well = at e.status matches.status matches.held
    where
      at : (status : Status) → status ≡ n.status → UnlessFailed status (IsOf a e.held n) → IsOf a e.held n
      at Running same is = is
      at Ended same is = is
      at Failed same is = absurd (well (sym same))

  -- the ids of one answer
  one-new : (m n : Machine K S P) (fed : Fed K S P) (e : Engine K S P) → Matches a e n → (answer : Result (List (Effect K S P)) Fault) → machines.Takes a m fed answer n → HaveNewIds a m (fed ∷ []) (answer ∷ [])
  one-new m n fed e matches (Err fault) takes = (tt, tt)
  one-new m n fed e matches (Ok effects) takes =
      let is = of-well e n matches (well-after m n fed effects takes) in
      (subst (λ next. AllAre (HasNewId a next) effects) (sym (ap (λ r. r.1) takes)) (step-new a m fed effects n takes is.sound.new_id), tt)

  -- there are no more answers than inputs
  runs-fit : (inputs : List (Fed K S P)) (m n : Machine K S P) (said : Said K S P) → machines.Runs a m inputs said n → length said ≤ length inputs
  runs-fit [] m n [] runs = omega arith
  runs-fit [] m n (answer ∷ said) runs = absurd runs
  runs-fit (fed ∷ inputs) m n [] runs = absurd runs
  runs-fit (fed ∷ inputs) m n (answer ∷ said) runs = at (stops answer) runs.2 (λ rest. runs-fit inputs runs.0 n said rest)
    where
      at : (b : Bool) → MatchBool b ((said ≡ []) × (n ≡ runs.0)) (machines.Runs a runs.0 inputs said n) → (machines.Runs a runs.0 inputs said n → length said ≤ length inputs) → length (answer ∷ said) ≤ length (fed ∷ inputs)
      at true last next = let none : length said ≡ 0 = ap length last.0 in omega (arith, none)
      at false rest next = let fits = next rest in omega (arith, fits)

  -- ids that were new still are, whatever inputs are left
  more-new : (inputs more : List (Fed K S P)) (m : Machine K S P) (said : Said K S P) → length said ≤ length inputs → HaveNewIds a m inputs said → HaveNewIds a m (inputs ++ more) said
  more-new [] [] m [] fits new = tt
  more-new [] (fed ∷ more) m [] fits new = tt
  more-new [] more m (answer ∷ said) fits new = absurd (omega (arith, fits))
  more-new (fed ∷ inputs) more m [] fits new = tt
  more-new (fed ∷ inputs) more m (answer ∷ said) fits new = (new.0, more-new inputs more (step_on a m fed).1 said (omega (arith, fits)) new.1)

  -- new ids, and new ids behind them
  both-new : (inputs more : List (Fed K S P)) (m mid : Machine K S P) (said others : Said K S P) → machines.Runs a m inputs said mid → list_any stops said ≡ false
      → HaveNewIds a m inputs said → HaveNewIds a mid more others → HaveNewIds a m (inputs ++ more) (said ++ others)
  both-new [] more m mid [] others runs goes new later = subst (λ n. HaveNewIds a n more others) runs later
  both-new [] more m mid (answer ∷ said) others runs goes new later = absurd runs
  both-new (fed ∷ inputs) more m mid [] others runs goes new later = absurd runs
  both-new (fed ∷ inputs) more m mid (answer ∷ said) others runs goes new later =
      let on = none-stops (stops answer) (list_any stops said) goes in
      let next : (step_on a m fed).1 ≡ runs.0 = ap (λ r. r.1) (goes-on a (MayWant a) (λ m. m.status ≡ Failed) m fed answer runs.0 runs.1 on.0) in
      let rest : machines.Runs a runs.0 inputs said mid = rw on.0 at runs.2 in
      (new.0, both-new inputs more (step_on a m fed).1 mid said others (subst (λ n. machines.Runs a n inputs said mid) (sym next) rest) on.1 new.1 later)

  -- a key is asked for once in a run from the opening machine
  asks-once : IsTotalOrder a.key → (old : Machine K S P) (inputs : List (Fed K S P)) (said : Said K S P) → AsksOnce a old inputs said
  asks-once keys old inputs said configuration priority_responses opens before first between second rest key split long =
      subst (λ old. let m = after a old before in let sent = (step a m first.now first.input).1 in
      AcceptsSend a m first.input key → AcceptsSend a (after a sent between) second.input key → EndsOrRetries a sent between key) (sym opens)
      (asked_once a keys configuration priority_responses before first between second.input key)

  module _ (c : Codec K) where
    stops-said : (said : Said K S P) → list_any stops (map (written_of a c) said) ≡ list_any stops said
    stops-said [] = refl
    stops-said (answer ∷ said) = ap (λ b. b || list_any stops (map (written_of a c) said)) (stops-written a c answer) ∙ ap (λ b. stops answer || b) (stops-said said)

    -- the answers end a run where the machine's do
    said-alike : (answers : List (Answer K P S)) (said : Said K S P) → map answer_of answers ≡ map (written_of a c) said → list_any stops said ≡ list_any stops answers
    said-alike answers said written = sym (stops-said said) ∙ ap (list_any stops) (sym written) ∙ stop-alike answers

    module _ {Q : Type 0} (keeps : Q → K → S → Bool) where
      fed-append : (inputs more : List (CodeInput K P S Q)) (moment : ℕ) → all_fed c keeps moment (inputs ++ more) ≡ all_fed c keeps moment inputs ++ all_fed c keeps (latest c keeps moment inputs) more
      fed-append [] more moment = refl
      fed-append (input ∷ inputs) more moment = ap (λ feds. fed_of c keeps moment input ∷ feds) (fed-append inputs more (later c keeps moment input))

      pub none : (m : Machine K S P) (moment : ℕ) (e : Engine K S P) → Matches a e m → Took a c keeps m moment [] [] e
      none m moment e matches = record { machine = m; said = []; written = refl; runs = refl; matches = matches; ids = tt }

      pub one : (m : Machine K S P) (moment : ℕ) (input : CodeInput K P S Q) (answer : Answer K P S) (e : Engine K S P)
          → ((n : Machine K S P) × Takes a c m (fed_of c keeps moment input) (answer_of answer) n × Matches a e n) → Took a c keeps m moment (input ∷ []) (answer ∷ []) e
      one m moment input answer e becomes =
          let fed = fed_of c keeps moment input in
          let s : IsSaid a c m fed (answer_of answer) becomes.0 = takes-said a c m fed becomes.0 (answer_of answer) becomes.1 in
          record {
            machine = becomes.0;
            said = s.said ∷ [];
            written = ap (λ answer. answer ∷ []) s.written;
            runs = (runs-join (step_on a) (MayWant a) (λ m. m.status ≡ Failed)).one m becomes.0 fed s.said s.takes;
            matches = becomes.2;
            ids = one-new m becomes.0 fed e becomes.2 s.said s.takes;
          }

      pub both : (m : Machine K S P) (moment : ℕ) (inputs more : List (CodeInput K P S Q)) (answers others : List (Answer K P S)) (e f : Engine K S P)
          → (took : Took a c keeps m moment inputs answers e) → list_any stops answers ≡ false → Took a c keeps took.machine (latest c keeps moment inputs) more others f
          → Took a c keeps m moment (inputs ++ more) (answers ++ others) f
      both m moment inputs more answers others e f took goes rest =
          let feds = all_fed c keeps moment inputs in
          let fore = all_fed c keeps (latest c keeps moment inputs) more in
          let calm : list_any stops took.said ≡ false = said-alike answers took.said took.written ∙ goes in
          record {
            machine = rest.machine;
            said = took.said ++ rest.said;
            written = map-append answer_of answers others ∙ ap (λ told. told ++ map answer_of others) took.written ∙ ap (λ told. map (written_of a c) took.said ++ told) rest.written ∙ sym (map-append (written_of a c) took.said rest.said);
            runs =
                subst (λ feds. machines.Runs a m feds (took.said ++ rest.said) rest.machine) (sym (fed-append inputs more moment))
                ((runs-join (step_on a) (MayWant a) (λ m. m.status ≡ Failed)).both m took.machine rest.machine feds fore took.said rest.said took.runs calm rest.runs);
            matches = rest.matches;
            ids =
                subst (λ feds. HaveNewIds a m feds (took.said ++ rest.said)) (sym (fed-append inputs more moment))
                (both-new feds fore m took.machine took.said rest.said took.runs calm took.ids rest.ids);
          }

      pub ends : (m : Machine K S P) (moment : ℕ) (inputs more : List (CodeInput K P S Q)) (answers : List (Answer K P S)) (e : Engine K S P)
          → Took a c keeps m moment inputs answers e → list_any stops answers ≡ true → Took a c keeps m moment (inputs ++ more) answers e
      ends m moment inputs more answers e took over =
          let feds = all_fed c keeps moment inputs in
          let fore = all_fed c keeps (latest c keeps moment inputs) more in
          record {
            machine = took.machine;
            said = took.said;
            written = took.written;
            runs =
                subst (λ feds. machines.Runs a m feds took.said took.machine) (sym (fed-append inputs more moment))
                ((runs-join (step_on a) (MayWant a) (λ m. m.status ≡ Failed)).ends m took.machine feds fore took.said took.runs (said-alike answers took.said took.written ∙ over));
            matches = took.matches;
            ids =
                subst (λ feds. HaveNewIds a m feds took.said) (sym (fed-append inputs more moment))
                (more-new feds fore m took.said (runs-fit feds m took.machine took.said took.runs) took.ids);
          }

      module _ (alike : (q : Q) → AnswersAlike (names_of a) (keeps q)) (keys : IsTotalOrder a.key) (subscribers : IsTotalOrder a.subscriber) where
        -- what holds of what a core took
        pub took-well : (m : Machine K S P) (moment : ℕ) (inputs : List (CodeInput K P S Q)) (answers : List (Answer K P S)) (e : Engine K S P)
            → Took a c keeps m moment inputs answers e → RunsWell a c m (all_fed c keeps moment inputs) (map answer_of answers) e
        took-well m moment inputs answers e took =
            let feds = all_fed c keeps moment inputs in
            record {
              machine = took.machine;
              said = took.said;
              written = took.written;
              runs = took.runs;
              matches = took.matches;
              demand = demand_is_kept a (eq_by_cmp_equiv keys) subscribers (eq_by_cmp_equiv subscribers) m feds took.said took.machine (all-lawful a c keeps alike moment inputs) took.runs;
              account = is_paid_once a m feds took.said took.machine took.runs;
              senders = is_paid_to_senders a m feds took.said took.machine took.runs;
              eligible = asks_well a m feds took.said took.machine took.runs;
              ids = took.ids;
              awake = keeps-awake a (MayWant a) (λ m. m.status ≡ Failed) keys m feds took.said took.machine took.runs;
              once = asks-once keys m feds took.said;
            }

        pub cores_take : CoresTake a c keeps
        cores_take = record { none = none; one = one; both = both; ends = ends; well = took-well }
