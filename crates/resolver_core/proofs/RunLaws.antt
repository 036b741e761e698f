-- What the engine tells is what its machine says, with the bytes of its messages; and what holds of the machine's runs.
use Rattle.std.proofs.Common.{◌≡◌, refl, ap, sym, ◌∙◌, subst, ℕ, ◌<◌, Bool, true, false, length, List, [], ◌∷◌, map, Option, Result, Ok, Err}
use Rattle.std.specs.Prelude.{MatchBool}
use Rattle.resolver_base.specs.declared.fault.Fault.{Fault}
use Rattle.resolver_base.specs.declared.fault.Fault.TheVariants as faults
use Rattle.resolver_messages.specs.declared.message.FetchKey.{FetchKey}
use Rattle.resolver_model.specs.Lawful.{AnswersAlike, Each, IsLawful}
use Rattle.resolver_model.specs.Steps.{stops}
use Rattle.resolver_model_peer.specs.Parties.{Parties, names_of}
use Rattle.resolver_model_peer.specs.Peer.{Machine, Effect, Happens}
use Rattle.resolver_model_peer.specs.PeerLaws.{AllLawful}
use Rattle.resolver_model_peer.specs.PeerRun.{Fed, change_of}
use Rattle.resolver_model_peer.specs.PeerSteps as machines
use Rattle.resolver_model_peer.specs.PeerSteps.{MayWant, step_on}
use Rattle.resolver_model_peer.specs.declared.effects.Effect.{Effect as Told}
use Rattle.resolver_model_peer.specs.declared.inputs.Event.{Event as CodeEvent}
use Rattle.resolver_model_peer.specs.declared.inputs.Event.TheVariants as events
use Rattle.resolver_model_peer.specs.declared.inputs.Input.{Input as CodeInput}
use Rattle.resolver_model_peer.specs.declared.inputs.Input.TheVariants as inputs
use Rattle.resolver_core.specs.EngineLaws.{AreSaid}
use Rattle.resolver_peer_step.specs.EngineSteps.{Runs, Takes, all_fed, step_written, written_of}
use Rattle.resolver_peer_step.specs.Said.{Codec, event_of, item_of}

abbrev Answer : Type 0 → Type 0
Answer E = Result (List E) Fault

module _ {K S P : Type 0} (a : Parties K S P) (c : Codec K) where
  -- an answer that was written is a machine's
  pub record IsSaid (old : Machine K S P) (fed : Fed K S P) (answer : Answer (Told K P S)) (new : Machine K S P) : Type 0 where
    pub said : Answer (Effect K S P)
    pub written : answer ≡ written_of a c said
    pub takes : machines.Takes a old fed said new
    pub ends : stops answer ≡ stops said

  of-step : (old : Machine K S P) (fed : Fed K S P) (new : Machine K S P) (answer : Answer (Told K P S)) → step_written a c old fed ≡ (answer, new) → ((s : Answer (Effect K S P)) → (step_on a old fed).0 ≡ s → IsSaid old fed (written_of a c s) new) → IsSaid old fed answer new
  of-step old fed new answer is goes = subst (λ answer. IsSaid old fed answer new) (ap (λ r. r.0) is) (goes (step_on a old fed).0 refl)

  pub stops-written : (s : Answer (Effect K S P)) → stops (written_of a c s) ≡ stops s
  stops-written (Ok effects) = refl
  stops-written (Err faults.OutOfMemory) = refl
  stops-written (Err faults.Exhausted) = refl
  stops-written (Err faults.Failed) = refl
  stops-written (Err faults.Ended) = refl
  stops-written (Err faults.Busy) = refl
  stops-written (Err faults.Unasked) = refl
  stops-written (Err faults.OutOfRange) = refl
  stops-written (Err faults.EndOfBuffer) = refl
  stops-written (Err faults.InvalidTag) = refl
  stops-written (Err faults.InvalidVarint) = refl
  stops-written (Err faults.ExtraData) = refl
  stops-written (Err faults.Key) = refl
  stops-written (Err faults.Uneven) = refl

  module _ (old : Machine K S P) (fed : Fed K S P) (new : Machine K S P) where
    -- a machine's answer that ends no run
    plain : (s : Answer (Effect K S P)) → stops s ≡ false → machines.Takes a old fed s new → IsSaid old fed (written_of a c s) new
    plain (Ok effects) goes takes = record { said = Ok effects; written = refl; takes = takes; ends = refl }
    plain (Err faults.OutOfMemory) goes takes = absurd cc
    plain (Err faults.Exhausted) goes takes = absurd cc
    plain (Err faults.Failed) goes takes = record { said = Err faults.Failed; written = refl; takes = takes; ends = refl }
    plain (Err faults.Ended) goes takes = record { said = Err faults.Ended; written = refl; takes = takes; ends = refl }
    plain (Err faults.Busy) goes takes = record { said = Err faults.Busy; written = refl; takes = takes; ends = refl }
    plain (Err faults.Unasked) goes takes = record { said = Err faults.Unasked; written = refl; takes = takes; ends = refl }
    plain (Err faults.OutOfRange) goes takes = record { said = Err faults.OutOfRange; written = refl; takes = takes; ends = refl }
    plain (Err faults.EndOfBuffer) goes takes = record { said = Err faults.EndOfBuffer; written = refl; takes = takes; ends = refl }
    plain (Err faults.InvalidTag) goes takes = record { said = Err faults.InvalidTag; written = refl; takes = takes; ends = refl }
    plain (Err faults.InvalidVarint) goes takes = record { said = Err faults.InvalidVarint; written = refl; takes = takes; ends = refl }
    plain (Err faults.ExtraData) goes takes = record { said = Err faults.ExtraData; written = refl; takes = takes; ends = refl }
    plain (Err faults.Key) goes takes = record { said = Err faults.Key; written = refl; takes = takes; ends = refl }
    plain (Err faults.Uneven) goes takes = record { said = Err faults.Uneven; written = refl; takes = takes; ends = refl }

    takes-plain : (s : Answer (Effect K S P)) → stops s ≡ false → step_on a old fed ≡ (s, new) → machines.Takes a old fed s new
    takes-plain (Ok effects) goes is = is
    takes-plain (Err faults.OutOfMemory) goes is = absurd cc
    takes-plain (Err faults.Exhausted) goes is = absurd cc
    takes-plain (Err faults.Failed) goes is = is
    takes-plain (Err faults.Ended) goes is = is
    takes-plain (Err faults.Busy) goes is = is
    takes-plain (Err faults.Unasked) goes is = is
    takes-plain (Err faults.OutOfRange) goes is = is
    takes-plain (Err faults.EndOfBuffer) goes is = is
    takes-plain (Err faults.InvalidTag) goes is = is
    takes-plain (Err faults.InvalidVarint) goes is = is
    takes-plain (Err faults.ExtraData) goes is = is
    takes-plain (Err faults.Key) goes is = is
    takes-plain (Err faults.Uneven) goes is = is

    -- an answer that ends no run
    going-said : (answer : Answer (Told K P S)) → stops answer ≡ false → step_written a c old fed ≡ (answer, new) → IsSaid old fed answer new
    going-said answer goes is =
        let said = (step_on a old fed).0 in
        let written : answer ≡ written_of a c said = sym (ap (λ r. r.0) is) in
        let quiet : stops said ≡ false = sym (stops-written said) ∙ ap stops (sym written) ∙ goes in
        let here : step_on a old fed ≡ (said, new) = ap (λ n. (said, n)) (ap (λ r. r.1) is) in
        subst (λ answer. IsSaid old fed answer new) (sym written) (plain said quiet (takes-plain said quiet here))

    exhausted : (s : Answer (Effect K S P)) → written_of a c s ≡ Err faults.Exhausted → s ≡ Err faults.Exhausted
    exhausted (Ok effects) is = cc
    exhausted (Err fault) is = let same : fault ≡ faults.Exhausted = cc in ap fails same
      where
        fails : Fault → Answer (Effect K S P)
        fails fault = Err fault

    pub takes-said : (answer : Answer (Told K P S)) → Takes a c old fed answer new → IsSaid old fed answer new
    takes-said (Ok effects) takes = going-said (Ok effects) refl takes
    takes-said (Err faults.OutOfMemory) takes = record { said = Err faults.OutOfMemory; written = refl; takes = takes; ends = refl }
    takes-said (Err faults.Exhausted) takes = record { said = Err faults.Exhausted; written = refl; takes = (exhausted (step_on a old fed).0 takes.0, takes.1); ends = refl }
    takes-said (Err faults.Failed) takes = going-said (Err faults.Failed) refl takes
    takes-said (Err faults.Ended) takes = going-said (Err faults.Ended) refl takes
    takes-said (Err faults.Busy) takes = going-said (Err faults.Busy) refl takes
    takes-said (Err faults.Unasked) takes = going-said (Err faults.Unasked) refl takes
    takes-said (Err faults.OutOfRange) takes = going-said (Err faults.OutOfRange) refl takes
    takes-said (Err faults.EndOfBuffer) takes = going-said (Err faults.EndOfBuffer) refl takes
    takes-said (Err faults.InvalidTag) takes = going-said (Err faults.InvalidTag) refl takes
    takes-said (Err faults.InvalidVarint) takes = going-said (Err faults.InvalidVarint) refl takes
    takes-said (Err faults.ExtraData) takes = going-said (Err faults.ExtraData) refl takes
    takes-said (Err faults.Key) takes = going-said (Err faults.Key) refl takes
    takes-said (Err faults.Uneven) takes = going-said (Err faults.Uneven) refl takes

  -- answers that were written are a machine's
  pub runs-said : (feds : List (Fed K S P)) (old : Machine K S P) (answers : List (Answer (Told K P S))) (new : Machine K S P) → Runs a c old feds answers new → AreSaid a c old feds answers new
  runs-said [] old [] new runs = record { said = []; written = refl; runs = runs }
  runs-said [] old (answer ∷ answers) new runs = absurd runs
  runs-said (fed ∷ feds) old [] new runs = absurd runs
  runs-said (fed ∷ feds) old (answer ∷ answers) new runs = at (stops answer) refl runs.2 (λ rest. runs-said feds runs.0 answers new rest)
    where
      s : IsSaid old fed answer runs.0
      s = takes-said old fed runs.0 answer runs.1

      none : List (Answer (Effect K S P))
      none = []

      at : (b : Bool) → stops answer ≡ b → MatchBool b ((answers ≡ []) × (new ≡ runs.0)) (Runs a c runs.0 feds answers new) → (Runs a c runs.0 feds answers new → AreSaid a c runs.0 feds answers new)
          → AreSaid a c old (fed ∷ feds) (answer ∷ answers) new
      at true ends last next = record {
        said = s.said ∷ none;
        written = ap (λ answer. answer ∷ answers) s.written ∙ ap (λ answers. written_of a c s.said ∷ answers) last.0;
        runs = (runs.0, s.takes, subst (λ b. MatchBool b ((none ≡ []) × (new ≡ runs.0)) (machines.Runs a runs.0 feds none new)) (sym ends ∙ s.ends) (refl, last.1));
      }
      at false goes rest next =
          let more = next rest in
          record {
            said = s.said ∷ more.said;
            written = ap (λ answer. answer ∷ answers) s.written ∙ ap (λ answers. written_of a c s.said ∷ answers) more.written;
            runs = (runs.0, s.takes, subst (λ b. MatchBool b ((more.said ≡ []) × (new ≡ runs.0)) (machines.Runs a runs.0 feds more.said new)) (sym goes ∙ s.ends) more.runs);
          }

-- each item has a subscriber by its type
items-lawful : {K S P : Type 0} (items : List (FetchKey K S (Option (List P)))) → Each (λ (item : K × List (S × ℕ)). 0 < length item.1) (map (λ item. (item.key, item.subscribers)) (map item_of items))
items-lawful [] = tt
items-lawful (item ∷ items) = (item.wanted, items-lawful items)

module _ {K P S Q : Type 0} (a : Parties K S P) (c : Codec K) (keeps : Q → K → S → Bool) (alike : (q : Q) → AnswersAlike (names_of a) (keeps q)) where
  event-lawful : (now : ℕ) (event : CodeEvent K P S Q) → IsLawful (names_of a) (change_of (Happens (event_of c keeps event)))
  event-lawful now (events.Fetch items) = items-lawful items.items
  event-lawful now (events.Retain keep) = alike keep
  event-lawful now (events.PeerSet index peers) = tt
  event-lawful now (events.Blocked peers) = tt
  event-lawful now events.ActiveDue = tt
  event-lawful now events.PendingDue = tt
  event-lawful now (events.Verdict number outcome) = tt
  event-lawful now (events.Served serve value) = tt
  event-lawful now (events.Net peer bytes) = tt
  event-lawful now events.End = tt

  -- what the code takes is lawful by its types
  pub all-lawful : (moment : ℕ) (inputs : List (CodeInput K P S Q)) → AllLawful a (all_fed c keeps moment inputs)
  all-lawful moment [] = tt
  all-lawful moment (inputs.Happens happening ∷ rest) = (event-lawful happening.now happening.event, all-lawful happening.now rest)
  all-lawful moment (inputs.Answers answer ∷ rest) = (tt, all-lawful moment rest)
