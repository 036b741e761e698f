-- What a step asks is what its machine asks then: under an id that is new where the machine's is, and so that it can be answered.
use Rattle.std.proofs.Common.{◌≡◌, refl, ap, sym, ◌∙◌, subst, ℕ, Bool, true, false, List, [], ◌∷◌, ◌++◌, map, Option, None, Some, Result, Ok, Err}
use Rattle.std.specs.Option.{option_and_then, option_map}
use Rattle.std.specs.Prelude.{option_to_list, ⊤}
use Rattle.resolver_base.specs.declared.fault.Fault.{Fault}
use Rattle.resolver_fetch_scan.specs.declared.scan.Ask.{Ask as Question}
use Rattle.resolver_fetch_scan.specs.declared.scan.Ask.TheVariants as asks
use Rattle.resolver_fetch_scan.specs.Fetcher.{AsksNewId}
use Rattle.resolver_fetch_scan.specs.FetcherLaws.{AllAre}
use Rattle.resolver_fetch_scan.specs.Scan.{Turn, is_over, takes}
use Rattle.resolver_model_peer.specs.Parties.{Parties, orders_of}
use Rattle.resolver_model.specs.declared.status.Status.{Status}
use Rattle.resolver_model.specs.declared.status.Status.TheVariants.{Running, Ended, Failed}
use Rattle.resolver_model_peer.specs.Peer.{Machine, Done, Effect, Ask, Deliver, Cancel, Produce, Reply, Credit, Block, Input, Happens, Answers, and_then, answer_of, does, is_due, question, scanned, scanned_if, snapshot, step_in, step_of, step_running, turned, wake_up}
use Rattle.resolver_model_peer.specs.PeerLaws.{HasNewId}
use Rattle.resolver_model_peer.specs.PeerRun.{Fed}
use Rattle.resolver_model_peer.specs.PeerSteps.{step_on}
use Rattle.resolver_model_peer.proofs.AsksEligible.{IsCalmIfDone, IsNoQuestion, does-calm}
use Rattle.resolver_model_peer.proofs.IdsAreNew.{no-question}
use Rattle.resolver_model_peer.proofs.Told.{all-append}
use Rattle.resolver_model_peer.specs.declared.effects.Effect.{Effect as Told}
use Rattle.resolver_fetch.proofs.Progress.{question-answerable}
use Rattle.resolver_peer_step.specs.EngineSteps.{Stepped, running}
use Rattle.resolver_peer_step.specs.Said.{Codec, written}
use Rattle.resolver_peer_step.specs.Tied.{fetcher_of}
use Rattle.resolver_peer_step.specs.declared.parts.Parts.{Parts}
use Rattle.resolver_core.specs.Asking.{CanBeAnswered}

module _ {K S P : Type 0} (a : Parties K S P)
    -- of some machines, what they ask is so, and what asks nothing is so in any case
    (Asks : Machine K S P → Type 0) (Is : Machine K S P → Effect K S P → Type 0)
    (asks-so : (m : Machine K S P) → Asks m → AllAre (Is m) (option_to_list (option_map Ask (question a m))))
    (quiet-so : (m : Machine K S P) (effects : List (Effect K S P)) → AllAre IsNoQuestion effects → AllAre (Is m) effects) where
  abbrev IsSoIfOk : Result (List (Effect K S P)) Fault × Machine K S P → Type 0
  IsSoIfOk (Ok effects, m) = Asks m → AllAre (Is m) effects
  IsSoIfOk (Err fault, m) = ⊤

  scanned-so : (b : Bool) (m : Machine K S P) (now : ℕ) → Asks (scanned_if a b m now).machine → AllAre (Is (scanned_if a b m now).machine) (scanned_if a b m now).effects
  scanned-so true m now asks = asks-so (scanned_if a true m now).machine asks
  scanned-so false m now asks = tt

  happened-so : (begun m : Machine K S P) (now : ℕ) (o : Option (Done K S P)) → IsCalmIfDone begun o → IsSoIfOk (step_of a (option_and_then (λ d. and_then d (λ n. Some (scanned a n now))) o) m)
  happened-so begun m now None calm = tt
  happened-so begun m now (Some d) calm = λ asks.
      let due : Bool = is_due now (wake_up a d.machine) in
      let n : Machine K S P = (scanned_if a due d.machine now).machine in
      all-append (Is n) d.effects (scanned_if a due d.machine now).effects (quiet-so n d.effects calm.1) (scanned-so due d.machine now asks)

  answered-so : (t : Result (Turn K P) Fault) (m : Machine K S P) → IsSoIfOk (answer_of a t m)
  answered-so (Err fault) m = tt
  answered-so (Ok t) m = asks-so (turned a m t)

  running-so : (over : Bool) (m : Machine K S P) (now : ℕ) (input : Input K S P) → IsSoIfOk (step_running a over m now input)
  running-so true m now (Happens event) =
      let begun : Machine K S P = record m { moment = now } in
      happened-so begun m now (does a begun now event) (does-calm a begun now event)
  running-so false m now (Happens event) = tt
  running-so true m now (Answers answer) = answered-so (takes (orders_of a) (snapshot a m) m.scan answer) m
  running-so false m now (Answers answer) = answered-so (takes (orders_of a) (snapshot a m) m.scan answer) m

  in-so : (status : Status) (m : Machine K S P) (now : ℕ) (input : Input K S P) → IsSoIfOk (step_in a status m now input)
  in-so Failed m now input = tt
  in-so Ended m now input = tt
  in-so Running m now input = running-so (is_over m.scan) m now input

  step-so : (m : Machine K S P) (fed : Fed K S P) (effects : List (Effect K S P)) (n : Machine K S P) → step_on a m fed ≡ (Ok effects, n) → Asks n → AllAre (Is n) effects
  step-so m fed effects n is = subst IsSoIfOk is (in-so m.status m fed.now fed.input)

  runs-so : (m : Machine K S P) (fed : Fed K S P) (effects : List (Effect K S P)) (n : Machine K S P) → running a m fed ≡ (Ok effects, n) → Asks n → AllAre (Is n) effects
  runs-so m fed effects n is = subst IsSoIfOk is (running-so (is_over m.scan) m fed.now fed.input)

module _ {K S P : Type 0} (a : Parties K S P) where
  -- the machine asks under a new id
  abbrev pub AsksNewly : Machine K S P → Type 0
  AsksNewly m = AsksNewId (orders_of a) (fetcher_of a m) (question a m)

  question-new : (m : Machine K S P) (ask : Option (Question K P)) → AsksNewId (orders_of a) (fetcher_of a m) ask → AllAre (HasNewId a m) (option_to_list (option_map Ask ask))
  question-new m None new = tt
  question-new m (Some (asks.Request peer id key priority)) new = (new, tt)
  question-new m (Some ask) new = (tt, tt)

  pub step-new : (m : Machine K S P) (fed : Fed K S P) (effects : List (Effect K S P)) (n : Machine K S P) → step_on a m fed ≡ (Ok effects, n) → AsksNewly n → AllAre (HasNewId a n) effects
  step-new = step-so a AsksNewly (HasNewId a) (λ m. question-new m (question a m)) (no-question a)

module _ {K S P : Type 0} (a : Parties K S P) (c : Codec K) where
  abbrev CanBeSaid : Machine K S P → Effect K S P → Type 0
  CanBeSaid m effect = CanBeAnswered (written c effect)

  question-said : (m : Machine K S P) (ask : Option (Question K P)) → question a m ≡ ask → AllAre (CanBeSaid m) (option_to_list (option_map Ask ask))
  question-said m None is = tt
  question-said m (Some ask) is = (question-answerable (orders_of a) (snapshot a m) m.scan ask is, tt)

  quiet-said : (m : Machine K S P) (effects : List (Effect K S P)) → AllAre IsNoQuestion effects → AllAre (CanBeSaid m) effects
  quiet-said m [] none = tt
  quiet-said m (Ask q ∷ effects) none = absurd none.0
  quiet-said m (Deliver number handed value ∷ effects) none = (tt, quiet-said m effects none.1)
  quiet-said m (Cancel number ∷ effects) none = (tt, quiet-said m effects none.1)
  quiet-said m (Produce serve key ∷ effects) none = (tt, quiet-said m effects none.1)
  quiet-said m (Reply peer message priority ∷ effects) none = (tt, quiet-said m effects none.1)
  quiet-said m (Credit response source ∷ effects) none = (tt, quiet-said m effects none.1)
  quiet-said m (Block response peer ∷ effects) none = (tt, quiet-said m effects none.1)

  all-said : (n : Machine K S P) (effects : List (Effect K S P)) → AllAre (CanBeSaid n) effects → AllAre CanBeAnswered (map (written c) effects)
  all-said n [] said = tt
  all-said n (effect ∷ effects) said = (said.0, all-said n effects said.1)

  -- what an input leads to can be answered
  pub stepped-answerable : (m : Machine K S P) (fed : Fed K S P) (before after : List (Told K P S)) (e : Parts K P S) → before ≡ [] → Stepped a c m fed before after e → AllAre CanBeAnswered after
  stepped-answerable m fed before after e none stepped =
      let said : AllAre (CanBeSaid stepped.machine) stepped.effects =
      runs-so a (λ m. ⊤) CanBeSaid (λ m is. question-said m (question a m) refl) quiet-said m fed stepped.effects stepped.machine stepped.is tt in
      subst (AllAre CanBeAnswered) (sym (stepped.told ∙ ap (λ xs. xs ++ map (written c) stepped.effects) none)) (all-said stepped.machine stepped.effects said)
