-- A step of a core whose inputs and effects are bytes.
use Rattle.std.specs.Prelude.{◌≡◌, ◌≢◌, ℕ, List, [], length, map, Option, Some, None, Result, Ok, Err}
use Rattle.resolver_base.specs.declared.fault.Fault.{Fault}
use Rattle.resolver_metrics.specs.declared.metrics.Metrics.{Metrics}
use Rattle.resolver_fetch_scan.specs.declared.config.Config.{Config}
use Rattle.resolver_model.specs.declared.status.Status.TheVariants.{Failed}
use Rattle.resolver_model_peer.specs.declared.effects.Effect.{Effect}
use Rattle.resolver_model_peer.specs.Peer.{Machine, active_deadline, opening, wake_up}
use Rattle.resolver_model_peer.specs.PeerRun.{Fed}
use Rattle.resolver_peer_step.specs.EngineSteps.{Takes}
use Rattle.resolver_peer_step.specs.Tied.{fetcher_of}
use Rattle.resolver_core.specs.Listed.{listed}
use Rattle.resolver_core.specs.Matching.{Engine, Matches}
use Rattle.resolver_flat.specs.declared.reading.Misread.{Misread}
use Rattle.resolver_flat.specs.declared.refusal.Refusal.{Refusal}
use Rattle.resolver_flat.specs.declared.refusal.Refusal.TheVariants as refusals
use Rattle.resolver_flat.specs.Naming.{Shape}
use Rattle.resolver_flat.specs.Reading.{Refuses, whole}
use Rattle.resolver_flat_machine.specs.Effects.{all_rows}
use Rattle.resolver_flat_machine.specs.Inputs.{as_bytes, by_names, input_from}
use Rattle.resolver_flat_machine.specs.Settings.{IsSet, Settings, settings_at}

abbrev pub Told : Type 0 → Type 0
Told K = List (Effect K K ℕ)

-- a core, and the effects of its last step
pub record Flat (K : Type 0) : Type 0 where
  pub core : Engine K ℕ K
  pub told : Told K

-- `n` is how names look
module _ {K : Type 0} (n : Shape K) where
  -- the bytes are an input, the machine takes it with this answer, and the core is the machine after that
  pub record Took (bytes : List ℕ) (m : Machine K ℕ K) (moment : ℕ) (answer : Result (Told K) Fault) (new : Engine K ℕ K) : Type 0 where
    pub input : Fed K ℕ K
    pub after : Machine K ℕ K
    pub spelled : input_from n moment bytes ≡ Some input
    pub takes : Takes (by_names n) (as_bytes n) m input answer after
    pub matches : Matches (by_names n) new after

  -- of every machine that the core is
  abbrev pub Does : List ℕ → (old : Engine K ℕ K) → Result (Told K) Fault → (new : Engine K ℕ K) → Type 0
  Does bytes old answer new = (m : Machine K ℕ K) (moment : ℕ) → Matches (by_names n) old m → Took bytes m moment answer new

  -- What a step answers. What is no input, and what there is no memory to read, changes the core nothing; after a refusal there are no effects.
  abbrev pub Stepped : List ℕ → (old : Flat K) → Result (Unit {0}) Refusal → (new : Flat K) → Type 0
  Stepped bytes old (Ok _) new = Does bytes old.core (Ok new.told) new.core
  Stepped bytes old (Err (refusals.Fault fault)) new = Does bytes old.core (Err fault) new.core × (new.told ≡ [])
  Stepped bytes old (Err refusals.Misspelled) new = ((moment : ℕ) → input_from n moment bytes ≡ None) × (new.core ≡ old.core) × (new.told ≡ [])
  Stepped bytes old (Err refusals.Unread) new = (new.core ≡ old.core) × (new.told ≡ [])

  -- the core is a machine that begins with these settings
  pub record Begins (settings : Settings K) (new : Flat K) : Type 0 where
    pub configuration : Config K
    pub set : IsSet settings configuration
    pub opens : Matches (by_names n) new.core (opening configuration settings.priority_responses)
    pub silent : new.told ≡ []

  -- what opening answers: a core with the settings that the bytes are, or that they are none
  abbrev pub Opened : List ℕ → Result (Flat K) Misread → Type 0
  Opened bytes (Ok new) = (settings : Settings K) × (whole (settings_at n bytes) ≡ Some settings) × Begins settings new
  Opened bytes (Err misread) = Refuses misread (whole (settings_at n bytes))

  -- these bytes are the rows of every machine that the core is
  abbrev pub Lists : Flat K → List ℕ → Type 0
  Lists flat bytes = (m : Machine K ℕ K) → Matches (by_names n) flat.core m → bytes ≡ all_rows n.bytes_of (map listed m.rows)

  -- this is when a scan may do something, unless the core has failed
  abbrev pub Waits : Flat K → Option ℕ → Type 0
  Waits flat moment = (m : Machine K ℕ K) → Matches (by_names n) flat.core m → m.status ≢ Failed → moment ≡ wake_up (by_names n) m

  -- this is when the time of a request is over next, unless the core has failed
  abbrev pub Expires : Flat K → Option ℕ → Type 0
  Expires flat moment = (m : Machine K ℕ K) → Matches (by_names n) flat.core m → m.status ≢ Failed → moment ≡ active_deadline (by_names n) m

  -- how much a core has now, as it counts it
  pub record CountsOf (metrics : Metrics) (m : Machine K ℕ K) : Type 0 where
    pub pending : metrics.fetch_pending ≡ length (fetcher_of (by_names n) m).waiting
    pub active : metrics.fetch_active ≡ length (fetcher_of (by_names n) m).asked
    pub serves : metrics.serve_processing ≡ length m.serves

  -- this is how much it has, unless it has failed
  abbrev pub Counts : Flat K → Metrics → Type 0
  Counts flat metrics = (m : Machine K ℕ K) → Matches (by_names n) flat.core m → m.status ≢ Failed → CountsOf metrics m
