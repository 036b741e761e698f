-- Steps of a core in bytes.
use Rattle.std.proofs.Common.{◌≡◌, ℕ, List, Some, Result, subst, sym}
use Rattle.resolver_base.specs.declared.fault.Fault.{Fault}
use Rattle.resolver_model_peer.specs.Peer.{Machine}
use Rattle.resolver_model_peer.specs.PeerRun.{Fed}
use Rattle.resolver_peer_step.specs.EngineSteps.{Takes}
use Rattle.resolver_core.specs.Matching.{Engine, Matches}
use Rattle.resolver_flat.specs.Naming.{Shape}
use Rattle.resolver_flat_machine.specs.Inputs.{as_bytes, by_names, input_from}
use Rattle.resolver_flat_machine.specs.Steps.{Does, Flat, Told}

-- what the core within takes, the core in bytes takes
pub took : {K : Type 0} (n : Shape K) (bytes : List ℕ) (within old : Flat K) (new : Engine K ℕ K) (fed : ℕ → Fed K ℕ K) (answer : Result (Told K) Fault) → within ≡ old
    → ((moment : ℕ) → input_from n moment bytes ≡ Some (fed moment))
    → ((m : Machine K ℕ K) (moment : ℕ) → Matches (by_names n) within.core m → (after : Machine K ℕ K) × Takes (by_names n) (as_bytes n) m (fed moment) answer after × Matches (by_names n) new after)
    → Does n bytes old.core answer new
took {K} n bytes within old new fed answer is spelled takes m moment matched =
    let stepped = takes m moment (subst (λ (flat : Flat K). Matches (by_names n) flat.core m) (sym is) matched) in
    record { input = fed moment; after = stepped.0; spelled = spelled moment; takes = stepped.1; matches = stepped.2 }
