-- What the laws of runs say of a run from the opening machine.
use Rattle.std.proofs.Common.{refl, Bool, List, Result}
use Rattle.resolver_base.specs.declared.fault.Fault.{Fault}
use Rattle.resolver_fetch_scan.specs.declared.config.Config.{Config}
use Rattle.resolver_model_peer.specs.Parties.{Parties}
use Rattle.resolver_model_peer.specs.Peer.{opening}
use Rattle.resolver_model_peer.specs.PeerLaws.{StaysAwake}
use Rattle.resolver_model_peer.specs.PeerRun.{Fed}
use Rattle.resolver_model_peer.specs.declared.effects.Effect.{Effect as Told}
use Rattle.resolver_peer_step.specs.Said.{Codec}
use Rattle.resolver_core.specs.EngineLaws.{RunsWell}
use Rattle.resolver_core.specs.Matching.{Engine}
use Rattle.examples_laws.specs.Feeding.{FedWell}

module _ {K S P : Type 0} (a : Parties K S P) (c : Codec K) (awake : StaysAwake a) where
  pub fed-well : (configuration : Config P) (priority_responses : Bool) (inputs : List (Fed K S P)) (answers : List (Result (List (Told K P S)) Fault)) (core : Engine K S P)
      → RunsWell a c (opening configuration priority_responses) inputs answers core → FedWell a c configuration priority_responses inputs answers core
  fed-well configuration priority_responses inputs answers core runs = record {
    machine = runs.machine;
    said = runs.said;
    matches = runs.matches;
    written = runs.written;
    demand = runs.demand configuration priority_responses refl;
    account_once = runs.account configuration priority_responses refl;
    senders = runs.senders configuration priority_responses refl;
    eligible = (runs.eligible configuration priority_responses refl).0;
    ids = runs.ids;
    awake = runs.awake (awake.at_first configuration priority_responses);
    once = runs.once configuration priority_responses refl;
  }
