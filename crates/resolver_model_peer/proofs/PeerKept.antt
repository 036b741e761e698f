-- In each run of the peer machine that did not fail, the rows have the demand of the run.
use Rattle.std.proofs.Common.{sym, subst, List, [], ◌∷◌, Result, Ok, Err}
use Rattle.std.specs.Cmp.{IsEquivalence, IsTotalOrder}
use Rattle.resolver_types.specs.Names.{same_key, same_subscriber}
use Rattle.resolver_types.specs.Demand.{all_pairs_of, IsSameDemand}
use Rattle.resolver_base.specs.declared.fault.Fault.{Fault}
use Rattle.resolver_model.specs.Account.{pairs, nothing_asked, account_of}
use Rattle.resolver_model_peer.specs.Parties.{Parties, names_of}
use Rattle.resolver_model_peer.specs.Peer.{Effect}
use Rattle.resolver_model_peer.specs.PeerRun.{Fed}
use Rattle.resolver_model_peer.specs.PeerSteps.{Runs}
use Rattle.resolver_model_peer.specs.PeerLaws.{taken, AllLawful, DemandIsKept}
use Rattle.resolver_model.specs.Lawful.{Each, IsLawful}
use Rattle.resolver_model_peer.proofs.PeerDemand.{table_is_kept}
use Rattle.resolver_model.proofs.Bridge.{demand_is_told}

module _ {K S P : Type 0} (a : Parties K S P) (keys : IsEquivalence (same_key (names_of a))) (order : IsTotalOrder a.subscriber) (subscribers : IsEquivalence (same_subscriber (names_of a))) where
  pub taken-lawful : (inputs : List (Fed K S P)) (answers : List (Result (List (Effect K S P)) Fault)) → AllLawful a inputs
      → Each (λ one. IsLawful (names_of a) one.0) (taken inputs answers)
  taken-lawful [] answers lawful = tt
  taken-lawful (fed ∷ inputs) [] lawful = tt
  taken-lawful (fed ∷ inputs) (Ok effects ∷ answers) lawful = (lawful.0, taken-lawful inputs answers lawful.1)
  taken-lawful (fed ∷ inputs) (Err fault ∷ answers) lawful = taken-lawful inputs answers lawful.1

  pub demand_is_kept : DemandIsKept a
  demand_is_kept old inputs answers new lawful runs configuration priority_responses opens sound =
      subst (λ t. IsSameDemand (names_of a) (all_pairs_of t) (account_of (pairs (names_of a)) (nothing_asked (pairs (names_of a))) (taken inputs answers)).demand)
      (sym (table_is_kept a keys configuration priority_responses inputs answers new (subst (λ m. Runs a m inputs answers new) opens runs) sound))
      (demand_is_told (names_of a) keys order subscribers (taken inputs answers) (taken-lawful inputs answers lawful))
