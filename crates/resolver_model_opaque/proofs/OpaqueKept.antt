-- In each run of the opaque machine that did not fail, the rows have the demand of the run.
use Rattle.std.proofs.Common.{sym, subst, ℕ, ◌<◌, Bool, length, List, [], ◌∷◌, map, Result, Ok, Err}
use Rattle.std.specs.Cmp.{IsEquivalence, IsTotalOrder}
use Rattle.resolver_types.specs.Names.{Names, same_key, same_subscriber}
use Rattle.resolver_types.specs.Demand.{all_pairs_of, IsSameDemand}
use Rattle.resolver_base.specs.declared.fault.Fault.{Fault}
use Rattle.resolver_messages.specs.declared.message.FetchKey.{FetchKey}
use Rattle.resolver_model_opaque.specs.declared.effects.Effect.{Effect}
use Rattle.resolver_model_opaque.specs.declared.inputs.Event.{Event as CodeEvent}
use Rattle.resolver_model_opaque.specs.declared.inputs.Event.TheVariants as events
use Rattle.resolver_model_opaque.specs.declared.inputs.Input.{Input as CodeInput}
use Rattle.resolver_model_opaque.specs.OpaqueInputs.{item_of, event_of, input_of}
use Rattle.resolver_model.specs.Account.{pairs, nothing_asked, account_of}
use Rattle.resolver_model_opaque.specs.Opaque.{Machine}
use Rattle.resolver_model_opaque.specs.OpaqueSteps.{Input, Runs}
use Rattle.resolver_model_opaque.specs.OpaqueLaws.{change_of, taken, AllLawful, KeepsDemand}
use Rattle.resolver_model.specs.Lawful.{Each, AnswersAlike, IsLawful}
use Rattle.resolver_model_opaque.proofs.OpaqueDemand.{table_is_kept}
use Rattle.resolver_model.proofs.Bridge.{demand_is_told}

-- each item has a subscriber by its type
items-lawful : {K S : Type 0} (items : List (FetchKey K S (Unit {0}))) → Each (λ (item : K × List (S × ℕ)). 0 < length item.1) (map (λ item. (item.key, item.subscribers)) (map item_of items))
items-lawful [] = tt
items-lawful (item ∷ items) = (item.wanted, items-lawful items)

module _ {K V S : Type 0} (n : Names K S) (keys : IsEquivalence (same_key n)) (order : IsTotalOrder n.subscriber) (subscribers : IsEquivalence (same_subscriber n)) where
  taken-lawful : (inputs : List (Input K V S)) (answers : List (Result (List (Effect K V S)) Fault)) → AllLawful n inputs
      → Each (λ one. IsLawful n one.0) (taken inputs answers)
  taken-lawful [] answers lawful = tt
  taken-lawful (input ∷ inputs) [] lawful = tt
  taken-lawful (input ∷ inputs) (Ok effects ∷ answers) lawful = (lawful.0, taken-lawful inputs answers lawful.1)
  taken-lawful (input ∷ inputs) (Err fault ∷ answers) lawful = taken-lawful inputs answers lawful.1

  pub demand_is_kept : (old : Machine K V S) (inputs : List (Input K V S)) (answers : List (Result (List (Effect K V S)) Fault)) (new : Machine K V S)
      → AllLawful n inputs → Runs n old inputs answers new → KeepsDemand n old inputs answers new
  demand_is_kept old inputs answers new lawful runs delay attempts opens sound =
      subst (λ t. IsSameDemand n (all_pairs_of t) (account_of (pairs n) (nothing_asked (pairs n)) (taken inputs answers)).demand)
      (sym (table_is_kept n keys delay attempts inputs answers new (subst (λ m. Runs n m inputs answers new) opens runs) sound))
      (demand_is_told n keys order subscribers (taken inputs answers) (taken-lawful inputs answers lawful))

  module _ {Q : Type 0} (keeps : Q → K → S → Bool) (alike : (q : Q) → AnswersAlike n (keeps q)) where
    event-lawful : (event : CodeEvent K V S Q) → IsLawful n (change_of (event_of keeps event))
    event-lawful (events.Fetch items) = items-lawful items.items
    event-lawful (events.Retain keep) = alike keep
    event-lawful (events.Fetched attempt value) = tt
    event-lawful (events.Verdict number outcome) = tt
    event-lawful events.RetriesDue = tt
    event-lawful events.End = tt

    -- what the code takes is lawful by its types
    pub inputs-lawful : (inputs : List (CodeInput K V S Q)) → AllLawful n (map (input_of keeps) inputs)
    inputs-lawful [] = tt
    inputs-lawful (input ∷ inputs) = (event-lawful input.event, inputs-lawful inputs)
