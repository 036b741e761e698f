use Rattle.std.proofs.Common.{◌≡◌, ◌++◌, ℕ, List, false}
use Rattle.std.specs.List.{list_any}
use Rattle.std.specs.Vec.Iter.{into_iter_items}
use Rattle.resolver_model.specs.Steps.{stops}
use Rattle.resolver_model_peer.specs.Parties.{parties}
use Rattle.resolver_model_peer.specs.Peer.{Machine}
use Rattle.resolver_model_peer.specs.declared.inputs.Input.{Input}
use Rattle.resolver_peer_step.specs.Said.{codec}
use Rattle.resolver_core.specs.Matching.{Matches}
use Rattle.resolver_core.specs.Taking.{Took}
use Rattle.examples_laws.proofs.peers.step_each.Given as goal

-- The inputs that aren't left were taken, with the answers so far, of which none ended it.
abbrev pub invariant-loop-input : goal.invariant-loop-input
invariant-loop-input g l =
    let a = parties g.K.Ord.cmp g.S.Ord.cmp g.P.Ord.cmp in
    let words = codec g.K.Span.SIZE g.K.Span.bytes_of g.K.Span.read_from in
    record {
      taken : List (Input g.row.K.Denot g.row.P.Denot g.row.S.Denot g.row.Q.Denot);
      split : taken ++ into_iter_items l.input-iterator ≡ l.fn.inputs.items;
      took : (m : Machine g.row.K.Denot g.row.S.Denot g.row.P.Denot) (moment : ℕ) → Matches a l.fn.core m → Took a words g.Q.Predicate.keeps m moment taken l.answers.items l.core;
      goes : list_any stops l.answers.items ≡ false;
    }
