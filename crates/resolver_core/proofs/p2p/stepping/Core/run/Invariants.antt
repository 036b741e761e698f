use Rattle.std.proofs.Common.{◌+◌, ◌≤◌, length, ℕ, vec_len}
use Rattle.std.specs.Vec.{vec_capacity}
use Rattle.std.specs.Vec.Iter.{into_iter_items}
use Rattle.resolver_model_peer.specs.Parties.{parties}
use Rattle.resolver_model_peer.specs.Peer.{Machine}
use Rattle.resolver_core.specs.Matching.{Matches}
use Rattle.resolver_peer_step.specs.Said.{codec}
use Rattle.resolver_core.proofs.Running.{TookOn}
use Rattle.resolver_core.proofs.p2p.stepping.Core.run.Given as goal

-- The inputs that aren't left were taken, with the answers so far. There is room for the answers.
abbrev pub invariant-loop-input : goal.invariant-loop-input
invariant-loop-input g l =
    let a = parties g.K.Ord.cmp g.S.Ord.cmp g.P.Ord.cmp in
    let words = codec g.K.Span.SIZE g.K.Span.bytes_of g.K.Span.read_from in
    record {
      took : (m : Machine g.row.K.Denot g.row.S.Denot g.row.P.Denot) (moment : ℕ) → Matches a l.fn.self m
          → TookOn a words g.Q.Predicate.keeps m moment l.fn.inputs.items (into_iter_items l.input-iterator) l.answers.items l.self;
      room : vec_len l.answers + length (into_iter_items l.input-iterator) ≤ vec_capacity l.answers;
    }
