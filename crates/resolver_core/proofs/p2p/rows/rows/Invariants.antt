use Rattle.resolver_demand.specs.Rows.{AreListed}
use Rattle.resolver_model_peer.specs.Parties.{parties}
use Rattle.resolver_model_peer.specs.Peer.{Machine}
use Rattle.resolver_peer_step.specs.Tied.{Agrees}
use Rattle.resolver_core.proofs.Shown.{Lists}
use Rattle.resolver_core.proofs.p2p.rows.rows.Given as goal

-- of every machine that the parts are, the rows so far and those that are left
abbrev pub invariant-loop-key : goal.invariant-loop-key
invariant-loop-key g l =
    let a = parties g.K.Ord.cmp g.S.Ord.cmp g.P.Ord.cmp in
    record {
      lists : (m : Machine _ _ _) → Agrees a l.parts m → Lists a m l.list.items l.key-iterator;
      some : AreListed g.S.Ord.cmp l.key-iterator;
    }
