-- How many demanded keys are in each phase.
use Rattle.std.specs.Prelude.{◌≡◌, ◌+◌, length}
use Rattle.resolver_model_peer.specs.Parties.{Parties}
use Rattle.resolver_model_peer.specs.Peer.{Machine}
use Rattle.resolver_peer_step.specs.Tied.{fetcher_of}
use Rattle.resolver_core.specs.declared.p2p.counts.Phases.{Phases}

-- Those that wait, those that are asked for and those that are judged are all rows.
pub record IsPhased {K S P : Type 0} (a : Parties K S P) (m : Machine K S P) (p : Phases) : Type 0 where
  pub waiting : p.waiting ≡ length (fetcher_of a m).waiting
  pub asked : p.asked ≡ length (fetcher_of a m).asked
  pub all : p.waiting + p.asked + p.judged ≡ length m.rows
