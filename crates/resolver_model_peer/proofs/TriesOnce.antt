-- No scan tries a peer twice for a key.
use Rattle.resolver_model_peer.specs.Parties.{Parties}
use Rattle.resolver_model_peer.specs.PeerLaws.{TriesOnce}
use Rattle.resolver_model_peer.proofs.AsksEligible.{run-sound}

module _ {K S P : Type 0} (a : Parties K S P) where
  -- in no scan of a run a peer is tried twice for a key
  pub tries_once : TriesOnce a
  tries_once configuration replies_first inputs = (run-sound a configuration replies_first inputs).0
