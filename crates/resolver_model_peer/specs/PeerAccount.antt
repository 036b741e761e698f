-- What a response earned the peer that sent it.
use Rattle.std.specs.Prelude.{ℕ, Bool, false, ◌==◌, List, filter}
use Rattle.resolver_model_peer.specs.Peer.{Effect, Ask, Deliver, Cancel, Produce, Reply, Credit, Block}

module _ {K S P : Type 0} where
  abbrev pub accounts_for : (response : ℕ) → Effect K S P → Bool
  accounts_for response (Credit r source) = r == response
  accounts_for response (Block r peer) = r == response
  accounts_for response (Ask question) = false
  accounts_for response (Deliver number handed value) = false
  accounts_for response (Cancel number) = false
  accounts_for response (Produce serve key) = false
  accounts_for response (Reply peer message priority) = false

  -- the credits and the blocks that name the response
  abbrev pub account : (response : ℕ) → List (Effect K S P) → List (Effect K S P)
  account response effects = filter (accounts_for response) effects
