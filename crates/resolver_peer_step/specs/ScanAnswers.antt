-- What the parts make of an answer to what the open scan asked.
use Rattle.std.specs.Prelude.{◌≡◌, false, List, Some, Result, Ok, Err, is_err}
use Rattle.resolver_base.specs.declared.fault.Fault.{Fault}
use Rattle.resolver_base.specs.declared.fault.Fault.TheVariants as faults
use Rattle.resolver_fetch_scan.specs.declared.scan.Answer.{Answer}
use Rattle.resolver_fetch_scan.specs.Scan.{Turn, takes}
use Rattle.resolver_model_peer.specs.declared.effects.Effect.{Effect as Told}
use Rattle.resolver_peer_step.specs.declared.parts.Parts.{Parts}
use Rattle.resolver_peer_step.specs.Going.{Went}
use Rattle.resolver_peer_step.specs.Said.{Codec}
use Rattle.resolver_peer_step.specs.Tied.{Agrees}
use Rattle.resolver_model_peer.specs.Parties.{Parties, orders_of}
use Rattle.resolver_model_peer.specs.Peer.{Machine, asking, snapshot, turned}

module _ {K S P : Type 0} (a : Parties K S P) (c : Codec K) where
  -- What the machine's scan makes of an answer is taken, unless memory is wanting. What it refuses is refused, and changes nothing.
  abbrev pub Turned : Machine K S P → (taken : Result (Turn K P) Fault) → (before after : List (Told K P S)) → Parts K P S → Result (Unit {0}) Fault → Type 0
  Turned m taken before after e (Ok _) = (t : Turn K P) × (taken ≡ Ok t) × Went a c (Some (asking a (turned a m t))) before after e
  Turned m taken before after e (Err faults.OutOfMemory) = is_err taken ≡ false
  Turned m taken before after e (Err fault) = (taken ≡ Err fault) × (after ≡ before) × Agrees a e m

  -- an answer to the open scan
  abbrev pub Answered : Machine K S P → Answer → (before after : List (Told K P S)) → Parts K P S → Result (Unit {0}) Fault → Type 0
  Answered m answer = Turned m (takes (orders_of a) (snapshot a m) m.scan answer)
