-- What a part of a step does to the parts of an engine, and to its effects.
use Rattle.std.specs.Prelude.{◌≡◌, ◌++◌, List, map, Option, None, Some, Result, Ok, Err, ⊤}
use Rattle.resolver_base.specs.declared.fault.Fault.{Fault}
use Rattle.resolver_base.specs.declared.fault.Fault.TheVariants as faults
use Rattle.resolver_model_peer.specs.declared.effects.Effect.{Effect as Told}
use Rattle.resolver_peer_step.specs.declared.parts.Parts.{Parts}
use Rattle.resolver_peer_step.specs.Said.{Codec, written}
use Rattle.resolver_peer_step.specs.Tied.{Agrees}
use Rattle.resolver_model_peer.specs.Parties.{Parties}
use Rattle.resolver_model_peer.specs.Peer.{Done, Machine}

module _ {K S P : Type 0} (a : Parties K S P) (c : Codec K) where
  -- the machine went this way, and told this
  pub record Went (going : Option (Done K S P)) (before after : List (Told K P S)) (e : Parts K P S) : Type 0 where
    pub done : Done K S P
    pub is : going ≡ Some done
    pub told : after ≡ before ++ map (written c) done.effects
    pub agrees : Agrees a e done.machine

  -- The effects grow from before to after, and the parts are the machine's then. Memory may be wanting.
  abbrev pub Goes : Option (Done K S P) → (before after : List (Told K P S)) → Parts K P S → Result (Unit {0}) Fault → Type 0
  Goes going before after e (Ok _) = Went going before after e
  Goes going before after e (Err faults.OutOfMemory) = ⊤
  Goes going before after e (Err faults.Exhausted) = going ≡ None
  Goes going before after e (Err other) = ⊥

-- some machine agrees with these parts, and no scan of it is open
abbrev pub IsTied : {K S P : Type 0} → Parties K S P → Parts K P S → Type 0
IsTied {K} {S} {P} a e = (m : Machine K S P) × Agrees a e m
