-- What a core asks can be answered.
use Rattle.std.specs.Prelude.{⊤}
use Rattle.resolver_fetch.specs.Progress.{IsAnswerable}
use Rattle.resolver_model_peer.specs.declared.effects.Effect.{Effect}
use Rattle.resolver_model_peer.specs.declared.effects.Effect.TheVariants.{Ask}

-- a number is asked for below a bound that there is one below
abbrev pub CanBeAnswered : {K P S : Type 0} → Effect K P S → Type 0
CanBeAnswered (Ask ask) = IsAnswerable ask
CanBeAnswered effect = ⊤
