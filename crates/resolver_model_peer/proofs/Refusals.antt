-- What a refusal that is handed on says of the outcome.
use Rattle.std.proofs.Common.{◌≡◌, ap, Result, Ok, Err}
use Rattle.std.specs.Prelude.{IfErr, IfOk, IsErrAnd}

module _ {T E : Type 0} where
  -- whatever is said of a value holds where there is none
  pub refused : (r : Result T E) (P : E → Type 0) (Q : T → Type 0) → IsErrAnd r P → IfOk r Q
  refused (Ok x) P Q is = absurd is
  refused (Err e) P Q is = tt

  -- the refusal is one of those that it may be
  pub refused-as : (r : Result T E) (P Q : E → Type 0) → IsErrAnd r P → ((e : E) → P e → Q e) → IfErr r Q
  refused-as (Ok x) P Q is so = absurd is
  refused-as (Err e) P Q is so = so e is

  -- what is done is no refusal
  pub done : (x : T) (e : E) → ◌≡◌ {A = Result T E} (Ok x) (Err e) → ⊥
  done x e same = cc

  -- a refusal that is handed on as it is
  pub refused-with : (r : Result T E) (e : E) → IsErrAnd r (λ other. other ≡ e) → r ≡ Err e
  refused-with (Ok x) e is = absurd is
  refused-with (Err other) e is = ap Err is
