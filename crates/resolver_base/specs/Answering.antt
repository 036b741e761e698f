-- Closures that answer by a test.
use denote.Param.Members.{Shared}
use Rattle.std.specs.Borrow.{Bor}
use Rattle.std.specs.Fn.{FnReturnsAt}
use Rattle.std.specs.Prelude.{◌≡◌, Bool}

-- whatever the closure answers at an item, the test does
pub record AnswersBy {F I : Type 0} (g : Shared F (Bor I × Unit {0}) Bool) (f : F) (test : I → Bool) : Type 0 where
  pub by : (item : I) (b : Bool) → FnReturnsAt g f item b → b ≡ test item
