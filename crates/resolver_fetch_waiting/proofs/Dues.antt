-- When the next key becomes due.
use Rattle.std.proofs.Common.{◌≡◌, refl, ap, ◌∙◌, ℕ, List, [], ◌∷◌, ◌++◌, Option, None, Some, if◌then◌else◌, arith}
use Rattle.std.proofs.lemmas.Bool.Decides.{nat_tests}
use Rattle.std.proofs.lemmas.Grind.{common_steps}
use Rattle.std.specs.Ordering.{nat_cmp, ordering_then}
use Rattle.std.specs.Prelude.{nat_le}
use Rattle.std.specs.declared.cmp.Ordering.{Ordering}
use Rattle.std.specs.declared.cmp.Ordering.TheVariants.{Less}
use Rattle.resolver_fetch_scan.specs.declared.place.Place.{Place}
use Rattle.resolver_fetch_waiting.specs.Pending.{later_due}
use Rattle.resolver_fetch_scan.specs.Scan.{least}

-- one that stands before another is due no later
pub later-least : (x y : ℕ) (more : Ordering) → ordering_then (nat_cmp x y) more ≡ Less → least (Some x) (Some y) ≡ Some x
later-least x y more behind = ap Some (grind (arith, nat_tests, common_steps, behind))

pub least-apart : (x y z : Option ℕ) → least x (least y z) ≡ least (least x y) z
least-apart None y z = refl
least-apart (Some a) None z = refl
least-apart (Some a) (Some b) None = refl
least-apart (Some a) (Some b) (Some c) = ap Some (grind (arith, nat_tests))

-- the next due of two lists is the lesser
pub later-append : {K : Type 0} (m : ℕ) (ps qs : List (Place × K)) → later_due m (ps ++ qs) ≡ least (later_due m ps) (later_due m qs)
later-append m [] qs = refl
later-append m (p ∷ ps) qs =
    ap (least (if nat_le p.0.due m then None else Some p.0.due)) (later-append m ps qs)
    ∙ least-apart (if nat_le p.0.due m then None else Some p.0.due) (later_due m ps) (later_due m qs)
