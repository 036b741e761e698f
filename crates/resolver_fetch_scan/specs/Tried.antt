-- Whom the tries of a scan name.
use Rattle.std.specs.Prelude.{Bool, List, [], ◌∷◌, ◌++◌, map, filter, if◌then◌else◌}
use Rattle.std.specs.Ordering.{is_eq}
use Rattle.std.specs.declared.cmp.Ordering.{Ordering}
use Rattle.resolver_fetch_scan.specs.declared.trail.Try.{Try}

-- the peers that were tried for a key, in the order of the tries
abbrev pub peers_tried : {K P : Type 0} → (K → K → Ordering) → List (Try K P) → K → List P
peers_tried by_key trail key = map (λ t. t.peer) (filter (λ t. is_eq (by_key key t.key)) trail)

-- peers, and one more if it was tried for their key
abbrev pub noted : {P : Type 0} → (is_theirs : Bool) → P → List P → List P
noted is_theirs peer ps = if is_theirs then ps ++ peer ∷ [] else ps
