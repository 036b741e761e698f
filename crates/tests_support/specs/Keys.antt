-- How the tests read their key.
use Rattle.std.specs.Prelude.{◌≡◌, ℕ, Bool, true, false, nat_eq, List, Option, None, Some, if◌then◌else◌}
use Rattle.std.proofs.Common.{refl, sym}
use Rattle.std.proofs.lemmas.Slice.Eq.{bytes_eq-Decides}
use Rattle.std.specs.Cmp.Lexicographic.{pointwise}

-- the only key there is, with these bytes
abbrev pub only_key : {K : Type 0} → K → List ℕ → List ℕ → Option K
only_key key own bytes = if pointwise nat_eq bytes own then Some key else None

abbrev one : {K : Type 0} → K → Option K
one key = Some key

chosen : {K : Type 0} {P : Type 0} (test : Bool) (a b : K) → (test ≡ true → P) → (if test then one a else None) ≡ one b → P
chosen true a b held e = held refl
chosen false a b held e = absurd cc

pub only_key_own : {K : Type 0} (one : K) (own bytes : List ℕ) (key : K) → only_key one own bytes ≡ Some key → own ≡ bytes
only_key_own one own bytes key e = chosen (pointwise nat_eq bytes own) one key (λ t. sym ((bytes_eq-Decides bytes own).0 t)) e
