-- Names as bytes.
use Rattle.std.specs.Prelude.{◌≡◌, ℕ, List, Bool, true, false, eqb, length, Option, None, Some}
use Rattle.std.proofs.Common.{refl}
use Rattle.std.proofs.lemmas.Bool.{eqb-true, eqb-false}
use Rattle.std.proofs.Math.Nat.{ℕ_set}
use Rattle.resolver_names.specs.declared.name.Name.{Name}

module _ {N : ℕ} where
  abbrev named_if : (bytes : List ℕ) (is : Bool) → eqb (length bytes) N ≡ is → Option (Name N)
  named_if bytes true e = Some (record { bytes = bytes; sized = eqb-true (length bytes) N e })
  named_if bytes false e = None

  -- the name that has these bytes, if they are N
  abbrev pub read_from : List ℕ → Option (Name N)
  read_from bytes = named_if bytes (eqb (length bytes) N) refl

  is_named : (bytes : List ℕ) (sized : length bytes ≡ N) (is : Bool) (e : eqb (length bytes) N ≡ is) → named_if bytes is e ≡ Some (record { bytes = bytes; sized = sized })
  is_named bytes sized true e = λ i. Some (record { bytes = bytes; sized = ℕ_set (length bytes) N (eqb-true (length bytes) N e) sized i })
  is_named bytes sized false e = absurd (eqb-false (length bytes) N e sized)

  -- N bytes are read as the name that has them
  pub read_is : (bytes : List ℕ) (sized : length bytes ≡ N) → read_from bytes ≡ Some (record { bytes = bytes; sized = sized })
  read_is bytes sized = is_named bytes sized (eqb (length bytes) N) refl

  has_bytes : (bytes : List ℕ) (name : Name N) (is : Bool) (e : eqb (length bytes) N ≡ is) → named_if bytes is e ≡ Some name → name.bytes ≡ bytes
  has_bytes bytes name true e same = cc
  has_bytes bytes name false e same = absurd cc

  -- a name has the bytes that it was read from
  pub own_bytes : (bytes : List ℕ) (name : Name N) → read_from bytes ≡ Some name → name.bytes ≡ bytes
  own_bytes bytes name = has_bytes bytes name (eqb (length bytes) N) refl
