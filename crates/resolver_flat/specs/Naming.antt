-- Names as bytes.
use Rattle.std.specs.Prelude.{ℕ, List, Option}
use Rattle.std.specs.Cmp.Lexicographic.{slice_cmp}
use Rattle.std.specs.Ordering.{nat_cmp}
use Rattle.std.specs.declared.cmp.Ordering.{Ordering}
use Rattle.resolver_types.specs.Names.{Names, names}
use Rattle.resolver_names.specs.declared.name.Name.{Name}
use Rattle.resolver_names.specs.Naming.{read_from}

-- How names look: how many bytes they have, and which; which name bytes are; and how names are ordered.
pub record Shape (K : Type 0) : Type 0 where
  pub size : ℕ
  pub bytes_of : K → List ℕ
  pub read_from : List ℕ → Option K
  pub order : K → K → Ordering

-- as a clause writes it: `shape K.SIZE K.bytes_of K.read_from K.cmp`
abbrev pub shape : {K : Type 0} → ℕ → (K → List ℕ) → (List ℕ → Option K) → (K → K → Ordering) → Shape K
shape size bytes_of read_from order = record { size = size; bytes_of = bytes_of; read_from = read_from; order = order }

-- keys that are names, and subscribers that are numbers
abbrev pub by_name : {K : Type 0} → Shape K → Names K ℕ
by_name n = names n.order nat_cmp

-- names of N bytes, which are ordered as their bytes are
abbrev pub of_bytes : {N : ℕ} → Shape (Name N)
of_bytes {N} = shape N (λ name. name.bytes) read_from (λ name other. slice_cmp nat_cmp name.bytes other.bytes)
