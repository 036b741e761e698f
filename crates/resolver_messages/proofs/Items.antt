-- A fetch, part by part.
use Rattle.std.proofs.Common.{◌≡◌, ℕ, List}
use Rattle.resolver_messages.specs.Waiting.{Item}

pub same-item : {K S M : Type 0} (k l : K) (ss ts : List (S × ℕ)) (m n : M) → k ≡ l → ss ≡ ts → m ≡ n
    → ◌≡◌ {A = Item K S M} (record { key = k; subscribers = ss; metadata = m }) (record { key = l; subscribers = ts; metadata = n })
same-item k l ss ts m n key subscribers metadata = λ i. record { key = key i; subscribers = subscribers i; metadata = metadata i }
