-- A tracker and entries, which hold the same keys, as the rows of one machine.
use Rattle.std.specs.Prelude.{◌≡◌, ℕ, List, [], ◌∷◌, Option, None, Some, map}
use Rattle.std.specs.List.{IsDistinct}
use Rattle.std.specs.Map.{keys_of}
use Rattle.std.specs.Ordering.{is_eq}
use Rattle.std.specs.declared.cmp.Ordering.{Ordering}
use Rattle.resolver_delivery.specs.declared.entry.Open.{Open}
use Rattle.resolver_delivery.specs.declared.entry.Response.{Response}
use Rattle.resolver_delivery.specs.Entries.{Numbered}
use Rattle.resolver_model_opaque.specs.declared.phase.Stage.{Stage}
use Rattle.resolver_model.specs.Account.{Handed}
use Rattle.resolver_model.specs.declared.status.Status.{Status}
use Rattle.resolver_model_opaque.specs.Opaque.{Machine, Row}
use Rattle.resolver_model_opaque.specs.OpaqueStages.{Kept}
use Rattle.resolver_model_opaque.specs.OpaqueByPhase.{phase_of}

module _ {V : Type 0} where
  abbrev pub has_cached : Option ℕ → Option (Response V (Unit {0})) → Type 0
  has_cached None response = Unit {0}
  has_cached (Some number) None = ⊥
  has_cached (Some number) (Some r) = Unit {0}

  -- A key with a delivery in progress has its response.
  abbrev pub AreCached : {K : Type 0} → List (K × Kept V) → Type 0
  AreCached [] = Unit {0}
  AreCached (e ∷ es) = has_cached e.1.number e.1.response × AreCached es

-- two maps of the same keys as one
abbrev pub joined : {K X Y : Type 0} → List (K × X) → List (K × Y) → List (K × (X × Y))
joined [] fs = []
joined (e ∷ es) [] = []
joined (e ∷ es) (f ∷ fs) = (e.0, (e.1, f.1)) ∷ joined es fs

abbrev pub row_of : {V S : Type 0} → List (S × ℕ) × Kept V → Row V S
row_of e = record { subscribers = e.0; phase = phase_of e.1 }

-- who wants each key, and what is done for it
abbrev pub rows_of : {K V S : Type 0} → List (K × List (S × ℕ)) → List (K × Kept V) → List (K × Row V S)
rows_of demand keys = map (λ e. (e.0, row_of e.1)) (joined demand keys)

abbrev pub handed_of : {K S : Type 0} → Open K S (Unit {0}) → Handed K S
handed_of o = record { response = o.response; key = o.delivery.key; subscribers = o.delivery.subscribers }

module _ {K V S : Type 0} where
  abbrev pub machine_with : List (K × List (S × ℕ)) → Numbered K S V (Unit {0}) Stage → (attempts delay : ℕ) → Status → Machine K V S
  machine_with demand entries attempts delay status = record {
    rows = rows_of demand entries.keys;
    deliveries = map (λ e. (e.0, handed_of e.1)) entries.going;
    next_attempt = attempts;
    next_number = entries.next;
    delay = delay;
    status = status;
  }

  -- Tracker and entries have the same keys, each once.
  pub record Agree (cmp : K → K → Ordering) (demand : List (K × List (S × ℕ))) (keys : List (K × Kept V)) : Type 0 where
    pub same : keys_of demand ≡ keys_of keys
    pub distinct : IsDistinct (λ k l. is_eq (cmp k l)) (keys_of demand)
    pub cached : AreCached keys
