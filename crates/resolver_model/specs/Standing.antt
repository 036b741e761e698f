-- What both machines have in common: who is asked for, and which deliveries are in progress.
use Rattle.std.specs.Prelude.{ℕ, ◌+◌, Bool, nat_lt, List, [], ◌∷◌, Option, None, Some, filter, map, length}
use Rattle.std.specs.Map.{lookup, set_value, remove_entry}
use Rattle.std.specs.BTreeMap.{insert_entry, is_at}
use Rattle.std.specs.Ordering.{nat_cmp}
use Rattle.resolver_types.specs.Names.{Names, same_key}
use Rattle.resolver_types.specs.Subscribers.{attached_all, without}
use Rattle.resolver_model.specs.declared.ruling.Ruling.{Ruling}
use Rattle.resolver_model.specs.declared.ruling.Ruling.TheVariants.{Serve, Retry, Retire}
use Rattle.resolver_model.specs.Account.{Handed}

-- a delivery in progress. `accepted`: its response was judged Complete before
pub record Judgment : Type 0 where
  pub number : ℕ
  pub response : ℕ
  pub accepted : Bool

pub record Held (S : Type 0) : Type 0 where
  pub subscribers : List (S × ℕ)
  pub judging : Option Judgment

pub record Standing (K S : Type 0) : Type 0 where
  pub rows : List (K × Held S)
  -- by number, open
  pub deliveries : List (ℕ × Handed K S)
  pub next_number : ℕ

module _ {K S : Type 0} where
  abbrev pub prunes : (K → S → Bool) → K × Held S → K × Held S
  prunes keep r = (r.0, record r.1 { subscribers = filter (λ s. keep r.0 s.0) r.1.subscribers })

  abbrev pub has_any : K × Held S → Bool
  has_any r = nat_lt 0 (length r.1.subscribers)

  abbrev pub keeps : Standing K S → (K → S → Bool) → Standing K S
  keeps t keep = record t { rows = filter has_any (map (prunes keep) t.rows) }

  abbrev pub closes : Standing K S → ℕ → Standing K S
  closes t number = record t { deliveries = remove_entry (is_at (nat_cmp number)) t.deliveries }

  abbrev pub ends : Standing K S → Standing K S
  ends t = record t { rows = []; deliveries = [] }

module _ {K S : Type 0} (n : Names K S) where
  abbrev pub asks_one : List (K × Held S) → K × List (S × ℕ) → Option (Held S) → List (K × Held S)
  asks_one rows item None = insert_entry n.key rows item.0 (record { subscribers = attached_all n.subscriber [] item.1; judging = None })
  asks_one rows item (Some held) = set_value (same_key n item.0) rows (record held { subscribers = attached_all n.subscriber held.subscribers item.1 })

  abbrev pub asks : List (K × Held S) → List (K × List (S × ℕ)) → List (K × Held S)
  asks rows [] = rows
  asks rows (item ∷ items) = asks (asks_one rows item (lookup (same_key n item.0) rows)) items

  -- the key is judged by these subscribers under the next number
  abbrev pub hands : Standing K S → K → List (S × ℕ) → (response : ℕ) → (accepted : Bool) → Standing K S
  hands t key subscribers response accepted = record {
    rows = set_value (same_key n key) t.rows (record { subscribers = subscribers; judging = Some (record { number = t.next_number; response = response; accepted = accepted }) });
    deliveries = insert_entry nat_cmp t.deliveries t.next_number (record { response = response; key = key; subscribers = subscribers });
    next_number = t.next_number + 1;
  }

  -- the key is judged no more
  abbrev pub drops : Standing K S → K → List (S × ℕ) → Standing K S
  drops t key subscribers = record t { rows = set_value (same_key n key) t.rows (record { subscribers = subscribers; judging = None }) }

  abbrev pub retires : Standing K S → K → Standing K S
  retires t key = record t { rows = remove_entry (same_key n key) t.rows }

  -- The named subscribers are served, and the rest get the response again.
  abbrev pub serves : Standing K S → Handed K S → (accepted : Bool) → List (S × ℕ) → Standing K S
  serves t h accepted [] = retires t h.key
  serves t h accepted (s ∷ rest) = hands t h.key (s ∷ rest) h.response accepted

  abbrev pub served_again : Standing K S → Handed K S → List (S × ℕ) → List (ℕ × Handed K S)
  served_again t h [] = []
  served_again t h (s ∷ rest) = (t.next_number, record { response = h.response; key = h.key; subscribers = s ∷ rest }) ∷ []

  -- a ruling on the delivery in progress, for the subscribers that its key has
  abbrev pub rules : Standing K S → Handed K S → List (S × ℕ) → Ruling → Standing K S
  rules t h subscribers (Serve accepted) = serves t h accepted (without n.subscriber h.subscribers subscribers)
  rules t h subscribers Retry = drops t h.key subscribers
  rules t h subscribers Retire = retires t h.key

  -- what a ruling hands out
  abbrev pub ruled_out : Standing K S → Handed K S → List (S × ℕ) → Ruling → List (ℕ × Handed K S)
  ruled_out t h subscribers (Serve accepted) = served_again t h (without n.subscriber h.subscribers subscribers)
  ruled_out t h subscribers ruling = []
