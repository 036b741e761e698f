-- How many requests without an answer each peer has, and how many it may have.
use Rattle.std.specs.Prelude.{◌≡◌, IfSome, ℕ, ◌+◌, ◌-◌, Bool, false, not, ◌&&◌, nat_le, List, Option, None, Some, option_map, unwrap_or, if◌then◌else◌}
use Rattle.std.specs.BTreeMap.{is_at}
use Rattle.std.specs.Map.{lookup}
use Rattle.std.specs.declared.cmp.Ordering.{Ordering}
use Rattle.resolver_fetch_requests.specs.declared.requests.request.Request.{Request}
use Rattle.resolver_fetch_requests.specs.Requests.{requests_to}

-- how many requests one peer may have, and how many each has
pub record Load (P : Type 0) : Type 0 where
  pub limit : ℕ
  pub requests : P → ℕ

-- Whether a peer has as many requests as it may have. Without a load it may have any number.
abbrev pub is_full : {P : Type 0} → Option (Load P) → P → Bool
is_full None peer = false
is_full (Some load) peer = nat_le load.limit (load.requests peer)

-- how many of these requests each peer has, where there is a limit
abbrev pub load_of : {K P : Type 0} → (P → P → Ordering) → (limit : Option ℕ) → List (ℕ × Request K P) → Option (Load P)
load_of by_peer limit asked = option_map (λ most. record { limit = most; requests = requests_to by_peer asked }) limit

-- each peer has as many as these requests are
abbrev pub IsLoadedBy : {K P : Type 0} → (P → P → Ordering) → List (ℕ × Request K P) → Option (Load P) → Type 0
IsLoadedBy by_peer asked load = IfSome load (λ load. load.requests ≡ requests_to by_peer asked)

-- how many requests one peer may have, and the peers that are counted, with how many each has
pub record Counts (P : Type 0) : Type 0 where
  pub limit : ℕ
  pub counts : List (P × ℕ)

module _ {P : Type 0} (by_peer : P → P → Ordering) where
  -- a peer that is not counted has no request
  abbrev pub counted : List (P × ℕ) → P → ℕ
  counted counts peer = unwrap_or (lookup (is_at (by_peer peer)) counts) 0

  abbrev pub loaded : Counts P → Load P
  loaded c = record { limit = c.limit; requests = counted c.counts }

  -- a peer has one more
  abbrev pub one_more : P → Load P → Load P
  one_more peer load = record load { requests = λ p. if is_at (by_peer peer) p then load.requests p + 1 else load.requests p }

  -- a peer has one fewer
  abbrev pub one_fewer : P → Load P → Load P
  one_fewer peer load = record load { requests = λ p. if is_at (by_peer peer) p then load.requests p - 1 else load.requests p }

  -- whether one request more makes a peer full, that is not so far
  abbrev pub fills : P → Option (Counts P) → Bool
  fills peer None = false
  fills peer (Some c) = nat_le c.limit (counted c.counts peer + 1) && not (nat_le c.limit (counted c.counts peer))

  -- whether one request fewer leaves a peer with less than it may have, that is full so far
  abbrev pub frees : P → Option (Counts P) → Bool
  frees peer None = false
  frees peer (Some c) = nat_le c.limit (counted c.counts peer) && not (nat_le c.limit (counted c.counts peer - 1))
