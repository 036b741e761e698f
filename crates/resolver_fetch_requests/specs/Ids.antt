-- The ids of requests: 64 bits, one after another.
use Rattle.std.specs.Prelude.{ℕ, ◌+◌, ◌%◌, ◌^◌, Bool, is_some, List, [], ◌∷◌, if◌then◌else◌}
use Rattle.resolver_fetch_requests.specs.declared.requests.request.Request.{Request}
use Rattle.resolver_fetch_requests.specs.Requests.{request_of}

-- 0 follows the last
abbrev pub following : (id : ℕ) → ℕ
following id = (id + 1) % 2 ^ 64

module _ {K P : Type 0} where
  abbrev pub is_held : List (ℕ × Request K P) → (id : ℕ) → Bool
  is_held asked id = is_some (request_of asked id)

  -- the first id after the last that no request holds, among one more than the requests are
  abbrev pub next_free : List (ℕ × Request K P) → (more : List (ℕ × Request K P)) → (last : ℕ) → ℕ
  next_free asked [] last = following last
  next_free asked (r ∷ more) last =
      if is_held asked (following last) then next_free asked more (following last) else following last

  abbrev pub next_id : List (ℕ × Request K P) → (last : ℕ) → ℕ
  next_id asked last = next_free asked asked last
