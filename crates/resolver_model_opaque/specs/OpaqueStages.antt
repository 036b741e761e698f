-- The demanded keys by what was done last for them.
use Rattle.std.specs.Prelude.{◌≡◌, ◌≤◌, ◌<◌, ◌^◌, ℕ, Bool, true, false, ◌==◌, List, [], ◌∷◌, Option, None, Some, filter, find, if◌then◌else◌}
use Rattle.std.specs.List.Sorted.{IsStrictlySortedBy}
use Rattle.std.specs.Map.{keys_of, lookup}
use Rattle.std.specs.BTreeMap.{is_at}
use Rattle.std.specs.Ordering.{is_eq, nat_cmp}
use Rattle.std.specs.declared.cmp.Ordering.{Ordering}
use Rattle.resolver_priority_set.specs.Priorities.{is_of}
use Rattle.resolver_delivery.specs.Entries.{Numbered, fresh}
use Rattle.resolver_model_opaque.specs.declared.phase.Stage.{Stage}
use Rattle.resolver_model_opaque.specs.declared.phase.Stage.TheVariants as stages
use Rattle.resolver_delivery.specs.declared.entry.Entry.{Entry}
use Rattle.resolver_delivery.specs.declared.entry.Response.{Response}

-- what the entries keep of a key, without what was said of its response
abbrev pub Kept : Type 0 → Type 0
Kept V = Entry V (Unit {0}) Stage

-- the entries, and the attempt that comes next
pub record Staged (K V S : Type 0) : Type 0 where
  pub entries : Numbered K S V (Unit {0}) Stage
  pub next_attempt : ℕ

-- no key so far
abbrev pub unstaged : {K V S : Type 0} → (next_attempt : ℕ) → Staged K V S
unstaged next_attempt = record { entries = record { keys = []; going = []; next = 0 }; next_attempt = next_attempt }

-- the attempt of a key that was asked for last
abbrev pub attempt_in : Stage → Option ℕ
attempt_in (stages.Asked attempt) = Some attempt
attempt_in (stages.Waiting due) = None

-- whether a key stands under this attempt
abbrev pub stands_under : (attempt : ℕ) → Option Stage → Bool
stands_under attempt (Some (stages.Asked a)) = attempt == a
stands_under attempt stage = false

-- whether a key waits
abbrev pub waits : Option Stage → Bool
waits (Some (stages.Waiting due)) = true
waits stage = false

-- a key, if it stands under this attempt
abbrev pub if_under : {K : Type 0} → (attempt : ℕ) → K → Stage → Option K
if_under attempt key (stages.Asked a) = if attempt == a then Some key else None
if_under attempt key (stages.Waiting due) = None

abbrev pub key_under : {K V : Type 0} → (attempt : ℕ) → Option (K × Kept V) → Option K
key_under attempt None = None
key_under attempt (Some e) = if_under attempt e.0 e.1.state

-- a key and its due, if it waits
abbrev pub retry_at : {K : Type 0} → K → Stage → List (ℕ × K)
retry_at key (stages.Waiting due) = (due, key) ∷ []
retry_at key (stages.Asked attempt) = []

abbrev pub retry_of : {K V : Type 0} → Option (K × Kept V) → List (ℕ × K)
retry_of None = []
retry_of (Some e) = retry_at e.0 e.1.state

-- a key that waits from now on: what was known of it before is forgotten
abbrev pub resting : {V : Type 0} → (due : ℕ) → Kept V → Kept V
resting due e = fresh (stages.Waiting due)

-- A waiting key has no delivery in progress, and no response is held for it. It is due a moment and a delay after 0, each below 2^94.
pub record IsAtRest {V : Type 0} (due : ℕ) (number : Option ℕ) (response : Option (Response V (Unit {0}))) : Type 0 where
  pub idle : number ≡ None
  pub forgotten : response ≡ None
  pub soon : due < 2 ^ 95

-- whether a key, if it waits, is at rest
abbrev pub RestsAt : {V : Type 0} → Stage → Option ℕ → Option (Response V (Unit {0})) → Type 0
RestsAt (stages.Waiting due) number response = IsAtRest due number response
RestsAt (stages.Asked attempt) number response = Unit {0}

abbrev pub Rests : {K V : Type 0} → Option (K × Kept V) → Type 0
Rests None = Unit {0}
Rests (Some e) = RestsAt e.1.state e.1.number e.1.response

-- whether a key is there that was asked for last
abbrev pub IsAsked : Option Stage → Type 0
IsAsked None = ⊥
IsAsked (Some (stages.Asked attempt)) = Unit {0}
IsAsked (Some (stages.Waiting due)) = ⊥

-- a key, if it is equal to this one
abbrev pub if_same : {K : Type 0} → (K → K → Ordering) → K → Option K → Option K
if_same cmp key None = None
if_same cmp key (Some k) = if is_eq (cmp key k) then Some k else None

module _ {K V : Type 0} (cmp : K → K → Ordering) where
  -- the entry of a key, with the key as it is kept
  abbrev pub kept_at : List (K × Kept V) → K → Option (K × Kept V)
  kept_at es key = find (λ e. is_eq (cmp key e.0)) es

  -- `asked` has the keys by the attempts under which they stand.
  pub record IsLed (next_attempt : ℕ) (asked : List (ℕ × K)) (es : List (K × Kept V)) : Type 0 where
    pub ordered : IsStrictlySortedBy cmp (keys_of es)
    -- An attempt leads to a key, as it is kept, exactly where the key stands under it.
    pub led : (key : K) (attempt : ℕ) → if_same cmp key (lookup (is_at (nat_cmp attempt)) asked) ≡ key_under attempt (kept_at es key)
    -- An attempt that is still to come leads nowhere.
    pub fresh : (attempt : ℕ) → next_attempt ≤ attempt → lookup (is_at (nat_cmp attempt)) asked ≡ None

  -- `retries` has the waiting keys by their dues.
  pub record AreDue (retries : List (ℕ × K)) (es : List (K × Kept V)) : Type 0 where
    -- A key, as it is kept, is among them with its due, exactly where it waits.
    pub due : (key : K) → filter (is_of cmp key) retries ≡ retry_of (kept_at es key)
    -- A waiting key is at rest.
    pub rests : (key : K) → Rests (kept_at es key)
