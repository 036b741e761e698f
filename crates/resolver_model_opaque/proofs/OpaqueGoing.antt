-- The parts of a step, as the code goes through them over tracker and entries.
use Rattle.std.proofs.Common.{◌≡◌, refl, ap, ◌∙◌, sym, subst, ℕ, ◌+◌, ◌<◌, ◌^◌, Bool, true, false, cond, List, [], ◌∷◌, ◌++◌, Option, None, Some, IfSome, is_some, append-nil, find}
use Rattle.std.specs.Prelude.{Result, Ok, Err}
use Rattle.std.specs.Option.{option_map, option_and_then}
use Rattle.std.specs.Result.{OnOk, OnErr, IfErr}
use Rattle.std.specs.Ordering.{nat_cmp}
use Rattle.std.specs.Map.{lookup, set_value, keys_of}
use Rattle.std.specs.Cmp.{IsEquivalence}
use Rattle.std.specs.List.{IsDistinct}
use Rattle.std.proofs.lemmas.Bool.{lt-ltb}
use Rattle.resolver_types.specs.Names.{Names, same_key}
use Rattle.resolver_types.specs.Subscribers.{attached_all}
use Rattle.resolver_types.specs.Table as tables
use Rattle.resolver_base.specs.declared.fault.Fault.{Fault}
use Rattle.resolver_base.specs.declared.fault.Fault.TheVariants as faults
use Rattle.resolver_delivery.specs.Entries.{Numbered, changed, changed_at, with_state, with_response, numbered, inserted, fresh, delivered}
use Rattle.resolver_delivery.specs.declared.entry.Response.{Response}
use Rattle.resolver_model_opaque.specs.declared.phase.Stage.{Stage}
use Rattle.resolver_model_opaque.specs.declared.phase.Stage.TheVariants as stages
use Rattle.resolver_model_opaque.specs.declared.effects.Effect.{Effect}
use Rattle.resolver_model_opaque.specs.declared.effects.Effect.TheVariants.{Start, Deliver}
use Rattle.resolver_model.specs.declared.status.Status.{Status}
use Rattle.resolver_model.specs.declared.status.Status.TheVariants.{Ended}
use Rattle.resolver_model_opaque.specs.Opaque.{Machine, Row, Done, Item, quiet, retry, hand_out, fetch_one, row_of, start_new, start_again, retain, end, all_called_off, called_off}
use Rattle.resolver_model_opaque.specs.OpaquePhases.{Phase, Asked, Waiting, Judged, is_asked_by}
use Rattle.resolver_model_opaque.specs.OpaqueStages.{Kept, IsAsked, Staged, resting}
use Rattle.resolver_model_opaque.specs.OpaqueByPhase.{staged, phase_in, phase_of, asked_key}
use Rattle.resolver_model_opaque.specs.OpaqueTables.{has_cached, Agree, rows_of, row_of as code_row_of, handed_of, machine_with}
use Rattle.resolver_model_opaque.specs.OpaqueFound.{all_kept_called_off, each_called_off, without_each, IsIdle, IsIdlePhase, IsAskedFor, IsAskedPhase}
use Rattle.resolver_model_opaque.specs.OpaqueSteps.{onto, Goes}
use Rattle.resolver_model.proofs.Mapped.{insert_entry-seen}
use Rattle.resolver_model_opaque.proofs.Joined.{same_found, rows-found, rows-none, keys-rows, rows-set_demand, rows-set_keys, rows-inserted, head_key, tail_keys}
use Rattle.resolver_model_opaque.proofs.Agrees.{cached-at, cached-changed, keys-changed, called_off-emptied, kept-emptied, agree-demand, agree-keys, agree-inserted}
use Rattle.std.proofs.lemmas.Map.{keys-set_value}
use Rattle.resolver_types.proofs.Undone.{removed-inserted}
use Rattle.resolver_model.proofs.Deliveries.{Each-find}
use Rattle.resolver_model.proofs.Rows.{each_found}

abbrev pub Entries : Type 0 → Type 0 → Type 0 → Type 0
Entries K S V = Numbered K S V (Unit {0}) Stage

module _ {K V S : Type 0} where
  -- memory was wanting
  pub goes-wanting : (going : Option (Done K V S)) (before after : List (Effect K V S)) (m : Machine K V S) (fault : Fault) → fault ≡ faults.OutOfMemory → Goes going before after m (Err fault)
  goes-wanting going before after m fault is = rw is tt

  -- an answer that tells of its effects, or of wanting memory
  pub goes-told : (going : Option (Done K V S)) (before after : List (Effect K V S)) (m : Machine K V S) (result : Result (Unit {0}) Fault) (Told : Type 0)
      → OnOk result Told → IfErr result (λ fault. fault ≡ faults.OutOfMemory) → (Told → onto before going ≡ Some (record { machine = m; effects = after })) → Goes going before after m result
  goes-told going before after m (Ok done) Told told only goes = goes told
  goes-told going before after m (Err fault) Told told only goes = goes-wanting going before after m fault only

  pub quiet_goes : (m : Machine K V S) (before : List (Effect K V S)) → onto before (quiet m) ≡ Some (record { machine = m; effects = before })
  quiet_goes m before = rw append-nil refl

-- a key that is asked for has no delivery in progress
asked-rests : {V : Type 0} (phase : Phase V) → IsAskedPhase phase → IsIdlePhase phase
asked-rests (Waiting due) asked = tt
asked-rests (Asked attempt) asked = tt
asked-rests (Judged j) asked = asked

module _ {V S : Type 0} where
  -- what holds of the row that is there
  pub at-idle : (o : Option (Row V S)) (P : Row V S → Type 0) → IsIdle o → ((row : Row V S) → o ≡ Some row → IsIdlePhase row.phase → P row) → IfSome o P
  at-idle None P idle holds = absurd idle
  at-idle (Some row) P idle holds = holds row refl idle

  pub idle-row : (o : Option (Row V S)) (row : Row V S) → o ≡ Some row → IsIdlePhase row.phase → IsIdle o
  idle-row o row found idle = rw found idle

  pub asked-idle : (o : Option (Row V S)) → IsAskedFor o → IsIdle o
  asked-idle None asked = asked
  asked-idle (Some row) asked = asked-rests row.phase asked

  pub asked-row : (o : Option (Row V S)) (row : Row V S) → o ≡ Some row → IsAskedPhase row.phase → IsAskedFor o
  asked-row o row found asked = rw found asked

  pub row-found : (o : Option (Row V S)) (row : Row V S) (P : Row V S → Type 0) → o ≡ Some row → IfSome o P → P row
  row-found o row P found holds = rw found at holds

module _ {V : Type 0} where
  idle-free : (stage : Stage) (number : Option ℕ) (response : Option (Response V (Unit {0}))) → has_cached number response → IsIdlePhase (phase_in stage number response) → number ≡ None
  idle-free stage None response has idle = refl
  idle-free stage (Some number) None has idle = absurd has
  idle-free stage (Some number) (Some r) has idle = absurd idle

  stage-asked : (stage : Stage) (number : Option ℕ) (response : Option (Response V (Unit {0}))) → IsAskedPhase (phase_in stage number response) → IsAsked (Some stage)
  stage-asked (stages.Asked attempt) number response asked = tt
  stage-asked (stages.Waiting due) None response asked = asked
  stage-asked (stages.Waiting due) (Some number) None asked = asked
  stage-asked (stages.Waiting due) (Some number) (Some r) asked = asked

  staged-phase : (stage : Stage) (number : Option ℕ) (response : Option (Response V (Unit {0}))) → number ≡ None → phase_in stage number response ≡ staged stage
  staged-phase stage number response none = rw none refl

module _ {K V S : Type 0} (n : Names K S) (ts : List (K × List (S × ℕ))) (es : List (K × Kept V)) (a : Agree n.key ts es) where
  -- what both parts have at a key
  pub record Has (key : K) (row : Row V S) : Type 0 where
    pub subscribers : List (S × ℕ)
    pub entry : Kept V
    pub first : lookup (same_key n key) ts ≡ Some subscribers
    pub second : lookup (same_key n key) es ≡ Some entry
    pub is : row ≡ code_row_of (subscribers, entry)

  pub has : (key : K) (row : Row V S) → lookup (same_key n key) (rows_of ts es) ≡ Some row → Has key row
  has key row found = at (lookup (same_key n key) ts) refl (lookup (same_key n key) es) refl
    where
      at : (o : Option (List (S × ℕ))) → lookup (same_key n key) ts ≡ o → (p : Option (Kept V)) → lookup (same_key n key) es ≡ p → Has key row
      at None first p second = let none = rows-none (same_key n key) ts es first in cc
      at (Some x) first None second = let both = same_found (same_key n key) ts es a.same in cc
      at (Some x) first (Some y) second =
          let is = rows-found (same_key n key) ts es x y a.same first second in
          let same : row ≡ code_row_of (x, y) = cc in record { subscribers = x; entry = y; first = first; second = second; is = same }

  pub has-first : (key : K) → tables.is_asked n ts key ≡ true → (row : Row V S) × (lookup (same_key n key) (rows_of ts es) ≡ Some row) × Has key row
  has-first key asked = at (lookup (same_key n key) ts) refl (lookup (same_key n key) es) refl asked
    where
      at : (o : Option (List (S × ℕ))) → lookup (same_key n key) ts ≡ o → (p : Option (Kept V)) → lookup (same_key n key) es ≡ p → is_some o ≡ true
          → (row : Row V S) × (lookup (same_key n key) (rows_of ts es) ≡ Some row) × Has key row
      at None first p second asked = cc
      at (Some x) first None second asked = let both = same_found (same_key n key) ts es a.same in cc
      at (Some x) first (Some y) second asked =
          (code_row_of (x, y), rows-found (same_key n key) ts es x y a.same first second, record { subscribers = x; entry = y; first = first; second = second; is = refl })

  -- a key that isn't judged is at another stage
  pub rows-staged : (key : K) (row : Row V S) (stage : Stage) → lookup (same_key n key) (rows_of ts es) ≡ Some row → IsIdlePhase row.phase
      → set_value (same_key n key) (rows_of ts es) (record { subscribers = row.subscribers; phase = staged stage })
      ≡ rows_of ts (changed_at (same_key n key) (lookup (same_key n key) es) (with_state stage) es)
  rows-staged key row stage found idle =
      let h = has key row found in
      let free : h.entry.number ≡ None = idle-free h.entry.state h.entry.number h.entry.response (cached-at (same_key n key) es h.entry a.cached h.second) (subst (λ r. IsIdlePhase r.phase) h.is idle) in
      ap (λ r. set_value (same_key n key) (rows_of ts es) (record { subscribers = r.subscribers; phase = staged stage })) h.is
      ∙ ap (λ p. set_value (same_key n key) (rows_of ts es) (record { subscribers = h.subscribers; phase = p })) (sym (staged-phase stage h.entry.number h.entry.response free))
      ∙ rows-set_keys (same_key n key) ts es h.subscribers (with_state stage h.entry) a.same h.first
      ∙ ap (λ o. rows_of ts (changed_at (same_key n key) o (with_state stage) es)) (sym h.second)

  -- a key that isn't judged waits
  pub rows-rested : (key : K) (row : Row V S) (due : ℕ) → lookup (same_key n key) (rows_of ts es) ≡ Some row
      → set_value (same_key n key) (rows_of ts es) (record { subscribers = row.subscribers; phase = Waiting due })
      ≡ rows_of ts (changed_at (same_key n key) (lookup (same_key n key) es) (resting due) es)
  rows-rested key row due found =
      let h = has key row found in
      ap (λ r. set_value (same_key n key) (rows_of ts es) (record { subscribers = r.subscribers; phase = Waiting due })) h.is
      ∙ rows-set_keys (same_key n key) ts es h.subscribers (resting due h.entry) a.same h.first
      ∙ ap (λ o. rows_of ts (changed_at (same_key n key) o (resting due) es)) (sym h.second)

  free-at : (key : K) (row : Row V S) → lookup (same_key n key) (rows_of ts es) ≡ Some row → IsIdlePhase row.phase
      → option_and_then (λ e. e.number) (lookup (same_key n key) es) ≡ None
  free-at key row found idle =
      let h = has key row found in
      let free : h.entry.number ≡ None = idle-free h.entry.state h.entry.number h.entry.response (cached-at (same_key n key) es h.entry a.cached h.second) (subst (λ r. IsIdlePhase r.phase) h.is idle) in
      ap (option_and_then (λ e. e.number)) h.second ∙ free

  tracked-at : (key : K) (row : Row V S) → lookup (same_key n key) (rows_of ts es) ≡ Some row → is_some (lookup (same_key n key) es) ≡ true
  tracked-at key row found = ap is_some (has key row found).second

  asked-at : (key : K) (row : Row V S) → lookup (same_key n key) (rows_of ts es) ≡ Some row → is_some (lookup (same_key n key) ts) ≡ true
  asked-at key row found = ap is_some (has key row found).first

  pub idle-tracked : (key : K) → IsIdle (lookup (same_key n key) (rows_of ts es)) → is_some (lookup (same_key n key) es) ≡ true
  idle-tracked key idle = at (lookup (same_key n key) (rows_of ts es)) refl idle
    where
      at : (o : Option (Row V S)) → lookup (same_key n key) (rows_of ts es) ≡ o → IsIdle o → is_some (lookup (same_key n key) es) ≡ true
      at None found idle = absurd idle
      at (Some row) found idle = tracked-at key row found

  pub asked-stage : (key : K) → IsAskedFor (lookup (same_key n key) (rows_of ts es)) → IsAsked (option_map (λ (e : Kept V). e.state) (lookup (same_key n key) es))
  asked-stage key asked = at (lookup (same_key n key) (rows_of ts es)) refl asked
    where
      at : (o : Option (Row V S)) → lookup (same_key n key) (rows_of ts es) ≡ o → IsAskedFor o → IsAsked (option_map (λ (e : Kept V). e.state) (lookup (same_key n key) es))
      at None found asked = absurd asked
      at (Some row) found asked =
          let h = has key row found in
          subst (λ (p : Option (Kept V)). IsAsked (option_map (λ (e : Kept V). e.state) p)) (sym h.second) (stage-asked h.entry.state h.entry.number h.entry.response (subst (λ r. IsAskedPhase r.phase) h.is asked))

  pub idle-asked : (key : K) → IsIdle (lookup (same_key n key) (rows_of ts es)) → is_some (lookup (same_key n key) ts) ≡ true
  idle-asked key idle = at (lookup (same_key n key) (rows_of ts es)) refl idle
    where
      at : (o : Option (Row V S)) → lookup (same_key n key) (rows_of ts es) ≡ o → IsIdle o → is_some (lookup (same_key n key) ts) ≡ true
      at None found idle = absurd idle
      at (Some row) found idle = asked-at key row found

  pub idle-free_number : (key : K) → IsIdle (lookup (same_key n key) (rows_of ts es)) → option_and_then (λ e. e.number) (lookup (same_key n key) es) ≡ None
  idle-free_number key idle = at (lookup (same_key n key) (rows_of ts es)) refl idle
    where
      at : (o : Option (Row V S)) → lookup (same_key n key) (rows_of ts es) ≡ o → IsIdle o → option_and_then (λ e. e.number) (lookup (same_key n key) es) ≡ None
      at None found idle = absurd idle
      at (Some row) found idle = free-at key row found idle

module _ {K V S : Type 0} (n : Names K S) (ts : List (K × List (S × ℕ))) (d : Entries K S V) (agree : Agree n.key ts d.keys) (attempts delay : ℕ) (status : Status) where
  abbrev m : Machine K V S
  m = machine_with ts d attempts delay status

  -- the key is demanded, and its row takes the subscribers
  pub fetch_present_goes : (item : Item K S) (before : List (Effect K V S)) → tables.is_asked n ts item.key ≡ true
      → onto before (fetch_one n m item (row_of n m item.key))
      ≡ Some (record { machine = machine_with (tables.asked_one n ts (item.key, item.subscribers)) d attempts delay status; effects = before })
  fetch_present_goes item before asked =
      let found = has-first n ts d.keys agree item.key asked in
      let h = found.2 in
      let put : set_value (same_key n item.key) (rows_of ts d.keys) (record { subscribers = attached_all n.subscriber h.subscribers item.subscribers; phase = phase_of h.entry })
      ≡ rows_of (set_value (same_key n item.key) ts (attached_all n.subscriber h.subscribers item.subscribers)) d.keys =
      rows-set_demand (same_key n item.key) ts d.keys (attached_all n.subscriber h.subscribers item.subscribers) h.entry agree.same h.second in
      ap (λ o. onto before (fetch_one n m item o)) (found.1 ∙ ap Some h.is)
      ∙ rw (append-nil, put, h.first) refl

  pub agree-attached : (item : K × List (S × ℕ)) (us : List (K × List (S × ℕ))) → tables.is_asked n ts item.0 ≡ true → us ≡ tables.asked_one n ts item → Agree n.key us d.keys
  agree-attached item us asked is = at (lookup (same_key n item.0) ts) asked is
    where
      at : (o : Option (List (S × ℕ))) → is_some o ≡ true → us ≡ tables.asked_beside n ts item o → Agree n.key us d.keys
      at None asked is = cc
      at (Some x) asked is = agree-demand n.key ts us d.keys agree (ap keys_of is ∙ keys-set_value (same_key n item.0) ts (attached_all n.subscriber x item.1))

  pub absent-row : (key : K) → tables.is_asked n ts key ≡ false → row_of n m key ≡ None
  absent-row key absent = at (lookup (same_key n key) ts) refl absent
    where
      at : (o : Option (List (S × ℕ))) → lookup (same_key n key) ts ≡ o → is_some o ≡ false → row_of n m key ≡ None
      at None first is = rows-none (same_key n key) ts d.keys first
      at (Some x) first is = cc

  -- the key is new in both parts
  pub absent-first : (key : K) → row_of n m key ≡ None → lookup (same_key n key) ts ≡ None
  absent-first key absent = at (lookup (same_key n key) ts) refl
    where
      at : (o : Option (List (S × ℕ))) → lookup (same_key n key) ts ≡ o → lookup (same_key n key) ts ≡ None
      at None first = first
      at (Some x) first = let found = has-first n ts d.keys agree key (ap is_some first) in let clash = found.1 in cc

  pub absent-second : (key : K) → row_of n m key ≡ None → lookup (same_key n key) d.keys ≡ None
  absent-second key absent = at (lookup (same_key n key) d.keys) refl
    where
      at : (o : Option (Kept V)) → lookup (same_key n key) d.keys ≡ o → lookup (same_key n key) d.keys ≡ None
      at None second = second
      at (Some y) second = let both = same_found (same_key n key) ts d.keys agree.same in let none = absent-first key absent in cc

  -- a number is left: the key goes to its place in both parts, and the attempt starts
  pub start_new_goes : (key : K) (more : List (S × ℕ)) (before after : List (Effect K V S)) (us : List (K × List (S × ℕ))) (e : Entries K S V) (attempt next : ℕ)
      → row_of n m key ≡ None → attempt ≡ attempts → attempt < 2 ^ 64 → next ≡ attempts + 1
      → us ≡ tables.asked_one n ts (key, more) → e ≡ inserted n.key key (stages.Asked attempt) d
      → after ≡ before ++ Start attempt key ∷ []
      → onto before (start_new n m key (attached_all n.subscriber [] more)) ≡ Some (record { machine = machine_with us e next delay status; effects = after })
  start_new_goes key more before after us e attempt next absent is_next fits counted wanted tracked told =
      let room : attempts < 2 ^ 64 = rw is_next at fits in
      let first = absent-first key absent in
      let second = absent-second key absent in
      let put = rows-inserted n.key ts d.keys key (attached_all n.subscriber [] more) (fresh (stages.Asked attempts)) agree.same in
      rw (lt-ltb attempts (2 ^ 64) room, wanted, tracked, first, second, told, counted, is_next, put) refl

  pub agree-started : (laws : IsEquivalence (same_key n)) (key : K) (more : List (S × ℕ)) (state : Stage) (us : List (K × List (S × ℕ))) (e : Entries K S V) → row_of n m key ≡ None
      → us ≡ tables.asked_one n ts (key, more) → e ≡ inserted n.key key state d → Agree n.key us e.keys
  agree-started laws key more state us e absent wanted tracked =
      let first = absent-first key absent in
      let second = absent-second key absent in
      rw (wanted, tracked, first, second) (agree-inserted n laws ts d.keys key (attached_all n.subscriber [] more) (fresh state) agree first tt)

  -- what the tracker took is given back
  pub agree-undone : (laws : IsEquivalence (same_key n)) (key : K) (more : List (S × ℕ)) (us vs : List (K × List (S × ℕ))) (e : Entries K S V) → row_of n m key ≡ None
      → us ≡ tables.asked_one n ts (key, more) → vs ≡ tables.without_key n key us → e ≡ d → Agree n.key vs e.keys
  agree-undone laws key more us vs e absent wanted gone same =
      let first = absent-first key absent in
      let back = removed-inserted n.key key ts (attached_all n.subscriber [] more) (laws.refl key) first in
      rw (gone, wanted, first, back, same) agree

  pub agree-staged : (key : K) (stage : Stage) (e : Entries K S V) → e ≡ changed n.key key (with_state stage) d → Agree n.key ts e.keys
  agree-staged key stage e is =
      rw is (agree-keys n.key ts d.keys (changed_at (same_key n key) (lookup (same_key n key) d.keys) (with_state stage) d.keys) agree (keys-changed (same_key n key) d.keys (with_state stage))
      (cached-changed (same_key n key) d.keys (with_state stage) (λ e cached. cached) agree.cached))

  pub agree-rested : (key : K) (due : ℕ) (e : Entries K S V) → e ≡ changed n.key key (resting due) d → Agree n.key ts e.keys
  agree-rested key due e is =
      rw is (agree-keys n.key ts d.keys (changed_at (same_key n key) (lookup (same_key n key) d.keys) (resting due) d.keys) agree (keys-changed (same_key n key) d.keys (resting due))
      (cached-changed (same_key n key) d.keys (resting due) (λ e cached. tt) agree.cached))

  pub agree-delivered : (key : K) (subscribers : List (S × ℕ)) (value : V) (e : Entries K S V) → e ≡ delivered n.key (record { key = key; subscribers = subscribers }) tt value d → Agree n.key ts e.keys
  agree-delivered key subscribers value e is =
      let change : Kept V → Kept V = λ e. numbered d.next (with_response (Some (record { name = d.next; value = value; context = tt; accepted = false })) e) in
      rw is (agree-keys n.key ts d.keys (changed_at (same_key n key) (lookup (same_key n key) d.keys) change d.keys) agree (keys-changed (same_key n key) d.keys change)
      (cached-changed (same_key n key) d.keys change (λ e cached. tt) agree.cached))

  pub start_again_goes : (key : K) (row : Row V S) (before after : List (Effect K V S)) (e : Entries K S V) (attempt next : ℕ)
      → row_of n m key ≡ Some row → IsIdlePhase row.phase
      → attempt ≡ attempts → attempt < 2 ^ 64 → next ≡ attempts + 1
      → e ≡ changed n.key key (with_state (stages.Asked attempt)) d
      → after ≡ before ++ Start attempt key ∷ []
      → onto before (start_again n m key row.subscribers) ≡ Some (record { machine = machine_with ts e next delay status; effects = after })
  start_again_goes key row before after e attempt next found idle is_next fits counted put told =
      let room : attempts < 2 ^ 64 = rw is_next at fits in
      let moved = rows-staged n ts d.keys agree key row (stages.Asked attempts) found idle in
      rw (lt-ltb attempts (2 ^ 64) room, put, told, counted, is_next, moved) refl

  pub retry_goes : (key : K) (row : Row V S) (now due : ℕ) (before : List (Effect K V S)) (e : Entries K S V)
      → row_of n m key ≡ Some row → due ≡ now + delay
      → e ≡ changed n.key key (resting due) d
      → onto before (quiet (retry n m now key row.subscribers)) ≡ Some (record { machine = machine_with ts e attempts delay status; effects = before })
  retry_goes key row now due before e found later put =
      let moved = rows-rested n ts d.keys agree key row (now + delay) found in
      rw (append-nil, put, later, moved) refl

  pub retain_goes : (laws : IsEquivalence (same_key n)) (keep : K → S → Bool) (before after : List (Effect K V S)) (us : List (K × List (S × ℕ))) (e : Entries K S V) (ks : List K)
      → us ≡ tables.kept keep ts → ks ≡ tables.emptied keep ts
      → e ≡ record d { keys = without_each n.key ks d.keys }
      → after ≡ before ++ each_called_off n.key d.keys ks
      → onto before (Some (retain m keep)) ≡ Some (record { machine = machine_with us e attempts delay status; effects = after })
  retain_goes laws keep before after us e ks left gone let_go told =
      let rows = kept-emptied n laws keep ts d.keys agree.same agree.distinct in
      let calls = called_off-emptied n laws keep ts d.keys agree.same agree.distinct in
      rw (left, let_go, told, gone, rows, calls) refl

  pub end_goes : (before after : List (Effect K V S)) → after ≡ before ++ all_kept_called_off d.keys
      → onto before (Some (end m)) ≡ Some (record { machine = machine_with [] (record d { keys = []; going = [] }) attempts delay Ended; effects = after })
  end_goes before after told = rw told (ap (λ more. Some (record { machine = machine_with [] (record d { keys = []; going = [] }) attempts delay Ended; effects = before ++ more })) (calls ts d.keys agree.same))
    where
      calls : (ts : List (K × List (S × ℕ))) (es : List (K × Kept V)) → keys_of ts ≡ keys_of es → all_called_off {K = K} {V = V} {S = S} (rows_of ts es) ≡ all_kept_called_off es
      calls [] [] same = refl
      calls [] (e ∷ es) same = cc
      calls (t ∷ ts) [] same = cc
      calls (t ∷ ts) (e ∷ es) same = ap (λ more. called_off (phase_of e.1) ++ more) (calls ts es (tail_keys t ts e es same))

  -- a number is left: the value is handed out under it
  pub hand_out_goes : (key : K) (row : Row V S) (subscribers : List (S × ℕ)) (value : V) (before after : List (Effect K V S)) (e : Entries K S V) (number : ℕ)
      → row_of n m key ≡ Some row → tables.subscribers_of n ts key ≡ Some subscribers
      → number ≡ d.next → number < 2 ^ 64
      → e ≡ delivered n.key (record { key = key; subscribers = subscribers }) tt value d
      → after ≡ before ++ Deliver number number (record { key = key; subscribers = subscribers }) value ∷ []
      → onto before (hand_out n m key row.subscribers d.next value false) ≡ Some (record { machine = machine_with ts e attempts delay status; effects = after })
  hand_out_goes key row subscribers value before after e number found wanted is_next fits put told =
      let room : d.next < 2 ^ 64 = rw is_next at fits in
      let h = has n ts d.keys agree key row found in
      let same : row.subscribers ≡ subscribers = ap (λ r. r.subscribers) h.is ∙ subscribers_are h.subscribers subscribers (sym h.first ∙ wanted) in
      let moved = rows-set_keys (same_key n key) ts d.keys subscribers (record h.entry { number = Some d.next; response = Some (record { name = d.next; value = value; context = tt; accepted = false }) }) agree.same wanted in
      let opened = insert_entry-seen handed_of nat_cmp d.going d.next (record { response = d.next; delivery = record { key = key; subscribers = subscribers }; context = tt; accepted = false }) in
      rw (lt-ltb d.next (2 ^ 64) room, put, told, same, is_next, h.second, moved, opened) refl
    where
      subscribers_are : (x y : List (S × ℕ)) → Some x ≡ Some y → x ≡ y
      subscribers_are x y is = cc

  -- what an attempt finds
  pub record Found (attempt : ℕ) (key : K) : Type 0 where
    pub row : Row V S
    pub at_attempt : find (λ r. is_asked_by attempt r.1.phase) m.rows ≡ Some (key, row)
    pub at_key : row_of n m key ≡ Some row
    pub idle : IsIdlePhase row.phase
    pub asked : IsAskedPhase row.phase

  find-keys : (attempt : ℕ) (ts : List (K × List (S × ℕ))) (es : List (K × Kept V)) → keys_of ts ≡ keys_of es
      → option_map (λ r. r.0) (find (λ r. is_asked_by attempt r.1.phase) (rows_of {S = S} ts es)) ≡ asked_key attempt es
  find-keys attempt [] [] same = refl
  find-keys attempt [] (e ∷ es) same = cc
  find-keys attempt (t ∷ ts) [] same = cc
  find-keys attempt (t ∷ ts) (e ∷ es) same = at (is_asked_by attempt (phase_of e.1)) (find-keys attempt ts es (tail_keys t ts e es same))
    where
      at : (b : Bool) → option_map (λ r. r.0) (find (λ r. is_asked_by attempt r.1.phase) (rows_of {S = S} ts es)) ≡ asked_key attempt es
          → option_map (λ r. r.0) (cond b (Some (t.0, code_row_of (t.1, e.1))) (find (λ r. is_asked_by attempt r.1.phase) (rows_of ts es))) ≡ option_map (λ e. e.0) (cond b (Some e) (find (λ e. is_asked_by attempt (phase_of e.1)) es))
      at true rest = ap Some (head_key t ts e es same)
      at false rest = rest

  asked-by : (attempt : ℕ) (phase : Phase V) → is_asked_by attempt phase ≡ true → IsAskedPhase phase
  asked-by attempt (Waiting due) is = cc
  asked-by attempt (Asked a) is = tt
  asked-by attempt (Judged j) is = cc

  pub nothing-found : (attempt : ℕ) → None ≡ asked_key attempt d.keys → find (λ r. is_asked_by attempt r.1.phase) m.rows ≡ None
  nothing-found attempt none = at (find (λ r. is_asked_by attempt r.1.phase) m.rows) refl (find-keys attempt ts d.keys agree.same ∙ sym none)
    where
      at : (o : Option (K × Row V S)) → find (λ r. is_asked_by attempt r.1.phase) m.rows ≡ o → option_map (λ r. r.0) o ≡ None → find (λ r. is_asked_by attempt r.1.phase) m.rows ≡ None
      at None is none = is
      at (Some r) is none = cc

  pub found-key : (laws : IsEquivalence (same_key n)) (attempt : ℕ) (key : K) → Some key ≡ asked_key attempt d.keys → Found attempt key
  found-key laws attempt key some = at (find (λ r. is_asked_by attempt r.1.phase) m.rows) refl (find-keys attempt ts d.keys agree.same ∙ sym some)
    where
      at : (o : Option (K × Row V S)) → find (λ r. is_asked_by attempt r.1.phase) m.rows ≡ o → option_map (λ r. r.0) o ≡ Some key → Found attempt key
      at None is some = cc
      at (Some r) is some =
          let same : r.0 ≡ key = cc in
          let all = each_found n laws m.rows (subst (λ ks. IsDistinct (same_key n) ks) (sym (keys-rows ts d.keys agree.same)) agree.distinct) in
          let here = Each-find (λ e. lookup (same_key n e.0) m.rows ≡ Some e.1) (λ r. is_asked_by attempt r.1.phase) m.rows r all is in
          record {
            row = r.1;
            at_attempt = is ∙ ap (λ k. Some (k, r.1)) same;
            at_key = ap (λ k. lookup (same_key n k) m.rows) (sym same) ∙ here.0;
            idle = asked-rests r.1.phase (asked-by attempt r.1.phase here.1);
            asked = asked-by attempt r.1.phase here.1;
          }

pub asked-none : {A : Type 0} (o : Option A) → is_some o ≡ true → None ≡ o → ⊥
asked-none None asked none = cc
asked-none (Some x) asked none = cc

module _ {K V S : Type 0} (n : Names K S) (ts : List (K × List (S × ℕ))) (s t : Staged K V S) (key : K) (due : ℕ) (result : Result (Unit {0}) Fault)
    (ok : OnOk result (t ≡ record s { entries = changed n.key key (resting due) s.entries })) where
  -- a key waits, or memory was wanting and nothing changed
  pub agree-waited : OnErr result (t ≡ s) → Agree n.key ts s.entries.keys → Agree n.key ts t.entries.keys
  agree-waited err agree = at result ok err
    where
      at : (r : Result (Unit {0}) Fault) → OnOk r (t ≡ record s { entries = changed n.key key (resting due) s.entries }) → OnErr r (t ≡ s) → Agree n.key ts t.entries.keys
      at (Ok done) ok err = agree-rested n ts s.entries agree 0 0 Ended key due t.entries (ap (λ s. s.entries) ok)
      at (Err fault) ok err = subst (λ s. Agree n.key ts s.entries.keys) (sym err) agree

  pub waited_goes : (going : Option (Done K V S)) (before : List (Effect K V S)) (delay : ℕ) (status : Status) → IfErr result (λ fault. fault ≡ faults.OutOfMemory)
      → onto before going ≡ Some (record { machine = machine_with ts (changed n.key key (resting due) s.entries) s.next_attempt delay status; effects = before })
      → Goes going before before (machine_with ts t.entries t.next_attempt delay status) result
  waited_goes going before delay status only goes =
      goes-told going before before (machine_with ts t.entries t.next_attempt delay status) result (t ≡ record s { entries = changed n.key key (resting due) s.entries }) ok only (λ told. rw told goes)
