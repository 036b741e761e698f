-- A verdict, as the code goes through it over tracker and entries.
use Rattle.std.proofs.Common.{◌≡◌, refl, ap, ◌∙◌, sym, subst, ℕ, ◌+◌, ◌<◌, ◌^◌, Bool, true, false, cond, List, [], ◌∷◌, ◌++◌, Option, None, Some, IfSome, append-nil, arith, eq-eqb}
use Rattle.std.specs.Prelude.{is_none, nat_lt, ◌==◌, Result, Ok, Err}
use Rattle.std.specs.Option.{option_map, option_map_or, option_and_then}
use Rattle.std.specs.Result.{OnOk, IfErr}
use Rattle.std.specs.Prelude.{IsSome}
use Rattle.std.specs.Ordering.{nat_cmp}
use Rattle.std.specs.Map.{lookup, set_value, remove_entry, keys_of}
use Rattle.std.specs.BTreeMap.{insert_entry, is_at}
use Rattle.std.proofs.lemmas.Map.Made.{lookup-map_values}
use Rattle.std.proofs.lemmas.Map.{keys-set_value}
use Rattle.std.proofs.lemmas.Bool.{lt-ltb}
use Rattle.std.proofs.lemmas.Bool.Decides.{nat_tests}
use Rattle.resolver_types.specs.Names.{Names, same_key}
use Rattle.resolver_types.specs.Subscribers.{without}
use Rattle.resolver_types.specs.Table as tables
use Rattle.resolver_base.specs.declared.fault.Fault.{Fault}
use Rattle.resolver_base.specs.declared.fault.Fault.TheVariants as faults
use Rattle.resolver_types.specs.declared.outcome.Outcome.{Outcome}
use Rattle.resolver_types.specs.declared.outcome.Outcome.TheVariants.{Invalid, Resolved, Unresolved, Ignored}
use Rattle.resolver_types.specs.declared.outcome.Resolution.TheVariants.{Complete, Partial}
use Rattle.resolver_delivery.specs.Entries.{changed, changed_at, state_of, with_response, ended, numbered, accepted, removed, completed, completed_from, completion, completion_of, is_live, is_number, number_of, response_of, is_accepted, redelivered, begun_again, response_changed}
use Rattle.resolver_delivery.specs.declared.entry.Response.{Response}
use Rattle.resolver_delivery.specs.declared.entry.Open.{Open}
use Rattle.resolver_types.specs.declared.delivery.Delivery.{Delivery}
use Rattle.std.specs.declared.cmp.Ordering.{Ordering}
use Rattle.resolver_delivery.specs.declared.completion.Completion.{Completion}
use Rattle.resolver_delivery.specs.declared.completion.Aborted.{Aborted}
use Rattle.resolver_model.specs.declared.ruling.Ruling.TheVariants.{Serve, Retry, Retire}
use Rattle.resolver_model_opaque.specs.declared.phase.Stage.{Stage}
use Rattle.resolver_model_opaque.specs.declared.phase.Stage.TheVariants as stages
use Rattle.resolver_model_opaque.specs.declared.effects.Effect.{Effect}
use Rattle.resolver_model_opaque.specs.declared.effects.Effect.TheVariants.{Deliver}
use Rattle.resolver_model.specs.Account.{Handed}
use Rattle.resolver_model.specs.Verdicts.{ruling}
use Rattle.resolver_model.specs.declared.status.Status.{Status}
use Rattle.resolver_model_opaque.specs.Opaque.{Machine, Row, Done, quiet, hand_out, row_of, without_row, served, ruled, verdict, verdict_on, verdict_at, verdict_in}
use Rattle.resolver_model_opaque.specs.OpaquePhases.{Judged, Judging}
use Rattle.resolver_model_opaque.specs.OpaqueStages.{Kept, resting}
use Rattle.resolver_model_opaque.specs.OpaqueByPhase.{phase_in, phase_of}
use Rattle.resolver_model_opaque.specs.OpaqueTables.{has_cached, AreCached, Agree, rows_of, row_of as code_row_of, handed_of, machine_with}
use Rattle.resolver_delivery.specs.Again.{IsRefusal, flagged, handed_again}
use Rattle.resolver_model_opaque.specs.OpaqueSteps.{onto, Goes}
use Rattle.resolver_model.proofs.Mapped.{insert_entry-seen, remove_entry-seen}
use Rattle.resolver_model_opaque.proofs.Joined.{same_found, rows-found, rows-set_demand, rows-set_keys, rows-removed}
use Rattle.resolver_model_opaque.proofs.Written.{set-set, remove-set, lookup-set_self}
use Rattle.resolver_model_opaque.proofs.Agrees.{cached-at, cached-set, cached-changed, keys-changed, agree-removed, agree-demand, agree-keys}
use Rattle.std.specs.Cmp.{IsEquivalence}
use Rattle.std.proofs.Common.{◌||◌}
use Rattle.resolver_model_opaque.proofs.OpaqueGoing.{Entries, has}

same-eq : (m n : ℕ) → (m == n) ≡ true → m ≡ n
same-eq m n is = grind (arith, nat_tests)

flip-eq : (m n : ℕ) → (m == n) ≡ false → (n == m) ≡ false
flip-eq m n is = grind (arith, nat_tests)

module _ {K V S : Type 0} where
  -- memory was wanting, or no number is left
  pub goes-refused : (going : Option (Done K V S)) (before after : List (Effect K V S)) (m : Machine K V S) (next : ℕ) (fault : Fault)
      → IsRefusal next fault → (nat_lt next (2 ^ 64) ≡ false → going ≡ None) → Goes going before after m (Err fault)
  goes-refused going before after m next faults.OutOfMemory is none = tt
  goes-refused going before after m next faults.Exhausted is none = none is
  goes-refused going before after m next faults.Failed is none = absurd is
  goes-refused going before after m next faults.Ended is none = absurd is
  goes-refused going before after m next faults.Busy is none = absurd is
  goes-refused going before after m next faults.Unasked is none = absurd is
  goes-refused going before after m next faults.OutOfRange is none = absurd is
  goes-refused going before after m next faults.EndOfBuffer is none = absurd is
  goes-refused going before after m next faults.InvalidTag is none = absurd is
  goes-refused going before after m next faults.InvalidVarint is none = absurd is
  goes-refused going before after m next faults.ExtraData is none = absurd is
  goes-refused going before after m next faults.Key is none = absurd is
  goes-refused going before after m next faults.Uneven is none = absurd is

  -- a write in both parts
  pub rows-set_both : (test : K → Bool) (ts : List (K × List (S × ℕ))) (es : List (K × Kept V)) (x0 x : List (S × ℕ)) (y0 y : Kept V) → keys_of ts ≡ keys_of es
      → lookup test ts ≡ Some x0 → lookup test es ≡ Some y0
      → set_value test (rows_of ts es) (code_row_of (x, y)) ≡ rows_of (set_value test ts x) (set_value test es y)
  rows-set_both test ts es x0 x y0 y same first second =
      sym (set-set test (rows_of ts es) (code_row_of (x, y0)) (code_row_of (x, y)))
      ∙ (ap (λ rs. set_value test rs (code_row_of (x, y))) (rows-set_demand test ts es x y0 same second)
      ∙ rows-set_keys test (set_value test ts x) es x y (keys-set_value test ts x ∙ same) (lookup-set_self test ts x0 x first))

module _ {K V S : Type 0} (cmp : K → K → Ordering) where
  accepts-at : (key : K) (d : Entries K S V) (y : Kept V) (r : Response V (Unit {0})) → lookup (is_at (cmp key)) d.keys ≡ Some y → y.response ≡ Some r
      → response_changed cmp key accepted d ≡ record d { keys = set_value (is_at (cmp key)) d.keys (with_response (Some (accepted r)) y) }
  accepts-at key d y r found caches =
      ap (λ p. record d { keys = changed_at (is_at (cmp key)) p (λ e. with_response (option_map accepted e.response) e) d.keys }) found
      ∙ ap (λ p. record d { keys = set_value (is_at (cmp key)) d.keys (with_response (option_map accepted p) y) }) caches

  redelivered-at : (delivery : Delivery K S) (d : Entries K S V) (y : Kept V) (r : Response V (Unit {0})) → lookup (is_at (cmp delivery.key)) d.keys ≡ Some y → y.response ≡ Some r
      → redelivered cmp delivery d ≡ record {
        keys = set_value (is_at (cmp delivery.key)) d.keys (numbered d.next y);
        going = insert_entry nat_cmp d.going d.next (record { response = r.name; delivery = delivery; context = r.context; accepted = r.accepted });
        next = d.next + 1;
      }
  redelivered-at delivery d y r found caches =
      ap (λ p. begun_again cmp delivery p d) (ap (option_and_then (λ e. e.response)) found ∙ caches)
      ∙ ap (λ p. record {
        keys = changed_at (is_at (cmp delivery.key)) p (numbered d.next) d.keys;
        going = insert_entry nat_cmp d.going d.next (record { response = r.name; delivery = delivery; context = r.context; accepted = r.accepted });
        next = d.next + 1;
      }) found

-- served and not accepted: the response was not accepted before
serve-unaccepted : (flag : Bool) (outcome : Option Outcome) → Serve false ≡ ruling flag outcome → flag ≡ false
serve-unaccepted false outcome is = refl
serve-unaccepted true None is = cc
serve-unaccepted true (Some (Resolved Complete)) is = cc
serve-unaccepted true (Some (Resolved Partial)) is = cc
serve-unaccepted true (Some Unresolved) is = cc
serve-unaccepted true (Some Invalid) is = cc
serve-unaccepted true (Some Ignored) is = cc

module _ {K V S : Type 0} (n : Names K S) (ts : List (K × List (S × ℕ))) (d : Entries K S V) (agree : Agree n.key ts d.keys) (attempts delay : ℕ) (status : Status) (now number : ℕ) (outcome : Option Outcome) where
  abbrev m : Machine K V S
  m = machine_with ts d attempts delay status

  -- with the number open no more
  abbrev shut : Entries K S V
  shut = record d { going = remove_entry (is_at (nat_cmp number)) d.going }

  abbrev cm : Machine K V S
  cm = machine_with ts shut attempts delay status

  pub verdict-unknown : lookup (is_at (nat_cmp number)) d.going ≡ None → verdict n m now number outcome ≡ quiet m
  verdict-unknown none = ap (verdict_on n m now number outcome) (lookup-map_values handed_of (is_at (nat_cmp number)) d.going ∙ ap (option_map handed_of) none)

  verdict-known : (o : Open K S (Unit {0})) → lookup (is_at (nat_cmp number)) d.going ≡ Some o
      → verdict n m now number outcome ≡ verdict_at n cm now number (handed_of o) outcome (row_of n m o.delivery.key)
  verdict-known o found =
      ap (verdict_on n m now number outcome) (lookup-map_values handed_of (is_at (nat_cmp number)) d.going ∙ ap (option_map handed_of) found)
      ∙ ap (λ left. verdict_at n (record m { deliveries = left }) now number (handed_of o) outcome (row_of n m o.delivery.key)) (remove_entry-seen handed_of (is_at (nat_cmp number)) d.going)

  -- a verdict where the key has no delivery in progress, or another one
  dead-phase : (h : Handed K S) (row : Row V S) (stage : Stage) (k : Option ℕ) (response : Option (Response V (Unit {0}))) → is_number k number ≡ false
      → verdict_in n cm now number h outcome row (phase_in stage k response) ≡ quiet cm
  dead-phase h row (stages.Waiting due) None response dead = refl
  dead-phase h row (stages.Asked attempt) None response dead = refl
  dead-phase h row (stages.Waiting due) (Some k) None dead = refl
  dead-phase h row (stages.Asked attempt) (Some k) None dead = refl
  dead-phase h row stage (Some k) (Some r) dead =
      ap (λ b. cond b (ruled n cm now h row (record { number = k; response = r.name; value = r.value; accepted = r.accepted }) (ruling r.accepted outcome)) (quiet cm)) (flip-eq k number dead)

  verdict-dead : (o : Open K S (Unit {0})) → lookup (is_at (nat_cmp number)) d.going ≡ Some o → is_live n.key d number o ≡ false → verdict n m now number outcome ≡ quiet cm
  verdict-dead o found dead = verdict-known o found ∙ at (row_of n m o.delivery.key) refl
    where
      at : (p : Option (Row V S)) → row_of n m o.delivery.key ≡ p → verdict_at n cm now number (handed_of o) outcome p ≡ quiet cm
      at None is = refl
      at (Some row) is =
          let h = has n ts d.keys agree o.delivery.key row is in
          ap (λ r. verdict_in n cm now number (handed_of o) outcome row r.phase) h.is
          ∙ dead-phase (handed_of o) row h.entry.state h.entry.number h.entry.response (ap (λ p. is_number (option_and_then (λ e. e.number) p) number) (sym h.second) ∙ dead)

  -- the number was not open, or is canceled without a verdict
  pub aborted_goes : (e : Entries K S V) (aborted : Aborted) (before : List (Effect K V S)) → (Err aborted, e) ≡ completed n.key d number outcome
      → onto before (verdict n m now number outcome) ≡ Some (record { machine = machine_with ts e attempts delay status; effects = before })
  aborted_goes e aborted before is = at (lookup (is_at (nat_cmp number)) d.going) refl is
    where
      goal : Type 0
      goal = onto before (verdict n m now number outcome) ≡ Some (record { machine = machine_with ts e attempts delay status; effects = before })

      by_live : (o : Open K S (Unit {0})) → lookup (is_at (nat_cmp number)) d.going ≡ Some o → (b : Bool) → is_live n.key d number o ≡ b
          → ◌≡◌ {A = Result (Completion K S (Unit {0})) Aborted × Entries K S V} (Err aborted, e) (completion_of o outcome b, record (cond b (changed n.key o.delivery.key ended d) d) { going = remove_entry (is_at (nat_cmp number)) d.going }) → goal
      by_live o found true live is = let clash = ap (λ p. p.0) is in absurd (err-not-ok clash)
        where
          err-not-ok : Err aborted ≡ completion_of o outcome true → ⊥
          err-not-ok clash = cc
      by_live o found false dead is = let left : e ≡ shut = ap (λ p. p.1) is in rw (left, verdict-dead o found dead, append-nil) refl

      at : (p : Option (Open K S (Unit {0}))) → lookup (is_at (nat_cmp number)) d.going ≡ p → (Err aborted, e) ≡ completed_from n.key d number outcome p → goal
      at None found is = let left : e ≡ d = ap (λ p. p.1) is in rw (left, verdict-unknown found, append-nil) refl
      at (Some o) found is = by_live o found (is_live n.key d number o) refl is

  -- a verdict on a canceled number
  pub canceled_goes : (e : Entries K S V) (c : Completion K S (Unit {0})) (before : List (Effect K V S)) → (Ok c, e) ≡ completed n.key d number outcome → c.canceled ≡ true
      → onto before (verdict n m now number outcome) ≡ Some (record { machine = machine_with ts e attempts delay status; effects = before })
  canceled_goes e c before is canceled = at (lookup (is_at (nat_cmp number)) d.going) refl is
    where
      goal : Type 0
      goal = onto before (verdict n m now number outcome) ≡ Some (record { machine = machine_with ts e attempts delay status; effects = before })

      by_live : (o : Open K S (Unit {0})) → lookup (is_at (nat_cmp number)) d.going ≡ Some o → (b : Bool) → is_live n.key d number o ≡ b
          → ◌≡◌ {A = Result (Completion K S (Unit {0})) Aborted × Entries K S V} (Ok c, e) (completion_of o outcome b, record (cond b (changed n.key o.delivery.key ended d) d) { going = remove_entry (is_at (nat_cmp number)) d.going }) → goal
      by_live o found true live is = let same = ap (λ p. p.0) is in absurd (not-canceled same)
        where
          not-canceled : Ok c ≡ completion_of o outcome true → ⊥
          not-canceled same = let is : c ≡ completion o outcome false = cc in let clash = ap (λ c. c.canceled) is in cc
      by_live o found false dead is = let left : e ≡ shut = ap (λ p. p.1) is in rw (left, verdict-dead o found dead, append-nil) refl

      at : (p : Option (Open K S (Unit {0}))) → lookup (is_at (nat_cmp number)) d.going ≡ p → (Ok c, e) ≡ completed_from n.key d number outcome p → goal
      at None found is = let clash = ap (λ p. p.0) is in cc
      at (Some o) found is = by_live o found (is_live n.key d number o) refl is

  -- a number that is completed was open
  pub was-open : (e : Entries K S V) (c : Completion K S (Unit {0})) → (Ok c, e) ≡ completed n.key d number outcome → is_none (lookup (is_at (nat_cmp number)) m.deliveries) ≡ false
  was-open e c is = at (lookup (is_at (nat_cmp number)) d.going) refl is
    where
      at : (p : Option (Open K S (Unit {0}))) → lookup (is_at (nat_cmp number)) d.going ≡ p → (Ok c, e) ≡ completed_from n.key d number outcome p → is_none (lookup (is_at (nat_cmp number)) m.deliveries) ≡ false
      at None found is = let clash = ap (λ p. p.0) is in cc
      at (Some o) found is = ap is_none (lookup-map_values handed_of (is_at (nat_cmp number)) d.going ∙ ap (option_map handed_of) found)

  -- a verdict on the delivery in progress
  pub record Live (c : Completion K S (Unit {0})) (e : Entries K S V) : Type 0 where
    pub subscribers : List (S × ℕ)
    pub entry : Kept V
    pub response : Response V (Unit {0})
    pub first : lookup (same_key n c.delivery.key) ts ≡ Some subscribers
    pub second : lookup (same_key n c.delivery.key) d.keys ≡ Some entry
    pub caches : entry.response ≡ Some response
    pub left : e ≡ record shut { keys = set_value (same_key n c.delivery.key) d.keys (ended entry) }
    pub rules : verdict n m now number outcome
        ≡ ruled n cm now (record { response = c.response; key = c.delivery.key; subscribers = c.delivery.subscribers }) (code_row_of (subscribers, entry))
        (record { number = number; response = response.name; value = response.value; accepted = response.accepted }) (ruling response.accepted outcome)

  pub live : (e : Entries K S V) (c : Completion K S (Unit {0})) → (Ok c, e) ≡ completed n.key d number outcome → c.canceled ≡ false → Live c e
  live e c is going_on = at (lookup (is_at (nat_cmp number)) d.going) refl is
    where
      in_both : (o : Open K S (Unit {0})) → lookup (is_at (nat_cmp number)) d.going ≡ Some o → c ≡ completion o outcome false
          → e ≡ record (changed n.key o.delivery.key ended d) { going = remove_entry (is_at (nat_cmp number)) d.going }
          → (x : List (S × ℕ)) → lookup (same_key n o.delivery.key) ts ≡ Some x
          → (y : Kept V) → lookup (same_key n o.delivery.key) d.keys ≡ Some y → y.number ≡ Some number → (p : Option (Response V (Unit {0}))) → y.response ≡ p → has_cached y.number y.response → Live c e
      in_both o found same left x first y second numbered_so None caches cached = absurd (subst (λ k. has_cached {V = V} k None) numbered_so (subst (λ p. has_cached y.number p) caches cached))
      in_both o found same left x first y second numbered_so (Some r) caches cached =
          let key_is : c.delivery.key ≡ o.delivery.key = ap (λ c. c.delivery.key) same in
          let phase_is : phase_of y ≡ Judged (record { number = number; response = r.name; value = r.value; accepted = r.accepted }) = rw (numbered_so, caches) refl in
          subst (λ c. Live c e) (sym same) (record {
            subscribers = x;
            entry = y;
            response = r;
            first = first;
            second = second;
            caches = caches;
            left = left ∙ ap (λ p. record shut { keys = changed_at (same_key n o.delivery.key) p ended d.keys }) second;
            rules =
                verdict-known o found
                ∙ ap (verdict_at n cm now number (handed_of o) outcome) (rows-found (same_key n o.delivery.key) ts d.keys x y agree.same first second)
                ∙ ap (verdict_in n cm now number (handed_of o) outcome (code_row_of (x, y))) phase_is
                ∙ ap (λ b. cond b (ruled n cm now (handed_of o) (code_row_of (x, y)) (record { number = number; response = r.name; value = r.value; accepted = r.accepted }) (ruling r.accepted outcome)) (quiet cm)) (eq-eqb number number refl);
          })

      with_entry : (o : Open K S (Unit {0})) → lookup (is_at (nat_cmp number)) d.going ≡ Some o → c ≡ completion o outcome false
          → e ≡ record (changed n.key o.delivery.key ended d) { going = remove_entry (is_at (nat_cmp number)) d.going } → is_live n.key d number o ≡ true
          → (q : Option (List (S × ℕ))) → lookup (same_key n o.delivery.key) ts ≡ q → (p : Option (Kept V)) → lookup (same_key n o.delivery.key) d.keys ≡ p → Live c e
      with_entry o found same left live q first None second = let clash = ap (λ p. is_number (option_and_then (λ e. e.number) p) number) (sym second) ∙ live in cc
      with_entry o found same left live None first (Some y) second = let both = same_found (same_key n o.delivery.key) ts d.keys agree.same in cc
      with_entry o found same left live (Some x) first (Some y) second =
          let is = ap (λ p. is_number (option_and_then (λ e. e.number) p) number) (sym second) ∙ live in
          in_both o found same left x first y second (number_is y.number is) y.response refl (cached-at (same_key n o.delivery.key) d.keys y agree.cached second)
        where
          number_is : (k : Option ℕ) → is_number k number ≡ true → k ≡ Some number
          number_is None is = cc
          number_is (Some k) is = ap Some (same-eq k number is)

      by_live : (o : Open K S (Unit {0})) → lookup (is_at (nat_cmp number)) d.going ≡ Some o → (b : Bool) → is_live n.key d number o ≡ b
          → ◌≡◌ {A = Result (Completion K S (Unit {0})) Aborted × Entries K S V} (Ok c, e) (completion_of o outcome b, record (cond b (changed n.key o.delivery.key ended d) d) { going = remove_entry (is_at (nat_cmp number)) d.going }) → Live c e
      by_live o found true live is =
          let same = ap (λ p. p.0) is in
          with_entry o found (completion_is same) (ap (λ p. p.1) is) live (lookup (same_key n o.delivery.key) ts) refl (lookup (same_key n o.delivery.key) d.keys) refl
        where
          completion_is : Ok c ≡ completion_of o outcome true → c ≡ completion o outcome false
          completion_is same = cc
      by_live o found false dead is = absurd (canceled outcome (ap (λ p. p.0) is))
        where
          canceled : (verdict : Option Outcome) → Ok c ≡ completion_of o verdict false → ⊥
          canceled None same = cc
          canceled (Some v) same = let is : c ≡ completion o (Some v) true = cc in let clash = ap (λ c. c.canceled) is in cc

      at : (p : Option (Open K S (Unit {0}))) → lookup (is_at (nat_cmp number)) d.going ≡ p → (Ok c, e) ≡ completed_from n.key d number outcome p → Live c e
      at None found is = let clash = ap (λ p. p.0) is in cc
      at (Some o) found is = by_live o found (is_live n.key d number o) refl is

  module _ (c : Completion K S (Unit {0})) (e : Entries K S V) (l : Live c e) where
    found-left : lookup (same_key n c.delivery.key) e.keys ≡ Some (ended l.entry)
    found-left = ap (λ e. lookup (same_key n c.delivery.key) e.keys) l.left ∙ lookup-set_self (same_key n c.delivery.key) d.keys l.entry (ended l.entry) l.second

    pub response-left : response_of n.key e c.delivery.key ≡ Some l.response
    response-left = ap (option_and_then (λ e. e.response)) found-left ∙ l.caches

    pub number-left : number_of n.key e c.delivery.key ≡ None
    number-left = ap (option_and_then (λ e. e.number)) found-left

    pub accepted-left : is_accepted n.key e c.delivery.key ≡ l.response.accepted
    accepted-left = ap (λ p. option_map_or (λ r. r.accepted) p false) response-left

    pub agree-left : Agree n.key ts e.keys
    agree-left = record {
      same = agree.same ∙ sym (ap (λ e. keys_of e.keys) l.left ∙ keys-set_value (same_key n c.delivery.key) d.keys (ended l.entry));
      distinct = agree.distinct;
      cached = subst (λ e. AreCached e.keys) (sym l.left) (cached-set (same_key n c.delivery.key) d.keys (ended l.entry) agree.cached tt);
    }

    abbrev h : Handed K S
    h = record { response = c.response; key = c.delivery.key; subscribers = c.delivery.subscribers }

    -- the key and its row go
    gone_is : without_row n cm c.delivery.key ≡ machine_with (tables.without_key n c.delivery.key ts) (removed n.key c.delivery.key e) attempts delay status
    gone_is =
        ap (λ rows. record cm { rows = rows }) (rows-removed (same_key n c.delivery.key) ts d.keys agree.same)
        ∙ ap (λ keys. machine_with (tables.without_key n c.delivery.key ts) (record shut { keys = keys }) attempts delay status) (sym (remove-set (same_key n c.delivery.key) d.keys (ended l.entry)))
        ∙ ap (λ e. machine_with (tables.without_key n c.delivery.key ts) (removed n.key c.delivery.key e) attempts delay status) (sym l.left)

    pub retire_goes : (before : List (Effect K V S)) → Retire ≡ ruling (is_accepted n.key e c.delivery.key) outcome
        → onto before (verdict n m now number outcome)
        ≡ Some (record { machine = machine_with (tables.without_key n c.delivery.key ts) (removed n.key c.delivery.key e) attempts delay status; effects = before })
    retire_goes before is = rw (l.rules, ← accepted-left, ← is, append-nil, gone_is) refl

    pub retry_goes : (due : ℕ) (before : List (Effect K V S)) → due ≡ now + delay → Retry ≡ ruling (is_accepted n.key e c.delivery.key) outcome
        → onto before (verdict n m now number outcome)
        ≡ Some (record { machine = machine_with ts (changed n.key c.delivery.key (resting due) e) attempts delay status; effects = before })
    retry_goes due before later is =
        let put = rows-set_keys (same_key n c.delivery.key) ts d.keys l.subscribers (resting (now + delay) (ended l.entry)) agree.same l.first in
        let twice = set-set (same_key n c.delivery.key) d.keys (ended l.entry) (resting (now + delay) (ended l.entry)) in
        rw (l.rules, ← accepted-left, ← is, append-nil, later, found-left, put, l.left, twice) refl

    rest_is : tables.rest_of n c.delivery.key c.delivery.subscribers ts ≡ tables.some_of (without n.subscriber c.delivery.subscribers l.subscribers)
    rest_is = ap (option_and_then (λ xs. tables.some_of (without n.subscriber c.delivery.subscribers xs))) l.first

    left_is : tables.without_named n c.delivery.key c.delivery.subscribers ts ≡ tables.left_with n c.delivery.key (without n.subscriber c.delivery.subscribers l.subscribers) ts
    left_is = ap (tables.without_these n c.delivery.key c.delivery.subscribers ts) l.first

    -- nobody is left
    pub served_goes : (accepts : Bool) (before : List (Effect K V S)) → Serve accepts ≡ ruling (is_accepted n.key e c.delivery.key) outcome
        → None ≡ tables.rest_of n c.delivery.key c.delivery.subscribers ts
        → onto before (verdict n m now number outcome)
        ≡ Some (record { machine = machine_with (tables.without_named n c.delivery.key c.delivery.subscribers ts) (removed n.key c.delivery.key e) attempts delay status; effects = before })
    served_goes accepts before is none =
        rw (l.rules, ← accepted-left, ← is, left_is) (at (without n.subscriber c.delivery.subscribers l.subscribers) (none ∙ rest_is))
      where
        j : Judging V
        j = record { number = number; response = l.response.name; value = l.response.value; accepted = l.response.accepted }

        at : (rest : List (S × ℕ)) → None ≡ tables.some_of rest
            → onto before (served n cm h j accepts rest) ≡ Some (record { machine = machine_with (tables.left_with n c.delivery.key rest ts) (removed n.key c.delivery.key e) attempts delay status; effects = before })
        at [] none = rw (append-nil, gone_is) refl
        at (s ∷ rest) none = cc

    -- the rest get the response again
    serves_is : (accepts : Bool) (rest : List (S × ℕ)) → Serve accepts ≡ ruling (is_accepted n.key e c.delivery.key) outcome
        → Some rest ≡ tables.rest_of n c.delivery.key c.delivery.subscribers ts
        → (verdict n m now number outcome ≡ hand_out n cm c.delivery.key rest l.response.name l.response.value accepts)
        × (tables.without_named n c.delivery.key c.delivery.subscribers ts ≡ set_value (same_key n c.delivery.key) ts rest)
    serves_is accepts rest is some =
        (rw (l.rules, ← accepted-left, ← is) (at (without n.subscriber c.delivery.subscribers l.subscribers) (some ∙ rest_is)).0, left_is ∙ (at (without n.subscriber c.delivery.subscribers l.subscribers) (some ∙ rest_is)).1)
      where
        j : Judging V
        j = record { number = number; response = l.response.name; value = l.response.value; accepted = l.response.accepted }

        at : (left : List (S × ℕ)) → Some rest ≡ tables.some_of left
            → (served n cm h j accepts left ≡ hand_out n cm c.delivery.key rest l.response.name l.response.value accepts)
            × (tables.left_with n c.delivery.key left ts ≡ set_value (same_key n c.delivery.key) ts rest)
        at [] some = cc
        at (s ∷ ss) some = let same : rest ≡ s ∷ ss = cc in rw same (refl, refl)

    pub serve_refused : (accepts : Bool) (rest : List (S × ℕ)) → Serve accepts ≡ ruling (is_accepted n.key e c.delivery.key) outcome
        → Some rest ≡ tables.rest_of n c.delivery.key c.delivery.subscribers ts
        → nat_lt e.next (2 ^ 64) ≡ false → verdict n m now number outcome ≡ None
    serve_refused accepts rest is some full =
        (serves_is accepts rest is some).0 ∙ at (nat_lt d.next (2 ^ 64)) (ap (λ e. nat_lt e.next (2 ^ 64)) (sym l.left) ∙ full) _
      where
        at : (b : Bool) → b ≡ false → (x : Done K V S) → cond b (Some x) None ≡ None
        at b is x = rw is refl

    abbrev final : Bool → Kept V
    final accepts = record (ended l.entry) { number = Some d.next; response = Some (record l.response { accepted = accepts }) }

    abbrev after_end : Entries K S V
    after_end = record shut { keys = set_value (same_key n c.delivery.key) d.keys (ended l.entry) }

    found_end : lookup (same_key n c.delivery.key) after_end.keys ≡ Some (ended l.entry)
    found_end = lookup-set_self (same_key n c.delivery.key) d.keys l.entry (ended l.entry) l.second

    abbrev taken : Kept V
    taken = with_response (Some (accepted l.response)) (ended l.entry)

    abbrev put_in : (rest : List (S × ℕ)) → Bool → List (K × Kept V) → Entries K S V
    put_in rest accepts keys = record {
      keys = keys;
      going = insert_entry nat_cmp (remove_entry (is_at (nat_cmp number)) d.going) d.next (record { response = l.response.name; delivery = record { key = c.delivery.key; subscribers = rest }; context = tt; accepted = accepts });
      next = d.next + 1;
    }

    handed_is : (accepts : Bool) (rest : List (S × ℕ)) → Serve accepts ≡ ruling (is_accepted n.key e c.delivery.key) outcome
        → handed_again n.key (record { key = c.delivery.key; subscribers = rest }) accepts e
        ≡ record {
          keys = set_value (same_key n c.delivery.key) d.keys (final accepts);
          going = insert_entry nat_cmp (remove_entry (is_at (nat_cmp number)) d.going) d.next (record { response = l.response.name; delivery = record { key = c.delivery.key; subscribers = rest }; context = tt; accepted = accepts });
          next = d.next + 1;
        }
    handed_is true rest is =
        ap (handed_again n.key (record { key = c.delivery.key; subscribers = rest }) true) l.left
        ∙ (ap (redelivered n.key (record { key = c.delivery.key; subscribers = rest })) (accepts-at n.key c.delivery.key after_end (ended l.entry) l.response found_end l.caches)
        ∙ (redelivered-at n.key (record { key = c.delivery.key; subscribers = rest }) (record after_end { keys = set_value (same_key n c.delivery.key) after_end.keys taken }) taken (accepted l.response)
        (lookup-set_self (same_key n c.delivery.key) after_end.keys (ended l.entry) taken found_end) refl
        ∙ ap (put_in rest true)
        (set-set (same_key n c.delivery.key) after_end.keys taken (numbered d.next taken) ∙ set-set (same_key n c.delivery.key) d.keys (ended l.entry) (numbered d.next taken))))
    handed_is false rest is =
        let flag : l.response.accepted ≡ false = sym accepted-left ∙ serve-unaccepted (is_accepted n.key e c.delivery.key) outcome is in
        let same : l.response ≡ record l.response { accepted = false } = ap (λ b. record l.response { accepted = b }) flag in
        ap (handed_again n.key (record { key = c.delivery.key; subscribers = rest }) false) l.left
        ∙ (redelivered-at n.key (record { key = c.delivery.key; subscribers = rest }) after_end (ended l.entry) l.response found_end l.caches
        ∙ (ap (put_in rest l.response.accepted) (set-set (same_key n c.delivery.key) d.keys (ended l.entry) (numbered d.next (ended l.entry)))
        ∙ (ap (λ p. put_in rest l.response.accepted (set_value (same_key n c.delivery.key) d.keys (with_response p (numbered d.next (ended l.entry))))) (l.caches ∙ ap Some same)
        ∙ ap (λ b. put_in rest b (set_value (same_key n c.delivery.key) d.keys (final false))) flag)))

    pub serve_goes : (accepts : Bool) (rest : List (S × ℕ)) (before after : List (Effect K V S)) (us : List (K × List (S × ℕ))) (f : Entries K S V)
        → Serve accepts ≡ ruling (is_accepted n.key e c.delivery.key) outcome
        → Some rest ≡ tables.rest_of n c.delivery.key c.delivery.subscribers ts
        → us ≡ tables.without_named n c.delivery.key c.delivery.subscribers ts
        → f ≡ handed_again n.key (record { key = c.delivery.key; subscribers = rest }) accepts e
        → e.next < 2 ^ 64
        → IfSome (response_of n.key e c.delivery.key) (λ r. after ≡ before ++ Deliver e.next r.name (record { key = c.delivery.key; subscribers = rest }) r.value ∷ [])
        → onto before (verdict n m now number outcome) ≡ Some (record { machine = machine_with us f attempts delay status; effects = after })
    serve_goes accepts rest before after us f is some left again room told =
        let told' : after ≡ before ++ Deliver e.next l.response.name (record { key = c.delivery.key; subscribers = rest }) l.response.value ∷ [] = rw response-left at told in
        let next_is : e.next ≡ d.next = ap (λ e. e.next) l.left in
        let put = rows-set_both (same_key n c.delivery.key) ts d.keys l.subscribers rest l.entry (final accepts) agree.same l.first l.second in
        let opened = insert_entry-seen handed_of nat_cmp (remove_entry (is_at (nat_cmp number)) d.going) d.next (record { response = l.response.name; delivery = record { key = c.delivery.key; subscribers = rest }; context = tt; accepted = accepts }) in
        let fits : nat_lt d.next (2 ^ 64) ≡ true = ap (λ k. nat_lt k (2 ^ 64)) (sym next_is) ∙ lt-ltb e.next (2 ^ 64) room in
        rw ((serves_is accepts rest is some).0, fits, left, (serves_is accepts rest is some).1, again, handed_is accepts rest is, told', next_is, put, opened) refl

    pub serve_result : (accepts : Bool) (rest : List (S × ℕ)) (before after : List (Effect K V S)) (us : List (K × List (S × ℕ))) (f : Entries K S V) (result : Result (Unit {0}) Fault)
        → Serve accepts ≡ ruling (is_accepted n.key e c.delivery.key) outcome
        → Some rest ≡ tables.rest_of n c.delivery.key c.delivery.subscribers ts
        → us ≡ tables.without_named n c.delivery.key c.delivery.subscribers ts
        → OnOk result (f ≡ handed_again n.key (record { key = c.delivery.key; subscribers = rest }) accepts e)
        → OnOk result (IfSome (response_of n.key e c.delivery.key) (λ r. after ≡ before ++ Deliver e.next r.name (record { key = c.delivery.key; subscribers = rest }) r.value ∷ []))
        → OnOk result (e.next < 2 ^ 64)
        → IfErr result (λ fault. IsRefusal e.next fault)
        → Goes (verdict n m now number outcome) before after (machine_with us f attempts delay status) result
    serve_result accepts rest before after us f (Ok done) is some left again told room only = serve_goes accepts rest before after us f is some left again room told
    serve_result accepts rest before after us f (Err fault) is some left again told room only =
        goes-refused (verdict n m now number outcome) before after (machine_with us f attempts delay status) e.next fault only (serve_refused accepts rest is some)

    pub agree-gone : (laws : IsEquivalence (same_key n)) (us : List (K × List (S × ℕ))) (f : Entries K S V) → us ≡ tables.without_key n c.delivery.key ts → f ≡ removed n.key c.delivery.key e → Agree n.key us f.keys
    agree-gone laws us f gone let_go = rw (gone, let_go) (agree-removed n laws (same_key n c.delivery.key) ts e.keys agree-left)

    pub agree-served : (laws : IsEquivalence (same_key n)) (us : List (K × List (S × ℕ))) (f : Entries K S V) → us ≡ tables.without_named n c.delivery.key c.delivery.subscribers ts
        → None ≡ tables.rest_of n c.delivery.key c.delivery.subscribers ts → f ≡ removed n.key c.delivery.key e → Agree n.key us f.keys
    agree-served laws us f left none let_go = agree-gone laws us f (left ∙ (left_is ∙ at (without n.subscriber c.delivery.subscribers l.subscribers) (none ∙ rest_is))) let_go
      where
        at : (rest : List (S × ℕ)) → None ≡ tables.some_of rest → tables.left_with n c.delivery.key rest ts ≡ tables.without_key n c.delivery.key ts
        at [] none = refl
        at (s ∷ rest) none = cc

    pub agree-serve : (us : List (K × List (S × ℕ))) (f : Entries K S V) (rest : List (S × ℕ)) → us ≡ tables.without_named n c.delivery.key c.delivery.subscribers ts
        → Some rest ≡ tables.rest_of n c.delivery.key c.delivery.subscribers ts → keys_of f.keys ≡ keys_of e.keys → (AreCached e.keys → AreCached f.keys) → Agree n.key us f.keys
    agree-serve us f rest left some keys cached =
        agree-demand n.key ts us f.keys (agree-keys n.key ts e.keys f.keys agree-left keys (cached agree-left.cached))
        (ap keys_of (left ∙ (left_is ∙ at (without n.subscriber c.delivery.subscribers l.subscribers) (some ∙ rest_is))) ∙ keys-set_value (same_key n c.delivery.key) ts rest)
      where
        at : (left : List (S × ℕ)) → Some rest ≡ tables.some_of left → tables.left_with n c.delivery.key left ts ≡ set_value (same_key n c.delivery.key) ts rest
        at [] some = cc
        at (s ∷ ss) some = let same : rest ≡ s ∷ ss = cc in rw same refl

module _ {V : Type 0} where
  has-flagged : (number : Option ℕ) (response : Option (Response V (Unit {0}))) → has_cached number response → has_cached number (option_map accepted response)
  has-flagged None response is = tt
  has-flagged (Some k) None is = absurd is
  has-flagged (Some k) (Some r) is = tt

-- what handing out again leaves of the keys
module _ {K V S : Type 0} (cmp : K → K → Ordering) where
  pub keys-flagged : (accepts : Bool) (key : K) (d : Entries K S V) → keys_of (flagged cmp accepts key d).keys ≡ keys_of d.keys
  keys-flagged true key d = keys-changed (is_at (cmp key)) d.keys (λ e. with_response (option_map accepted e.response) e)
  keys-flagged false key d = refl

  pub cached-flagged : (accepts : Bool) (key : K) (d : Entries K S V) → AreCached d.keys → AreCached (flagged cmp accepts key d).keys
  cached-flagged true key d cached = cached-changed (is_at (cmp key)) d.keys (λ e. with_response (option_map accepted e.response) e) (λ e has. has-flagged e.number e.response has) cached
  cached-flagged false key d cached = cached

  pub keys-redelivered : (delivery : Delivery K S) (d : Entries K S V) → keys_of (redelivered cmp delivery d).keys ≡ keys_of d.keys
  keys-redelivered delivery d = at (response_of cmp d delivery.key)
    where
      at : (p : Option (Response V (Unit {0}))) → keys_of (begun_again cmp delivery p d).keys ≡ keys_of d.keys
      at None = refl
      at (Some r) = keys-changed (is_at (cmp delivery.key)) d.keys (numbered d.next)

  pub cached-redelivered : (delivery : Delivery K S) (d : Entries K S V) (r : Response V (Unit {0})) → response_of cmp d delivery.key ≡ Some r → AreCached d.keys → AreCached (redelivered cmp delivery d).keys
  cached-redelivered delivery d r is cached = at (lookup (is_at (cmp delivery.key)) d.keys) refl is
    where
      caches : (y : Kept V) → y.response ≡ Some r → has_cached (Some d.next) y.response
      caches y is = rw is tt

      at : (o : Option (Kept V)) → lookup (is_at (cmp delivery.key)) d.keys ≡ o → option_and_then (λ e. e.response) o ≡ Some r → AreCached (redelivered cmp delivery d).keys
      at None found is = cc
      at (Some y) found is =
          subst (λ e. AreCached e.keys) (sym (redelivered-at cmp delivery d y r found is)) (cached-set (is_at (cmp delivery.key)) d.keys (numbered d.next y) cached (caches y is))
