-- Each step of the opaque machine changes what it stands at as the account of the inputs taken says.
use Rattle.std.proofs.Common.{◌≡◌, ◌≢◌, refl, ap, sym, ◌∙◌, subst, ℕ, ◌+◌, ◌^◌, eq-eqb, ne_eqb, Bool, true, false, cond, List, [], ◌∷◌, ◌++◌, map, filter, find, Option, None, Some, IfSome}
use Rattle.std.specs.Prelude.{nat_lt, nat_le, not}
use Rattle.std.specs.Option.{option_map}
use Rattle.std.specs.List.{IsDistinct}
use Rattle.std.specs.Map.{lookup, set_value, keys_of}
use Rattle.std.specs.BTreeMap.{insert_entry, is_at}
use Rattle.std.specs.Ordering.{nat_cmp}
use Rattle.std.specs.Cmp.{IsEquivalence}
use Rattle.std.proofs.lemmas.Map.Made.{lookup-map_values}
use Rattle.resolver_types.specs.Names.{Names, same_key}
use Rattle.resolver_types.specs.Subscribers.{attached_all, without}
use Rattle.resolver_types.specs.declared.outcome.Outcome.{Outcome}
use Rattle.resolver_model.specs.declared.ruling.Ruling.{Ruling}
use Rattle.resolver_model.specs.declared.ruling.Ruling.TheVariants.{Serve, Retry, Retire}
use Rattle.resolver_model_opaque.specs.declared.effects.Effect.{Effect}
use Rattle.resolver_model_opaque.specs.declared.effects.Effect.TheVariants.{Start, Abort, Deliver, Cancel}
use Rattle.resolver_model.specs.Verdicts.{ruling}
use Rattle.resolver_model.specs.Account.{Account, Handed, Watched, Change, Adds, Keeps, Judges, Empties, Leaves, account_after, account_of}
use Rattle.resolver_model.specs.Standing.{served_again, Standing, Held, Judgment, asks, asks_one, keeps, prunes, has_any, hands, closes, serves, ends, rules, ruled_out}
use Rattle.resolver_model_opaque.specs.Opaque.{Machine, Row, Done, Item, Event, Fetch, Retain, Fetched, Verdict, RetriesDue, End, quiet, and_then, called_off, all_called_off, pruned, has_subscribers, retain, closed, placed, placed_if_due, waiting_by_due, end, start_again, hand_out, fetch_one, fetch, fetched_for, fetched, served, ruled, verdict_in, verdict_at, verdict_on, verdict, start_all, does, row_of, with_row, with_new_row}
use Rattle.resolver_model_opaque.specs.OpaquePhases.{Phase, Waiting, Asked, Judged, Judging, is_asked_by}
use Rattle.resolver_model_opaque.specs.OpaqueStanding.{judgment_of, held_of, standing_of}
use Rattle.resolver_model_opaque.specs.OpaqueLaws.{change_of, handed_out}
use Rattle.std.proofs.Common.{Result, Ok, Err}
use Rattle.resolver_base.specs.declared.fault.Fault.{Fault}
use Rattle.resolver_base.specs.declared.fault.Fault.TheVariants as faults
use Rattle.resolver_model.specs.declared.status.Status.{Status}
use Rattle.resolver_model.specs.declared.status.Status.TheVariants.{Running, Ended, Failed}
use Rattle.resolver_model_opaque.specs.Opaque.{step_in, step_done}
use Rattle.resolver_model_opaque.specs.OpaqueSteps.{Input, Runs}
use Rattle.resolver_model_opaque.specs.OpaqueLaws.{taken, demanded}
use Rattle.resolver_model.specs.Account.{nothing_asked}
use Rattle.resolver_model.specs.Account.{table}
use Rattle.resolver_model_opaque.specs.Opaque.{opening}
use Rattle.resolver_model.proofs.Tallies.{opening-tallies}
use Rattle.resolver_model.proofs.Mapped.{seen, set_value-seen, insert_entry-seen, remove_entry-seen}
use Rattle.resolver_model.specs.Lawful.{Each}
use Rattle.resolver_model.proofs.Deliveries.{Each-find, Each-lookup}
use Rattle.std.proofs.lemmas.Map.Steps.{set_value_same}
use Rattle.resolver_model.proofs.Rows.{each_found}
use Rattle.resolver_model.proofs.Tallies.{Tallies, Fits, judging_in, judging_of, stays, asks-tallies, keeps-tallies, ends-tallies, hands-tallies, closes-tallies, rules-tallies, judged_at, was_completed, remove_entry-absent}

module _ {K V S : Type 0} where
  handed_out-append : (xs ys : List (Effect K V S)) → handed_out (xs ++ ys) ≡ handed_out xs ++ handed_out ys
  handed_out-append [] ys = refl
  handed_out-append (Start attempt key ∷ xs) ys = handed_out-append xs ys
  handed_out-append (Abort attempt ∷ xs) ys = handed_out-append xs ys
  handed_out-append (Deliver number response delivery value ∷ xs) ys =
      ap (λ rest. (number, record { response = response; key = delivery.key; subscribers = delivery.subscribers }) ∷ rest) (handed_out-append xs ys)
  handed_out-append (Cancel number ∷ xs) ys = handed_out-append xs ys

  none-append : (xs ys : List (Effect K V S)) → handed_out xs ≡ [] → handed_out ys ≡ [] → handed_out (xs ++ ys) ≡ []
  none-append xs ys none nor = handed_out-append xs ys ∙ (ap (λ hs. hs ++ handed_out ys) none ∙ nor)

  -- what is called off hands nothing out
  called_off-none : (p : Phase V) → handed_out (called_off {K = K} {V = V} {S = S} p) ≡ []
  called_off-none (Waiting due) = refl
  called_off-none (Asked attempt) = refl
  called_off-none (Judged j) = refl

  all_called_off-none : (rows : List (K × Row V S)) → handed_out (all_called_off rows) ≡ []
  all_called_off-none [] = refl
  all_called_off-none (r ∷ rs) = none-append (called_off r.1.phase) (all_called_off rs) (called_off-none r.1.phase) (all_called_off-none rs)

  -- what holds of a part of a step, and then of the next
  then_holds : (P Q : Done K V S → Type 0) (first : Option (Done K V S)) (next : Machine K V S → Option (Done K V S)) → IfSome first P
      → ((d : Done K V S) → P d → IfSome (next d.machine) (λ e. Q (record { machine = e.machine; effects = d.effects ++ e.effects })))
      → IfSome (and_then first next) Q
  then_holds P Q None next holds goes_on = tt
  then_holds P Q (Some d) next holds goes_on = at (next d.machine) (goes_on d holds)
    where
      at : (o : Option (Done K V S)) → IfSome o (λ e. Q (record { machine = e.machine; effects = d.effects ++ e.effects }))
          → IfSome (and_then (Some (record { machine = d.machine; effects = d.effects })) (λ m. o)) Q
      at None holds = tt
      at (Some e) holds = holds

  -- The machine stands there then, and has handed this out.
  abbrev Comes : Standing K S → List (ℕ × Handed K S) → Done K V S → Type 0
  Comes t handed d = (standing_of d.machine ≡ t) × (handed_out d.effects ≡ handed)

  retain-rows : (keep : K → S → Bool) (rows : List (K × Row V S))
      → seen held_of (filter has_subscribers (map (pruned keep) rows)) ≡ filter has_any (map (prunes keep) (seen held_of rows))
  retain-rows keep [] = refl
  retain-rows keep (r ∷ rs) = at (retain-rows keep rs) (has_subscribers (pruned keep r))
    where
      at : seen held_of (filter has_subscribers (map (pruned keep) rs)) ≡ filter has_any (map (prunes keep) (seen held_of rs)) → (b : Bool)
          → seen held_of (cond b (pruned keep r ∷ filter has_subscribers (map (pruned keep) rs)) (filter has_subscribers (map (pruned keep) rs)))
          ≡ cond b ((r.0, held_of (pruned keep r).1) ∷ filter has_any (map (prunes keep) (seen held_of rs))) (filter has_any (map (prunes keep) (seen held_of rs)))
      at rest true = ap (λ es. (r.0, held_of (pruned keep r).1) ∷ es) rest
      at rest false = rest

module _ {K V S : Type 0} (n : Names K S) where
  fetch_one-comes : (m : Machine K V S) (item : Item K S) (row : Option (Row V S))
      → IfSome (fetch_one n m item row) (Comes (record (standing_of m) { rows = asks_one n (seen held_of m.rows) (item.key, item.subscribers) (option_map held_of row) }) [])
  fetch_one-comes m item (Some row) =
      (ap (λ rows. record (standing_of m) { rows = rows }) (sym (set_value-seen held_of (same_key n item.key) m.rows (record row { subscribers = attached_all n.subscriber row.subscribers item.subscribers }))), refl)
  fetch_one-comes m item None = at (nat_lt m.next_attempt (2 ^ 64))
    where
      at : (b : Bool) → IfSome (cond b (Some (record {
        machine = record (with_new_row n m item.key (record { subscribers = attached_all n.subscriber [] item.subscribers; phase = Asked m.next_attempt })) { next_attempt = m.next_attempt + 1 };
        effects = Start m.next_attempt item.key ∷ [];
      })) None) (Comes (record (standing_of m) { rows = asks_one n (seen held_of m.rows) (item.key, item.subscribers) None }) [])
      at true = (ap (λ rows. record (standing_of m) { rows = rows }) (sym (insert_entry-seen held_of n.key m.rows item.key (record { subscribers = attached_all n.subscriber [] item.subscribers; phase = Asked m.next_attempt }))), refl)
      at false = tt

  fetch-comes : (m : Machine K V S) (items : List (Item K S))
      → IfSome (fetch n m items) (Comes (record (standing_of m) { rows = asks n (seen held_of m.rows) (map (λ item. (item.key, item.subscribers)) items) }) [])
  fetch-comes m [] = (refl, refl)
  fetch-comes m (item ∷ items) =
      then_holds (Comes first []) (Comes last []) (fetch_one n m item (row_of n m item.key)) (λ next. fetch n next items)
      (fetch_one-comes m item (row_of n m item.key)) (λ d comes. go d comes (fetch-comes d.machine items))
    where
      first : Standing K S
      first = record (standing_of m) { rows = asks_one n (seen held_of m.rows) (item.key, item.subscribers) (option_map held_of (row_of n m item.key)) }

      last : Standing K S
      last = record (standing_of m) { rows = asks n (seen held_of m.rows) (map (λ item. (item.key, item.subscribers)) (item ∷ items)) }

      go : (d : Done K V S) → Comes first [] d
          → IfSome (fetch n d.machine items) (Comes (record (standing_of d.machine) { rows = asks n (seen held_of d.machine.rows) (map (λ item. (item.key, item.subscribers)) items) }) [])
          → IfSome (fetch n d.machine items) (λ e. Comes last [] (record { machine = e.machine; effects = d.effects ++ e.effects }))
      go d comes rest = at (fetch n d.machine items) rest
        where
          asking : Standing K S → Standing K S
          asking t = record t { rows = asks n t.rows (map (λ item. (item.key, item.subscribers)) items) }

          asking_first : Option (Held S) → Standing K S
          asking_first found = record (standing_of m) { rows = asks n (asks_one n (seen held_of m.rows) (item.key, item.subscribers) found) (map (λ item. (item.key, item.subscribers)) items) }

          same : asking (standing_of d.machine) ≡ last
          same = ap asking comes.0
              ∙ ap asking_first
              (sym (lookup-map_values held_of (same_key n item.key) m.rows))

          at : (o : Option (Done K V S)) → IfSome o (Comes (record (standing_of d.machine) { rows = asks n (seen held_of d.machine.rows) (map (λ item. (item.key, item.subscribers)) items) }) [])
              → IfSome o (λ e. Comes last [] (record { machine = e.machine; effects = d.effects ++ e.effects }))
          at None holds = tt
          at (Some e) holds = (holds.0 ∙ same, none-append d.effects e.effects comes.1 holds.1)

  -- the rows are found by their keys
  found_rows : (m : Machine K V S) → IsEquivalence (same_key n) → IsDistinct (same_key n) (keys_of (standing_of m).rows)
      → Each (λ r. lookup (same_key n r.0) (seen held_of m.rows) ≡ Some (held_of r.1)) m.rows
  found_rows m laws distinct = unmap m.rows (each_found n laws (seen held_of m.rows) distinct)
    where
      unmap : (rs : List (K × Row V S)) → Each (λ e. lookup (same_key n e.0) (seen held_of m.rows) ≡ Some e.1) (seen held_of rs)
          → Each (λ r. lookup (same_key n r.0) (seen held_of m.rows) ≡ Some (held_of r.1)) rs
      unmap [] ps = tt
      unmap (r ∷ rs) ps = (ps.0, unmap rs ps.1)

  -- a number is left for what is handed out
  hand_out-comes : (m : Machine K V S) (key : K) (subscribers : List (S × ℕ)) (response : ℕ) (value : V) (accepted : Bool)
      → IfSome (hand_out n m key subscribers response value accepted)
      (Comes (hands n (standing_of m) key subscribers response accepted) ((m.next_number, record { response = response; key = key; subscribers = subscribers }) ∷ []))
  hand_out-comes m key subscribers response value accepted = at (nat_lt m.next_number (2 ^ 64))
    where
      row : Row V S
      row = record { subscribers = subscribers; phase = Judged (record { number = m.next_number; response = response; value = value; accepted = accepted }) }

      with_rows : List (K × Held S) → Standing K S
      with_rows rows = record (hands n (standing_of m) key subscribers response accepted) { rows = rows }

      at : (b : Bool) → IfSome (cond b (Some (record {
        machine = record (with_row n m key row) { deliveries = insert_entry nat_cmp m.deliveries m.next_number (record { response = response; key = key; subscribers = subscribers }); next_number = m.next_number + 1 };
        effects = Deliver m.next_number response (record { key = key; subscribers = subscribers }) value ∷ [];
      })) None) (Comes (hands n (standing_of m) key subscribers response accepted) ((m.next_number, record { response = response; key = key; subscribers = subscribers }) ∷ []))
      at true = (ap with_rows (sym (set_value-seen held_of (same_key n key) m.rows row)), refl)
      at false = tt

  -- to ask again for a key that is not judged changes nothing
  idle_row : (m : Machine K V S) (key : K) (subscribers : List (S × ℕ)) (phase : Phase V) → IsEquivalence (same_key n) → judgment_of phase ≡ None
      → lookup (same_key n key) (seen held_of m.rows) ≡ Some (record { subscribers = subscribers; judging = None })
      → seen held_of (set_value (same_key n key) m.rows (record { subscribers = subscribers; phase = phase })) ≡ seen held_of m.rows
  idle_row m key subscribers phase laws idle found =
      sym (set_value-seen held_of (same_key n key) m.rows (record { subscribers = subscribers; phase = phase }))
      ∙ (ap (λ j. set_value (same_key n key) (seen held_of m.rows) (record { subscribers = subscribers; judging = j })) idle
      ∙ set_value_same (same_key n key) (seen held_of m.rows) (record { subscribers = subscribers; judging = None }) found)

  asked_idle : (attempt : ℕ) (p : Phase V) → is_asked_by attempt p ≡ true → judgment_of p ≡ None
  asked_idle attempt (Waiting due) is = refl
  asked_idle attempt (Asked a) is = refl
  asked_idle attempt (Judged j) is = cc

  -- The account after an input is what the machine stands at then.
  abbrev Tells : Account K S (List (K × List (S × ℕ))) → Change K S → Option (Done K V S) → Type 0
  Tells a change o = IfSome o (λ d. Tallies n (standing_of d.machine) (account_after (table n) a change (handed_out d.effects)))

  -- what follows for the account
  comes-tallies : (a : Account K S (List (K × List (S × ℕ)))) (change : Change K S) (t : Standing K S) (handed : List (ℕ × Handed K S)) (o : Option (Done K V S)) → Tallies n t (account_after (table n) a change handed) → IfSome o (Comes t handed)
      → Tells a change o
  comes-tallies a change t handed None tallies comes = tt
  comes-tallies a change t handed (Some d) tallies comes =
      subst (λ t. Tallies n t (account_after (table n) a change (handed_out d.effects))) (sym comes.0) (subst (λ hs. Tallies n t (account_after (table n) a change hs)) (sym comes.1) tallies)

  fetched-tallies : IsEquivalence (same_key n) → (m : Machine K V S) (a : Account K S (List (K × List (S × ℕ)))) (now attempt : ℕ) (value : Option V) → Tallies n (standing_of m) a
      → IfSome (fetched n m now attempt value) (λ d. Tallies n (standing_of d.machine) (account_after (table n) a Leaves (handed_out d.effects)))
  fetched-tallies laws m a now attempt value tallies = at value (find (λ r. is_asked_by attempt r.1.phase) m.rows) refl
    where
      with_rows : List (K × Held S) → Standing K S
      with_rows rows = record (standing_of m) { rows = rows }

      row : (r : K × Row V S) → find (λ r. is_asked_by attempt r.1.phase) m.rows ≡ Some r
          → (lookup (same_key n r.0) (seen held_of m.rows) ≡ Some (held_of r.1)) × (is_asked_by attempt r.1.phase ≡ true)
      row r is = Each-find (λ r. lookup (same_key n r.0) (seen held_of m.rows) ≡ Some (held_of r.1)) (λ r. is_asked_by attempt r.1.phase) m.rows r (found_rows m laws tallies.distinct) is

      with_judging : K × Row V S → Option Judgment → Option (Held S)
      with_judging r judging = Some (record { subscribers = r.1.subscribers; judging = judging })

      at : (value : Option V) (o : Option (K × Row V S)) → find (λ r. is_asked_by attempt r.1.phase) m.rows ≡ o
          → IfSome (fetched_for n m now value o) (λ d. Tallies n (standing_of d.machine) (account_after (table n) a Leaves (handed_out d.effects)))
      at value None is = stays n (standing_of m) a tallies
      at None (Some r) is =
          subst (λ t. Tallies n t (account_after (table n) a Leaves []))
          (ap with_rows (sym (idle_row m r.0 r.1.subscribers (Waiting (now + m.delay)) laws refl ((row r is).0 ∙ ap (with_judging r) (asked_idle attempt r.1.phase (row r is).1)))))
          (stays n (standing_of m) a tallies)
      at (Some value) (Some r) is =
          comes-tallies a Leaves (hands n (standing_of m) r.0 r.1.subscribers m.next_number false) ((m.next_number, record { response = m.next_number; key = r.0; subscribers = r.1.subscribers }) ∷ [])
          (hand_out n m r.0 r.1.subscribers m.next_number value false)
          (hands-tallies n laws (standing_of m) a r.0 (held_of r.1) (row r is).0 (asked_idle attempt r.1.phase (row r is).1) tallies)
          (hand_out-comes m r.0 r.1.subscribers m.next_number value false)

  -- a ruling does to the rows what it does to what stands
  ruled-comes : (m : Machine K V S) (now : ℕ) (h : Handed K S) (row : Row V S) (j : Judging V) (r : Ruling) → j.response ≡ h.response
      → IfSome (ruled n m now h row j r) (Comes (rules n (standing_of m) h row.subscribers r) (ruled_out n (standing_of m) h row.subscribers r))
  ruled-comes m now h row j Retry same = (ap with_rows (sym (set_value-seen held_of (same_key n h.key) m.rows (record { subscribers = row.subscribers; phase = Waiting (now + m.delay) }))), refl)
    where
      with_rows : List (K × Held S) → Standing K S
      with_rows rows = record (standing_of m) { rows = rows }
  ruled-comes m now h row j Retire same = (ap with_rows (sym (remove_entry-seen held_of (same_key n h.key) m.rows)), refl)
    where
      with_rows : List (K × Held S) → Standing K S
      with_rows rows = record (standing_of m) { rows = rows }
  ruled-comes m now h row j (Serve accepted) same = at (without n.subscriber h.subscribers row.subscribers)
    where
      with_rows : List (K × Held S) → Standing K S
      with_rows rows = record (standing_of m) { rows = rows }

      at : (rest : List (S × ℕ)) → IfSome (served n m h j accepted rest) (Comes (serves n (standing_of m) h accepted rest) (served_again n (standing_of m) h rest))
      at [] = (ap with_rows (sym (remove_entry-seen held_of (same_key n h.key) m.rows)), refl)
      at (s ∷ rest) =
          subst (λ r. IfSome (hand_out n m h.key (s ∷ rest) j.response j.value accepted) (Comes (hands n (standing_of m) h.key (s ∷ rest) r accepted) ((m.next_number, record { response = r; key = h.key; subscribers = s ∷ rest }) ∷ []))) same
          (hand_out-comes m h.key (s ∷ rest) j.response j.value accepted)

  verdict-tallies : IsEquivalence (same_key n) → (m : Machine K V S) (a : Account K S (List (K × List (S × ℕ)))) (now number : ℕ) (outcome : Option Outcome) → Tallies n (standing_of m) a
      → IfSome (verdict n m now number outcome) (λ d. Tallies n (standing_of d.machine) (account_after (table n) a (Judges number outcome) (handed_out d.effects)))
  verdict-tallies laws m a now number outcome tallies =
      subst (λ o. IfSome (verdict_on n m now number outcome o) (λ d. Tallies n (standing_of d.machine) (account_after (table n) a (Judges number outcome) (handed_out d.effects)))) (sym tied)
      (at (lookup (is_at (nat_cmp number)) a.deliveries) refl)
    where
      tied : lookup (is_at (nat_cmp number)) m.deliveries ≡ option_map (λ w. w.handed) (lookup (is_at (nat_cmp number)) a.deliveries)
      tied = ap (lookup (is_at (nat_cmp number))) tallies.deliveries ∙ lookup-map_values (λ w. w.handed) (is_at (nat_cmp number)) a.deliveries

      with_deliveries : List (ℕ × Handed K S) → Standing K S
      with_deliveries ds = record (standing_of m) { deliveries = ds }

      with_live : Handed K S → Bool → Option (Watched K S)
      with_live h live = Some (record { handed = h; live = live })

      here : (h : Handed K S) → judging_of n (seen held_of m.rows) h.key ≡ judging_in (option_map held_of (row_of n m h.key))
      here h = ap judging_in (lookup-map_values held_of (same_key n h.key) m.rows)

      number_in : Option Judgment → ℕ
      number_in None = 0
      number_in (Some j) = j.number

      response_in : Option Judgment → ℕ
      response_in None = 0
      response_in (Some j) = j.response

      accepted_in : Option Judgment → Bool
      accepted_in None = false
      accepted_in (Some j) = j.accepted

      -- the delivery is in progress
      ruled_on : (h : Handed K S) → lookup (is_at (nat_cmp number)) a.deliveries ≡ Some (record { handed = h; live = true }) → (row : Row V S) → row_of n m h.key ≡ Some row
          → (p : Phase V) → judgment_of p ≡ Some (record { number = number; response = h.response; accepted = was_completed a.completed h.response })
          → Tells a (Judges number outcome) (verdict_in n (closed m number) now number h outcome row p)
      ruled_on h it row is (Waiting due) judged = cc
      ruled_on h it row is (Asked attempt) judged = cc
      ruled_on h it row is (Judged j) judged =
          subst (λ b. Tells a (Judges number outcome) (cond b (ruled n (closed m number) now h row j (ruling j.accepted outcome)) (quiet (closed m number)))) (sym (eq-eqb number j.number (sym (ap number_in judged))))
          (subst (λ accepted. Tells a (Judges number outcome) (ruled n (closed m number) now h row j (ruling accepted outcome))) (sym (ap accepted_in judged))
          (comes-tallies a (Judges number outcome) (rules n (closes (standing_of m) number) h row.subscribers (ruling (was_completed a.completed h.response) outcome))
          (ruled_out n (closes (standing_of m) number) h row.subscribers (ruling (was_completed a.completed h.response) outcome))
          (ruled n (closed m number) now h row j (ruling (was_completed a.completed h.response) outcome))
          (rules-tallies n laws (standing_of m) a number h (held_of row) outcome tallies it (lookup-map_values held_of (same_key n h.key) m.rows ∙ ap (option_map held_of) is))
          (ruled-comes (closed m number) now h row j (ruling (was_completed a.completed h.response) outcome) (ap response_in judged))))

      alive : (h : Handed K S) → lookup (is_at (nat_cmp number)) a.deliveries ≡ Some (record { handed = h; live = true }) → (o : Option (Row V S)) → row_of n m h.key ≡ o
          → judging_in (option_map held_of o) ≡ Some (record { number = number; response = h.response; accepted = was_completed a.completed h.response })
          → Tells a (Judges number outcome) (verdict_at n (closed m number) now number h outcome o)
      alive h it None is judged = cc
      alive h it (Some row) is judged = ruled_on h it row is row.phase judged

      -- it is not
      passed : (h : Handed K S) → lookup (is_at (nat_cmp number)) a.deliveries ≡ Some (record { handed = h; live = false }) → Tells a (Judges number outcome) (quiet (closed m number))
      passed h it = closes-tallies n laws (standing_of m) a number outcome (λ w is. live_of w (sym is ∙ it)) tallies
        where
          live_in : Option (Watched K S) → Bool
          live_in None = false
          live_in (Some w) = w.live

          live_of : (w : Watched K S) → Some w ≡ Some (record { handed = h; live = false }) → w.live ≡ false
          live_of w same = ap live_in same

      not_ruled_on : (h : Handed K S) → lookup (is_at (nat_cmp number)) a.deliveries ≡ Some (record { handed = h; live = false }) → (row : Row V S)
          → (p : Phase V) → ((j : Judgment) → judgment_of p ≡ Some j → j.number ≢ number)
          → Tells a (Judges number outcome) (verdict_in n (closed m number) now number h outcome row p)
      not_ruled_on h it row (Waiting due) other = passed h it
      not_ruled_on h it row (Asked attempt) other = passed h it
      not_ruled_on h it row (Judged j) other =
          subst (λ b. Tells a (Judges number outcome) (cond b (ruled n (closed m number) now h row j (ruling j.accepted outcome)) (quiet (closed m number))))
          (sym (ne_eqb number j.number (λ same. other (record { number = j.number; response = j.response; accepted = j.accepted }) refl (sym same)))) (passed h it)

      dead : (h : Handed K S) → lookup (is_at (nat_cmp number)) a.deliveries ≡ Some (record { handed = h; live = false }) → (o : Option (Row V S))
          → ((j : Judgment) → judging_in (option_map held_of o) ≡ Some j → j.number ≢ number)
          → Tells a (Judges number outcome) (verdict_at n (closed m number) now number h outcome o)
      dead h it None other = passed h it
      dead h it (Some row) other = not_ruled_on h it row row.phase other

      by_live : (h : Handed K S) (live : Bool) → lookup (is_at (nat_cmp number)) a.deliveries ≡ Some (record { handed = h; live = live })
          → IfSome (verdict_at n (closed m number) now number h outcome (row_of n m h.key)) (λ d. Tallies n (standing_of d.machine) (account_after (table n) a (Judges number outcome) (handed_out d.effects)))
      by_live h true it = alive h it (row_of n m h.key) refl (sym (here h) ∙ judged_at n laws (standing_of m) a number h tallies it)
      by_live h false it = dead h it (row_of n m h.key) (λ j is. Each-lookup (Fits n (standing_of m).rows a.completed) number a.deliveries (record { handed = h; live = false }) tallies.fits it j (here h ∙ is))

      at : (w : Option (Watched K S)) → lookup (is_at (nat_cmp number)) a.deliveries ≡ w
          → IfSome (verdict_on n m now number outcome (option_map (λ w. w.handed) w)) (λ d. Tallies n (standing_of d.machine) (account_after (table n) a (Judges number outcome) (handed_out d.effects)))
      at None it =
          subst (λ t. Tallies n t (account_after (table n) a (Judges number outcome) []))
          (ap with_deliveries (remove_entry-absent (is_at (nat_cmp number)) m.deliveries (tied ∙ ap (option_map (λ w. w.handed)) it)))
          (closes-tallies n laws (standing_of m) a number outcome (λ w is. cc) tallies)
      at (Some w) it = by_live w.handed w.live it

  -- a row that is due
  abbrev IsIdle : Standing K S → ℕ × (K × Row V S) → Type 0
  IsIdle t q = lookup (same_key n q.1.0) t.rows ≡ Some (record { subscribers = q.1.1.subscribers; judging = None })

  placed-idle : (t : Standing K S) (due : ℕ) (r : K × Row V S) (qs : List (ℕ × (K × Row V S))) → IsIdle t (due, r) → Each (IsIdle t) qs → Each (IsIdle t) (placed due r qs)
  placed-idle t due r [] idle ps = (idle, tt)
  placed-idle t due r (q ∷ qs) idle ps = at (placed-idle t due r qs idle ps.1) (nat_le due q.0)
    where
      at : Each (IsIdle t) (placed due r qs) → (b : Bool) → Each (IsIdle t) (cond b ((due, r) ∷ q ∷ qs) (q ∷ placed due r qs))
      at rest true = (idle, ps)
      at rest false = (ps.0, rest)

  due-idle : (t : Standing K S) (now : ℕ) (rs : List (K × Row V S)) → Each (λ r. lookup (same_key n r.0) t.rows ≡ Some (held_of r.1)) rs → Each (IsIdle t) (waiting_by_due now rs)
  due-idle t now [] ps = tt
  due-idle t now (r ∷ rs) ps = at (due-idle t now rs ps.1) r.1.phase ps.0
    where
      at : Each (IsIdle t) (waiting_by_due now rs) → (p : Phase V) → lookup (same_key n r.0) t.rows ≡ Some (record { subscribers = r.1.subscribers; judging = judgment_of p }) → Each (IsIdle t) (placed_if_due now p r (waiting_by_due now rs))
      at rest (Waiting due) found = some (nat_le due now)
        where
          some : (b : Bool) → Each (IsIdle t) (cond b (placed due r (waiting_by_due now rs)) (waiting_by_due now rs))
          some true = placed-idle t due r (waiting_by_due now rs) found rest
          some false = rest
      at rest (Asked attempt) found = rest
      at rest (Judged j) found = rest

  start_again-comes : IsEquivalence (same_key n) → (m : Machine K V S) (key : K) (subscribers : List (S × ℕ)) → lookup (same_key n key) (seen held_of m.rows) ≡ Some (record { subscribers = subscribers; judging = None })
      → IfSome (start_again n m key subscribers) (Comes (standing_of m) [])
  start_again-comes laws m key subscribers found = at (nat_lt m.next_attempt (2 ^ 64))
    where
      with_rows : List (K × Held S) → Standing K S
      with_rows rows = record (standing_of m) { rows = rows }

      at : (b : Bool) → IfSome (cond b (Some (record {
        machine = record (with_row n m key (record { subscribers = subscribers; phase = Asked m.next_attempt })) { next_attempt = m.next_attempt + 1 };
        effects = Start m.next_attempt key ∷ [];
      })) None) (Comes (standing_of m) [])
      at true = (ap with_rows (idle_row m key subscribers (Asked m.next_attempt) laws refl found), refl)
      at false = tt

  start_all-comes : IsEquivalence (same_key n) → (t : Standing K S) (qs : List (ℕ × (K × Row V S))) → Each (IsIdle t) qs → (m : Machine K V S) → standing_of m ≡ t → IfSome (start_all n m qs) (Comes t [])
  start_all-comes laws t [] idle m stands = (stands, refl)
  start_all-comes laws t (q ∷ qs) idle m stands =
      then_holds (Comes t []) (Comes t []) (start_again n m q.1.0 q.1.1.subscribers) (λ next. start_all n next qs)
      (subst (λ u. IfSome (start_again n m q.1.0 q.1.1.subscribers) (Comes u [])) stands
      (start_again-comes laws m q.1.0 q.1.1.subscribers (ap (λ u. lookup (same_key n q.1.0) u.rows) stands ∙ idle.0)))
      (λ d comes. go d comes (start_all n d.machine qs) (start_all-comes laws t qs idle.1 d.machine comes.0))
    where
      go : (d : Done K V S) → Comes t [] d → (o : Option (Done K V S)) → IfSome o (Comes t []) → IfSome o (λ e. Comes t [] (record { machine = e.machine; effects = d.effects ++ e.effects }))
      go d comes None holds = tt
      go d comes (Some e) holds = (holds.0, none-append d.effects e.effects comes.1 holds.1)

  -- what a running machine does
  pub does-tallies : IsEquivalence (same_key n) → (m : Machine K V S) (a : Account K S (List (K × List (S × ℕ)))) (now : ℕ) (event : Event K V S) → Tallies n (standing_of m) a
      → IfSome (does n m now event) (λ d. Tallies n (standing_of d.machine) (account_after (table n) a (change_of event) (handed_out d.effects)))
  does-tallies laws m a now (Fetch items) tallies =
      comes-tallies a (Adds (map (λ item. (item.key, item.subscribers)) items)) (asking (map (λ item. (item.key, item.subscribers)) items)) [] (fetch n m items)
      (asks-tallies n laws (standing_of m) a (map (λ item. (item.key, item.subscribers)) items) tallies) (fetch-comes m items)
    where
      asking : List (K × List (S × ℕ)) → Standing K S
      asking items = record (standing_of m) { rows = asks n (seen held_of m.rows) items }
  does-tallies laws m a now (Retain keep) tallies =
      comes-tallies a (Keeps keep) (keeps (standing_of m) keep) [] (Some (retain m keep)) (keeps-tallies n laws (standing_of m) a keep tallies)
      (ap with_rows (retain-rows keep m.rows), all_called_off-none (filter (λ r. not (has_subscribers r)) (map (pruned keep) m.rows)))
    where
      with_rows : List (K × Held S) → Standing K S
      with_rows rows = record (standing_of m) { rows = rows }
  does-tallies laws m a now (Fetched attempt value) tallies = fetched-tallies laws m a now attempt value tallies
  does-tallies laws m a now (Verdict number outcome) tallies = verdict-tallies laws m a now number outcome tallies
  does-tallies laws m a now RetriesDue tallies =
      comes-tallies a Leaves (standing_of m) [] (start_all n m (waiting_by_due now m.rows)) (stays n (standing_of m) a tallies)
      (start_all-comes laws (standing_of m) (waiting_by_due now m.rows) (due-idle (standing_of m) now m.rows (found_rows m laws tallies.distinct)) m refl)
  does-tallies laws m a now End tallies =
      comes-tallies a Empties (ends (standing_of m)) [] (Some (end m)) (ends-tallies n (standing_of m) a tallies) (refl, all_called_off-none m.rows)

  abbrev effects_in : Result (List (Effect K V S)) Fault → List (Effect K V S)
  effects_in (Ok effects) = effects
  effects_in (Err fault) = []

  not_taken : (answer : Result (List (Effect K V S)) Fault) (fault : Fault) (effects : List (Effect K V S)) → answer ≡ Err fault → answer ≡ Ok effects → ⊥
  not_taken answer fault effects is_not is = cc

  -- a step that is taken
  taken-tallies : IsEquivalence (same_key n) → (m mid : Machine K V S) (a : Account K S (List (K × List (S × ℕ)))) (now : ℕ) (event : Event K V S) (effects : List (Effect K V S)) → Tallies n (standing_of m) a
      → (status : Status) → step_in n status m now event ≡ (Ok effects, mid) → Tallies n (standing_of mid) (account_after (table n) a (change_of event) (handed_out effects))
  taken-tallies laws m mid a now event effects tallies Running is = at (does n m now event) (does-tallies laws m a now event tallies) is
    where
      at : (o : Option (Done K V S)) → Tells a (change_of event) o → step_done m o ≡ (Ok effects, mid) → Tallies n (standing_of mid) (account_after (table n) a (change_of event) (handed_out effects))
      at None tells is = absurd (not_taken (Err faults.Exhausted) faults.Exhausted effects refl (ap (λ p. p.0) is))
      at (Some d) tells is =
          subst (λ m. Tallies n (standing_of m) (account_after (table n) a (change_of event) (handed_out effects))) (ap (λ p. p.1) is)
          (subst (λ es. Tallies n (standing_of d.machine) (account_after (table n) a (change_of event) (handed_out es))) (ap (λ p. effects_in p.0) is) tells)
  taken-tallies laws m mid a now event effects tallies Ended is = absurd (not_taken (Err faults.Ended) faults.Ended effects refl (ap (λ p. p.0) is))
  taken-tallies laws m mid a now event effects tallies Failed is = absurd (not_taken (Err faults.Failed) faults.Failed effects refl (ap (λ p. p.0) is))

  -- a step that is refused
  refused-same : (m mid : Machine K V S) (now : ℕ) (event : Event K V S) (fault : Fault) → fault ≢ faults.Exhausted → (status : Status) → step_in n status m now event ≡ (Err fault, mid) → mid ≡ m
  refused-same m mid now event fault other Running is = at (does n m now event) is
    where
      fault_in : Result (List (Effect K V S)) Fault → Fault
      fault_in (Ok effects) = faults.Exhausted
      fault_in (Err fault) = fault

      at : (o : Option (Done K V S)) → step_done m o ≡ (Err fault, mid) → mid ≡ m
      at None is = absurd (other (sym (ap (λ p. fault_in p.0) is)))
      at (Some d) is = absurd (other (sym (ap (λ p. fault_in p.0) is)))
  refused-same m mid now event fault other Ended is = sym (ap (λ p. p.1) is)
  refused-same m mid now event fault other Failed is = sym (ap (λ p. p.1) is)

  -- In each run that did not fail, the account of the inputs taken is what the machine stands at.
  pub runs-tallies : IsEquivalence (same_key n) → (inputs : List (Input K V S)) (answers : List (Result (List (Effect K V S)) Fault)) (old m : Machine K V S) (a : Account K S (List (K × List (S × ℕ))))
      → Tallies n (standing_of old) a → Runs n old inputs answers m → m.status ≢ Failed → Tallies n (standing_of m) (account_of (table n) a (taken inputs answers))
  runs-tallies laws [] [] old m a tallies runs sound = subst (λ m. Tallies n (standing_of m) a) (sym runs) tallies
  runs-tallies laws [] (answer ∷ answers) old m a tallies runs sound = absurd runs
  runs-tallies laws (input ∷ inputs) [] old m a tallies runs sound = absurd runs
  runs-tallies laws (input ∷ inputs) (Ok effects ∷ answers) old m a tallies runs sound =
      runs-tallies laws inputs answers runs.0 m (account_after (table n) a (change_of input.event) (handed_out effects)) (taken-tallies laws old runs.0 a input.now input.event effects tallies old.status runs.1) runs.2 sound
  runs-tallies laws (input ∷ inputs) (Err faults.OutOfMemory ∷ answers) old m a tallies runs sound = absurd (sound (ap (λ m. m.status) runs.2.1 ∙ runs.1.1))
  runs-tallies laws (input ∷ inputs) (Err faults.Exhausted ∷ answers) old m a tallies runs sound = absurd (sound (ap (λ m. m.status) runs.2.1 ∙ runs.1.1))
  runs-tallies laws (input ∷ inputs) (Err fault ∷ answers) old m a tallies runs sound =
      runs-tallies laws inputs answers runs.0 m a (subst (λ m. Tallies n (standing_of m) a) (sym (refused-same old runs.0 input.now input.event fault (λ is. cc) old.status runs.1)) tallies) runs.2 sound

  demanded-seen : (rows : List (K × Row V S)) → seen (λ h. h.subscribers) (seen held_of rows) ≡ demanded rows
  demanded-seen [] = refl
  demanded-seen (r ∷ rs) = ap (λ d. (r.0, r.1.subscribers) ∷ d) (demanded-seen rs)

  -- the table of who is asked for is kept in every run
  pub table_is_kept : IsEquivalence (same_key n) → (delay attempts : ℕ) (inputs : List (Input K V S)) (answers : List (Result (List (Effect K V S)) Fault)) (new : Machine K V S)
      → Runs n (record (opening delay) { next_attempt = attempts }) inputs answers new → new.status ≢ Failed → demanded new.rows ≡ (account_of (table n) (nothing_asked (table n)) (taken inputs answers)).demand
  table_is_kept laws delay attempts inputs answers new runs sound =
      sym (demanded-seen new.rows) ∙ (runs-tallies laws inputs answers (record (opening delay) { next_attempt = attempts }) new (nothing_asked (table n)) (opening-tallies n) runs sound).demand
