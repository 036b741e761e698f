-- What the machines stand at, against the account of the inputs taken.
use Rattle.std.proofs.Common.{◌≡◌, ◌≢◌, refl, ap, sym, ◌∙◌, subst, ℕ, ◌+◌, ◌<◌, Bool, true, false, ◌&&◌, cond, List, [], ◌∷◌, ◌++◌, map, filter, Option, None, Some, is_some, arith}
use Rattle.std.specs.Prelude.{◌==◌, nat_lt, length}
use Rattle.std.specs.Option.{option_map}
use Rattle.std.specs.List.{list_any, IsDistinct}
use Rattle.std.specs.Map.{lookup, set_value, remove_entry, keys_of}
use Rattle.std.specs.BTreeMap.{insert_entry, is_at}
use Rattle.std.specs.Ordering.{nat_cmp}
use Rattle.std.specs.Cmp.{IsEquivalence}
use Rattle.std.proofs.lemmas.Map.Made.{lookup-map_values, IsDistinct-keys_filter}
use Rattle.std.proofs.lemmas.Map.Entries.{lookup-filter-values, option_filter}
use Rattle.resolver_types.specs.Names.{Names, same_key}
use Rattle.resolver_types.specs.Subscribers.{attached_all, without}
use Rattle.resolver_model.specs.Account.{table}
use Rattle.resolver_types.specs.Table.{asked, asked_beside, kept, without_named, without_key}
use Rattle.resolver_model.specs.Account.{Account, Handed, Watched, Leaves, Adds, Keeps, Judges, Empties, watch, account_after, nothing_asked}
use Rattle.std.proofs.Common.{ne_eqb, eq-eqb}
use Rattle.std.specs.Prelude.{◌||◌, if◌then◌else◌}
use Rattle.resolver_types.specs.declared.outcome.Outcome.{Outcome}
use Rattle.resolver_types.specs.declared.outcome.Outcome.TheVariants.{Invalid, Resolved, Unresolved, Ignored}
use Rattle.resolver_types.specs.declared.outcome.Resolution.TheVariants.{Complete, Partial}
use Rattle.resolver_model.specs.declared.ruling.Ruling.TheVariants.{Retry, Retire}
use Rattle.resolver_model.specs.Verdicts.{ruling}
use Rattle.resolver_types.specs.Table.{without_these, left_with}
use Rattle.resolver_model.specs.Account.{demand_after_verdict, completed_after_verdict, opens}
use Rattle.resolver_model.specs.Standing.{rules, ruled_out, served_again}
use Rattle.resolver_model.specs.Standing.{Standing, Held, Judgment, asks, asks_one, keeps, prunes, has_any, hands, drops, retires, closes, serves, ends}
use Rattle.resolver_model.proofs.Mapped.{seen, set_value-seen, insert_entry-seen, remove_entry-seen}
use Rattle.resolver_model.specs.Lawful.{Each}
use Rattle.resolver_model.proofs.Deliveries.{Each-imply, Each-both, Each-push, Each-map, Each-remove_entry, Climbs, Climbs-remove_entry, Climbs-push, Climbs-below, Climbs-others, Climbs-watch, Climbs-insert, Separate, Separate-remove_entry, Separate-push, Separate-others, Separate-watch, Each-lookup, Each-found}
use Rattle.std.proofs.lemmas.Map.Steps.{set_value_same}
use Rattle.resolver_model.proofs.Rows.{lookup-set, lookup-removed, lookup-same, lookup-inserted, Distinct-inserted, Distinct-removed, Distinct-set}

abbrev pub judging_in : {S : Type 0} → Option (Held S) → Option Judgment
judging_in None = None
judging_in (Some held) = held.judging

-- A delivery is live exactly where its key is judged under its number.
abbrev pub FitsAs : (live : Bool) → (number response : ℕ) → (accepted : Bool) → Option Judgment → Type 0
FitsAs true number response accepted judging = judging ≡ Some (record { number = number; response = response; accepted = accepted })
FitsAs false number response accepted judging = (j : Judgment) → judging ≡ Some j → j.number ≢ number

abbrev pub was_completed : List ℕ → ℕ → Bool
was_completed completed response = list_any (λ r. r == response) completed

-- a response that no one was judged by
pub never_completed : (completed : List ℕ) (next : ℕ) → Each (λ r. r < next) completed → was_completed completed next ≡ false
never_completed [] next below = refl
never_completed (r ∷ rs) next below = rw (ne_eqb r next (omega (arith, below.0))) (never_completed rs next below.1)

pub remove_entry-absent : {K X : Type 0} (test : K → Bool) (es : List (K × X)) → lookup test es ≡ None → remove_entry test es ≡ es
remove_entry-absent test [] none = refl
remove_entry-absent test (e ∷ es) none = at (test e.0) (remove_entry-absent test es) none
  where
    at : (b : Bool) → (lookup test es ≡ None → remove_entry test es ≡ es) → cond b (Some e.1) (lookup test es) ≡ None → cond b es (e ∷ remove_entry test es) ≡ e ∷ es
    at true rest none = cc
    at false rest none = ap (λ es. e ∷ es) (rest none)

-- an entry after a change, by what its key has then
fits_gone : (live : Bool) (number response : ℕ) (accepted : Bool) → FitsAs (live && false) number response accepted None
fits_gone true number response accepted = λ j is. cc
fits_gone false number response accepted = λ j is. cc

module _ {S : Type 0} where
  fits_same : (live : Bool) (number response : ℕ) (accepted accepted' : Bool) (judging : Option Judgment) (row : Option (Held S))
      → FitsAs live number response accepted judging → judging_in row ≡ judging → accepted' ≡ accepted → FitsAs (live && is_some row) number response accepted' (judging_in row)
  fits_same true number response accepted accepted' judging None fits same alike = λ j is. cc
  fits_same true number response accepted accepted' judging (Some held) fits same alike = rw alike (same ∙ fits)
  fits_same false number response accepted accepted' judging row fits same alike = λ j is. fits j (sym same ∙ is)

  -- where the key was judged under another number, or not at all
  fits_other : (live : Bool) (number response : ℕ) (accepted accepted' : Bool) (judging : Option Judgment) (row : Option (Held S))
      → FitsAs live number response accepted judging → ((j : Judgment) → judging ≡ Some j → j.number ≢ number) → ((j : Judgment) → judging_in row ≡ Some j → j.number ≢ number)
      → FitsAs (live && is_some row) number response accepted' (judging_in row)
  fits_other true number response accepted accepted' judging row fits old new = absurd (old (record { number = number; response = response; accepted = accepted }) fits refl)
  fits_other false number response accepted accepted' judging row fits old new = new

module _ {K S : Type 0} (n : Names K S) where
  abbrev pub judging_of : List (K × Held S) → K → Option Judgment
  judging_of rows key = judging_in (lookup (same_key n key) rows)

  abbrev pub Fits : List (K × Held S) → List ℕ → ℕ × Watched K S → Type 0
  Fits rows completed e = FitsAs e.1.live e.0 e.1.handed.response (was_completed completed e.1.handed.response) (judging_of rows e.1.handed.key)

  -- the same once an input has been taken that left these rows
  abbrev pub FitsNext : List (K × Held S) → List ℕ → ℕ × Watched K S → Type 0
  FitsNext rows completed e =
      FitsAs (e.1.live && is_some (lookup (same_key n e.1.handed.key) rows)) e.0 e.1.handed.response (was_completed completed e.1.handed.response) (judging_of rows e.1.handed.key)

  pub record Tallies (t : Standing K S) (a : Account K S (List (K × List (S × ℕ)))) : Type 0 where
    pub demand : seen (λ h. h.subscribers) t.rows ≡ a.demand
    pub deliveries : t.deliveries ≡ seen (λ w. w.handed) a.deliveries
    pub distinct : IsDistinct (same_key n) (keys_of t.rows)
    pub climbs : Climbs 0 a.deliveries t.next_number
    pub separate : Separate a.deliveries
    pub below : Each (λ e. e.1.handed.response < t.next_number) a.deliveries
    pub completed : Each (λ r. r < t.next_number) a.completed
    pub fits : Each (Fits t.rows a.completed) a.deliveries

  handed-watch : (d : List (K × List (S × ℕ))) (es : List (ℕ × Watched K S)) → seen (λ w. w.handed) es ≡ seen (λ w. w.handed) (map (watch (table n) d) es)
  handed-watch d [] = refl
  handed-watch d (e ∷ es) = ap (λ rest. (e.0, e.1.handed) ∷ rest) (handed-watch d es)

  fits-watch : (rows : List (K × Held S)) (completed : List ℕ) (e : ℕ × Watched K S) → FitsNext rows completed e → Fits rows completed (watch (table n) (seen (λ h. h.subscribers) rows) e)
  fits-watch rows completed e fits =
      rw (lookup-map_values (λ h. h.subscribers) (same_key n e.1.handed.key) rows) (at (lookup (same_key n e.1.handed.key) rows) fits)
    where
      at : (o : Option (Held S)) → FitsAs (e.1.live && is_some o) e.0 e.1.handed.response (was_completed completed e.1.handed.response) (judging_of rows e.1.handed.key)
          → FitsAs (e.1.live && is_some (option_map (λ h. h.subscribers) o)) e.0 e.1.handed.response (was_completed completed e.1.handed.response) (judging_of rows e.1.handed.key)
      at None fits = fits
      at (Some held) fits = fits

  -- the account after an input, from what it left open and handed out
  made : (rows : List (K × Held S)) (next : ℕ) (d : List (K × List (S × ℕ))) (opened : List (ℕ × Watched K S)) (completed : List ℕ)
      → seen (λ h. h.subscribers) rows ≡ d → IsDistinct (same_key n) (keys_of rows) → Climbs 0 opened next → Separate opened
      → Each (λ e. e.1.handed.response < next) opened → Each (λ r. r < next) completed → Each (FitsNext rows completed) opened
      → Tallies (record { rows = rows; deliveries = seen (λ w. w.handed) opened; next_number = next }) (record { demand = d; deliveries = map (watch (table n) d) opened; completed = completed })
  made rows next d opened completed asked distinct climbs separate below old fits =
      subst (λ d. Tallies (record { rows = rows; deliveries = seen (λ w. w.handed) opened; next_number = next }) (record { demand = d; deliveries = map (watch (table n) d) opened; completed = completed })) asked
      (record {
        demand = refl;
        deliveries = handed-watch (seen (λ h. h.subscribers) rows) opened;
        distinct = distinct;
        climbs = Climbs-watch (λ e. (watch (table n) (seen (λ h. h.subscribers) rows) e).1) 0 opened next climbs;
        separate = Separate-watch (λ e. (watch (table n) (seen (λ h. h.subscribers) rows) e).1.live) opened separate;
        below = Each-map (watch (table n) (seen (λ h. h.subscribers) rows)) (λ e. e.1.handed.response < next) opened below;
        completed = old;
        fits = Each-map (watch (table n) (seen (λ h. h.subscribers) rows)) (Fits rows completed) opened (Each-imply (FitsNext rows completed) (λ e. Fits rows completed (watch (table n) (seen (λ h. h.subscribers) rows) e)) (fits-watch rows completed) opened fits);
      })

  -- an input that leaves who is asked for and what is judged
  pub stays : (t : Standing K S) (a : Account K S (List (K × List (S × ℕ)))) → Tallies t a → Tallies t (account_after (table n) a Leaves [])
  stays t a tallies =
      subst (λ ds. Tallies (record t { deliveries = ds }) (account_after (table n) a Leaves [])) (sym tallies.deliveries)
      (made t.rows t.next_number a.demand a.deliveries a.completed tallies.demand tallies.distinct tallies.climbs tallies.separate tallies.below tallies.completed
      (Each-imply (Fits t.rows a.completed) (FitsNext t.rows a.completed) (λ e fits. fits_same e.1.live e.0 e.1.handed.response (was_completed a.completed e.1.handed.response) (was_completed a.completed e.1.handed.response) (judging_of t.rows e.1.handed.key) (lookup (same_key n e.1.handed.key) t.rows) fits refl refl) a.deliveries tallies.fits))

  -- Items: what is judged for a key stays.
  judging-asks_one : (laws : IsEquivalence (same_key n)) (rows : List (K × Held S)) (item : K × List (S × ℕ)) (found : Option (Held S)) → lookup (same_key n item.0) rows ≡ found
      → (key : K) → judging_of (asks_one n rows item found) key ≡ judging_of rows key
  judging-asks_one laws rows item None found key =
      ap judging_in (lookup-inserted n laws item.0 key rows (record { subscribers = attached_all n.subscriber [] item.1; judging = None }) found)
      ∙ at (same_key n item.0 key) refl
    where
      at : (b : Bool) → same_key n item.0 key ≡ b
          → judging_in (cond b (Some (record { subscribers = attached_all n.subscriber [] item.1; judging = None })) (lookup (same_key n key) rows)) ≡ judging_of rows key
      at true same = sym (ap judging_in (lookup-same n laws item.0 key rows same ∙ found))
      at false same = refl
  judging-asks_one laws rows item (Some held) found key =
      ap judging_in (lookup-set n laws item.0 key rows held (record held { subscribers = attached_all n.subscriber held.subscribers item.1 }) found)
      ∙ at (same_key n item.0 key) refl
    where
      at : (b : Bool) → same_key n item.0 key ≡ b
          → judging_in (cond b (Some (record held { subscribers = attached_all n.subscriber held.subscribers item.1 })) (lookup (same_key n key) rows)) ≡ judging_of rows key
      at true same = sym (ap judging_in (lookup-same n laws item.0 key rows same ∙ found))
      at false same = refl

  distinct-asks_one : (laws : IsEquivalence (same_key n)) (rows : List (K × Held S)) (item : K × List (S × ℕ)) (found : Option (Held S)) → lookup (same_key n item.0) rows ≡ found
      → IsDistinct (same_key n) (keys_of rows) → IsDistinct (same_key n) (keys_of (asks_one n rows item found))
  distinct-asks_one laws rows item None found distinct = Distinct-inserted n laws item.0 rows (record { subscribers = attached_all n.subscriber [] item.1; judging = None }) found distinct
  distinct-asks_one laws rows item (Some held) found distinct =
      Distinct-set n laws (same_key n item.0) rows (record held { subscribers = attached_all n.subscriber held.subscribers item.1 }) distinct

  asked_one-seen : (rows : List (K × Held S)) (item : K × List (S × ℕ)) (found : Option (Held S))
      → seen (λ h. h.subscribers) (asks_one n rows item found) ≡ asked_beside n (seen (λ h. h.subscribers) rows) item (option_map (λ h. h.subscribers) found)
  asked_one-seen rows item None = sym (insert_entry-seen (λ h. h.subscribers) n.key rows item.0 (record { subscribers = attached_all n.subscriber [] item.1; judging = None }))
  asked_one-seen rows item (Some held) = sym (set_value-seen (λ h. h.subscribers) (same_key n item.0) rows (record held { subscribers = attached_all n.subscriber held.subscribers item.1 }))

  pub asked-seen : (rows : List (K × Held S)) (items : List (K × List (S × ℕ)))
      → seen (λ h. h.subscribers) (asks n rows items) ≡ asked n (seen (λ h. h.subscribers) rows) items
  asked-seen rows [] = refl
  asked-seen rows (item ∷ items) =
      asked-seen (asks_one n rows item (lookup (same_key n item.0) rows)) items
      ∙ ap (λ d. asked n d items) (asked_one-seen rows item (lookup (same_key n item.0) rows)
      ∙ ap (asked_beside n (seen (λ h. h.subscribers) rows) item) (sym (lookup-map_values (λ h. h.subscribers) (same_key n item.0) rows)))

  pub judging-asks : (laws : IsEquivalence (same_key n)) (rows : List (K × Held S)) (items : List (K × List (S × ℕ))) (key : K) → judging_of (asks n rows items) key ≡ judging_of rows key
  judging-asks laws rows [] key = refl
  judging-asks laws rows (item ∷ items) key =
      judging-asks laws (asks_one n rows item (lookup (same_key n item.0) rows)) items key
      ∙ judging-asks_one laws rows item (lookup (same_key n item.0) rows) refl key

  distinct-asks : (laws : IsEquivalence (same_key n)) (rows : List (K × Held S)) (items : List (K × List (S × ℕ)))
      → IsDistinct (same_key n) (keys_of rows) → IsDistinct (same_key n) (keys_of (asks n rows items))
  distinct-asks laws rows [] distinct = distinct
  distinct-asks laws rows (item ∷ items) distinct =
      distinct-asks laws (asks_one n rows item (lookup (same_key n item.0) rows)) items (distinct-asks_one laws rows item (lookup (same_key n item.0) rows) refl distinct)

  -- items are asked for
  pub asks-tallies : (laws : IsEquivalence (same_key n)) (t : Standing K S) (a : Account K S (List (K × List (S × ℕ)))) (items : List (K × List (S × ℕ)))
      → Tallies t a → Tallies (record t { rows = asks n t.rows items }) (account_after (table n) a (Adds items) [])
  asks-tallies laws t a items tallies =
      subst (λ ds. Tallies (record { rows = asks n t.rows items; deliveries = ds; next_number = t.next_number }) (account_after (table n) a (Adds items) [])) (sym tallies.deliveries)
      (made (asks n t.rows items) t.next_number (asked n a.demand items) a.deliveries a.completed
      (asked-seen t.rows items ∙ ap (λ d. asked n d items) tallies.demand)
      (distinct-asks laws t.rows items tallies.distinct) tallies.climbs tallies.separate tallies.below tallies.completed
      (Each-imply (Fits t.rows a.completed) (FitsNext (asks n t.rows items) a.completed)
      (λ e fits. fits_same e.1.live e.0 e.1.handed.response (was_completed a.completed e.1.handed.response) (was_completed a.completed e.1.handed.response) (judging_of t.rows e.1.handed.key) (lookup (same_key n e.1.handed.key) (asks n t.rows items)) fits (judging-asks laws t.rows items e.1.handed.key) refl)
      a.deliveries tallies.fits))

  -- Pruned rows
  pub judging-prunes : (keep : K → S → Bool) (rows : List (K × Held S)) (key : K) → judging_of (map (prunes keep) rows) key ≡ judging_of rows key
  judging-prunes keep [] key = refl
  judging-prunes keep (r ∷ rs) key = at (judging-prunes keep rs key) (same_key n key r.0)
    where
      at : judging_of (map (prunes keep) rs) key ≡ judging_of rs key → (b : Bool) → judging_in (cond b (Some (prunes keep r).1) (lookup (same_key n key) (map (prunes keep) rs))) ≡ judging_in (cond b (Some r.1) (lookup (same_key n key) rs))
      at rest true = refl
      at rest false = rest

  keys-prunes : (keep : K → S → Bool) (rows : List (K × Held S)) → keys_of (map (prunes keep) rows) ≡ keys_of rows
  keys-prunes keep [] = refl
  keys-prunes keep (r ∷ rs) = ap (λ ks. r.0 ∷ ks) (keys-prunes keep rs)

  kept-seen : (keep : K → S → Bool) (rows : List (K × Held S)) → seen (λ h. h.subscribers) (filter has_any (map (prunes keep) rows)) ≡ kept keep (seen (λ h. h.subscribers) rows)
  kept-seen keep [] = refl
  kept-seen keep (r ∷ rs) = at (kept-seen keep rs) (has_any (prunes keep r))
    where
      at : seen (λ h. h.subscribers) (filter has_any (map (prunes keep) rs)) ≡ kept keep (seen (λ h. h.subscribers) rs) → (b : Bool) → seen (λ h. h.subscribers) (cond b (prunes keep r ∷ filter has_any (map (prunes keep) rs)) (filter has_any (map (prunes keep) rs)))
          ≡ cond b ((r.0, (prunes keep r).1.subscribers) ∷ kept keep (seen (λ h. h.subscribers) rs)) (kept keep (seen (λ h. h.subscribers) rs))
      at rest true = ap (λ d. (r.0, (prunes keep r).1.subscribers) ∷ d) rest
      at rest false = rest

  -- only some subscribers are kept
  pub keeps-tallies : (laws : IsEquivalence (same_key n)) (t : Standing K S) (a : Account K S (List (K × List (S × ℕ)))) (keep : K → S → Bool)
      → Tallies t a → Tallies (keeps t keep) (account_after (table n) a (Keeps keep) [])
  keeps-tallies laws t a keep tallies =
      subst (λ ds. Tallies (record { rows = (keeps t keep).rows; deliveries = ds; next_number = t.next_number }) (account_after (table n) a (Keeps keep) [])) (sym tallies.deliveries)
      (made (keeps t keep).rows t.next_number (kept keep a.demand) a.deliveries a.completed
      (kept-seen keep t.rows ∙ ap (kept keep) tallies.demand)
      (IsDistinct-keys_filter (same_key n) has_any (map (prunes keep) t.rows) pruned_distinct)
      tallies.climbs tallies.separate tallies.below tallies.completed
      (Each-imply (Fits t.rows a.completed) (FitsNext (keeps t keep).rows a.completed) entry a.deliveries tallies.fits))
    where
      pruned_distinct : IsDistinct (same_key n) (keys_of (map (prunes keep) t.rows))
      pruned_distinct = subst (IsDistinct (same_key n)) (sym (keys-prunes keep t.rows)) tallies.distinct

      at : (e : ℕ × Watched K S) → Fits t.rows a.completed e → (o : Option (Held S)) → judging_in o ≡ judging_of t.rows e.1.handed.key
          → (row : Option (Held S)) → row ≡ option_filter (λ h. nat_lt 0 (length h.subscribers)) o
          → FitsAs (e.1.live && is_some row) e.0 e.1.handed.response (was_completed a.completed e.1.handed.response) (judging_in row)
      at e fits None same row is = rw is (fits_gone e.1.live e.0 e.1.handed.response (was_completed a.completed e.1.handed.response))
      at e fits (Some held) same row is = rw is (some (nat_lt 0 (length held.subscribers)))
        where
          some : (b : Bool) → FitsAs (e.1.live && is_some (cond b (Some held) None)) e.0 e.1.handed.response (was_completed a.completed e.1.handed.response) (judging_in (cond b (Some held) None))
          some true = fits_same e.1.live e.0 e.1.handed.response (was_completed a.completed e.1.handed.response) (was_completed a.completed e.1.handed.response) (judging_of t.rows e.1.handed.key) (Some held) fits same refl
          some false = fits_gone e.1.live e.0 e.1.handed.response (was_completed a.completed e.1.handed.response)

      entry : (e : ℕ × Watched K S) → Fits t.rows a.completed e → FitsNext (keeps t keep).rows a.completed e
      entry e fits = at e fits (lookup (same_key n e.1.handed.key) (map (prunes keep) t.rows)) (judging-prunes keep t.rows e.1.handed.key) (lookup (same_key n e.1.handed.key) (keeps t keep).rows)
          (lookup-filter-values laws (λ h. nat_lt 0 (length h.subscribers)) e.1.handed.key (map (prunes keep) t.rows) pruned_distinct)

  pub none_distinct : IsDistinct (same_key n) []
  unfolding IsDistinct
  none_distinct = tt

  -- nothing is asked for, and nothing is open
  pub opening-tallies : Tallies (record { rows = []; deliveries = []; next_number = 0 }) (nothing_asked (table n))
  opening-tallies = record { demand = refl; deliveries = refl; distinct = none_distinct; climbs = omega arith; separate = tt; below = tt; completed = tt; fits = tt }

  -- all ends
  pub ends-tallies : (t : Standing K S) (a : Account K S (List (K × List (S × ℕ)))) → Tallies t a → Tallies (ends t) (account_after (table n) a Empties [])
  ends-tallies t a tallies = record { demand = refl; deliveries = refl; distinct = none_distinct; climbs = omega arith; separate = tt; below = tt; completed = tallies.completed; fits = tt }

  -- An open delivery beside a change of one key, under which it is not judged. `response`: what is handed out, under the next number
  record Rest (rows : List (K × Held S)) (completed completed' : List ℕ) (key : K) (response next : ℕ) (e : ℕ × Watched K S) : Type 0 where
    fits : Fits rows completed e
    below : e.1.handed.response < next
    apart : e.1.handed.response ≢ response
    alike : was_completed completed' e.1.handed.response ≡ was_completed completed e.1.handed.response
    old : (j : Judgment) → judging_of rows key ≡ Some j → j.number ≢ e.0
    early : e.0 < next

  module _ (laws : IsEquivalence (same_key n)) where
    -- one key has another row, or none
    replaced : (rows rows' : List (K × Held S)) (completed completed' : List ℕ) (key : K) (response next : ℕ) (new : Option (Held S))
        → ((q : K) → lookup (same_key n q) rows' ≡ cond (same_key n key q) new (lookup (same_key n q) rows))
        → (e : ℕ × Watched K S) → Rest rows completed completed' key response next e → ((j : Judgment) → judging_in new ≡ Some j → j.number ≢ e.0)
        → FitsNext rows' completed' e
    replaced rows rows' completed completed' key response next new found e rest other =
        subst (λ row. FitsAs (e.1.live && is_some row) e.0 e.1.handed.response (was_completed completed' e.1.handed.response) (judging_in row)) (sym (found e.1.handed.key))
        (at (same_key n key e.1.handed.key) refl)
      where
        at : (b : Bool) → same_key n key e.1.handed.key ≡ b
            → FitsAs (e.1.live && is_some (cond b new (lookup (same_key n e.1.handed.key) rows))) e.0 e.1.handed.response (was_completed completed' e.1.handed.response) (judging_in (cond b new (lookup (same_key n e.1.handed.key) rows)))
        at true same =
            fits_other e.1.live e.0 e.1.handed.response (was_completed completed e.1.handed.response) (was_completed completed' e.1.handed.response) (judging_of rows e.1.handed.key) new rest.fits
            (λ j is. rest.old j (ap judging_in (sym (lookup-same n laws key e.1.handed.key rows same)) ∙ is)) other
        at false same =
            fits_same e.1.live e.0 e.1.handed.response (was_completed completed e.1.handed.response) (was_completed completed' e.1.handed.response) (judging_of rows e.1.handed.key) (lookup (same_key n e.1.handed.key) rows) rest.fits refl rest.alike

    -- a key is judged no more
    dropped : (t : Standing K S) (key : K) (held : Held S) (left : List (ℕ × Watched K S)) (completed completed' : List ℕ) (response : ℕ)
        → lookup (same_key n key) t.rows ≡ Some held → IsDistinct (same_key n) (keys_of t.rows) → Climbs 0 left t.next_number → Separate left
        → Each (λ r. r < t.next_number) completed' → Each (Rest t.rows completed completed' key response t.next_number) left
        → (d : List (K × List (S × ℕ))) → seen (λ h. h.subscribers) t.rows ≡ d
        → Tallies (record { rows = (drops n t key held.subscribers).rows; deliveries = seen (λ w. w.handed) left; next_number = t.next_number }) (record { demand = d; deliveries = map (watch (table n) d) left; completed = completed' })
    dropped t key held left completed completed' response found distinct climbs separate old rest d asked =
        made (drops n t key held.subscribers).rows t.next_number d left completed'
        (sym (set_value-seen (λ h. h.subscribers) (same_key n key) t.rows new) ∙ (set_value_same (same_key n key) (seen (λ h. h.subscribers) t.rows) held.subscribers there ∙ asked))
        (Distinct-set n laws (same_key n key) t.rows new distinct)
        climbs separate
        (Each-imply (Rest t.rows completed completed' key response t.next_number) (λ e. e.1.handed.response < t.next_number) (λ e r. r.below) left rest)
        old
        (Each-imply (Rest t.rows completed completed' key response t.next_number) (FitsNext (drops n t key held.subscribers).rows completed')
        (λ e r. replaced t.rows (drops n t key held.subscribers).rows completed completed' key response t.next_number (Some new) (λ q. lookup-set n laws key q t.rows held new found) e r (λ j is. cc)) left rest)
      where
        new : Held S
        new = record { subscribers = held.subscribers; judging = None }

        there : lookup (same_key n key) (seen (λ h. h.subscribers) t.rows) ≡ Some held.subscribers
        there = lookup-map_values (λ h. h.subscribers) (same_key n key) t.rows ∙ ap (option_map (λ h. h.subscribers)) found

    -- a key is retired
    retired : (t : Standing K S) (key : K) (left : List (ℕ × Watched K S)) (completed completed' : List ℕ) (response : ℕ)
        → IsDistinct (same_key n) (keys_of t.rows) → Climbs 0 left t.next_number → Separate left
        → Each (λ r. r < t.next_number) completed' → Each (Rest t.rows completed completed' key response t.next_number) left
        → (d : List (K × List (S × ℕ))) → seen (λ h. h.subscribers) t.rows ≡ d
        → Tallies (record { rows = (retires n t key).rows; deliveries = seen (λ w. w.handed) left; next_number = t.next_number }) (record { demand = without_key n key d; deliveries = map (watch (table n) (without_key n key d)) left; completed = completed' })
    retired t key left completed completed' response distinct climbs separate old rest d asked =
        made (retires n t key).rows t.next_number (without_key n key d) left completed'
        (sym (remove_entry-seen (λ h. h.subscribers) (same_key n key) t.rows) ∙ ap (remove_entry (same_key n key)) asked)
        (Distinct-removed n laws (same_key n key) t.rows distinct)
        climbs separate
        (Each-imply (Rest t.rows completed completed' key response t.next_number) (λ e. e.1.handed.response < t.next_number) (λ e r. r.below) left rest)
        old
        (Each-imply (Rest t.rows completed completed' key response t.next_number) (FitsNext (retires n t key).rows completed')
        (λ e r. replaced t.rows (retires n t key).rows completed completed' key response t.next_number None (λ q. lookup-removed n laws key q t.rows distinct) e r (λ j is. cc)) left rest)

    -- a key is judged by these subscribers
    handed_on : (t : Standing K S) (key : K) (held : Held S) (subscribers : List (S × ℕ)) (left : List (ℕ × Watched K S)) (completed completed' : List ℕ) (response : ℕ) (accepted : Bool)
        → lookup (same_key n key) t.rows ≡ Some held → IsDistinct (same_key n) (keys_of t.rows) → Climbs 0 left t.next_number → Separate left
        → Each (λ r. r < t.next_number + 1) completed' → Each (Rest t.rows completed completed' key response t.next_number) left
        → response < t.next_number + 1 → was_completed completed' response ≡ accepted
        → (d : List (K × List (S × ℕ))) → set_value (same_key n key) (seen (λ h. h.subscribers) t.rows) subscribers ≡ d
        → Tallies (record { rows = (hands n t key subscribers response accepted).rows; deliveries = insert_entry nat_cmp (seen (λ w. w.handed) left) t.next_number (record { response = response; key = key; subscribers = subscribers }); next_number = t.next_number + 1 })
        (record { demand = d; deliveries = map (watch (table n) d) (left ++ (t.next_number, record { handed = record { response = response; key = key; subscribers = subscribers }; live = true }) ∷ []); completed = completed' })
    handed_on t key held subscribers left completed completed' response accepted found distinct climbs separate old rest room flag d asked =
        subst (λ ds. Tallies (record { rows = (hands n t key subscribers response accepted).rows; deliveries = ds; next_number = t.next_number + 1 }) (record { demand = d; deliveries = map (watch (table n) d) (left ++ new_entry ∷ []); completed = completed' }))
        (sym (Climbs-insert 0 left t.next_number new_entry.1 climbs))
        (made (hands n t key subscribers response accepted).rows (t.next_number + 1) d (left ++ new_entry ∷ []) completed'
        (sym (set_value-seen (λ h. h.subscribers) (same_key n key) t.rows new) ∙ asked)
        (Distinct-set n laws (same_key n key) t.rows new distinct)
        (Climbs-push 0 left t.next_number new_entry.1 climbs)
        (Separate-push left new_entry separate (Each-imply (Rest t.rows completed completed' key response t.next_number) (λ e. e.1.handed.response ≢ response) (λ e r. r.apart) left rest))
        (Each-push (λ e. e.1.handed.response < t.next_number + 1) left new_entry (Each-imply (Rest t.rows completed completed' key response t.next_number) (λ e. e.1.handed.response < t.next_number + 1) (λ e r. omega (arith, r.below)) left rest) room)
        old
        (Each-push (FitsNext (hands n t key subscribers response accepted).rows completed') left new_entry
        (Each-imply (Rest t.rows completed completed' key response t.next_number) (FitsNext (hands n t key subscribers response accepted).rows completed')
        (λ e r. replaced t.rows (hands n t key subscribers response accepted).rows completed completed' key response t.next_number (Some new) lookups e r (λ j is same. omega (arith, r.early, ap (λ o. number_in o) is, same))) left rest)
        newest))
      where
        new : Held S
        new = record { subscribers = subscribers; judging = Some (record { number = t.next_number; response = response; accepted = accepted }) }

        new_entry : ℕ × Watched K S
        new_entry = (t.next_number, record { handed = record { response = response; key = key; subscribers = subscribers }; live = true })

        number_in : Option Judgment → ℕ
        number_in None = 0
        number_in (Some j) = j.number

        lookups : (q : K) → lookup (same_key n q) (hands n t key subscribers response accepted).rows ≡ cond (same_key n key q) (Some new) (lookup (same_key n q) t.rows)
        lookups q = lookup-set n laws key q t.rows held new found

        here : lookup (same_key n key) (hands n t key subscribers response accepted).rows ≡ Some new
        here = lookups key ∙ ap (λ b. cond b (Some new) (lookup (same_key n key) t.rows)) (laws.refl key)

        newest : FitsNext (hands n t key subscribers response accepted).rows completed' new_entry
        newest = subst (λ row. FitsAs (is_some row) t.next_number response (was_completed completed' response) (judging_in row)) (sym here) (rw flag refl)

    -- a response comes for a key that is asked for
    pub hands-tallies : (t : Standing K S) (a : Account K S (List (K × List (S × ℕ)))) (key : K) (held : Held S) → lookup (same_key n key) t.rows ≡ Some held → held.judging ≡ None → Tallies t a
        → Tallies (hands n t key held.subscribers t.next_number false) (account_after (table n) a Leaves ((t.next_number, record { response = t.next_number; key = key; subscribers = held.subscribers }) ∷ []))
    hands-tallies t a key held found idle tallies =
        subst (λ ds. Tallies (record { rows = (hands n t key held.subscribers t.next_number false).rows; deliveries = insert_entry nat_cmp ds t.next_number (record { response = t.next_number; key = key; subscribers = held.subscribers }); next_number = t.next_number + 1 })
        (account_after (table n) a Leaves ((t.next_number, record { response = t.next_number; key = key; subscribers = held.subscribers }) ∷ []))) (sym tallies.deliveries)
        (handed_on t key held held.subscribers a.deliveries a.completed a.completed t.next_number false found tallies.distinct tallies.climbs tallies.separate
        (Each-imply (λ r. r < t.next_number) (λ r. r < t.next_number + 1) (λ r less. omega (arith, less)) a.completed tallies.completed)
        rest (omega arith) (never_completed a.completed t.next_number tallies.completed) a.demand
        (set_value_same (same_key n key) (seen (λ h. h.subscribers) t.rows) held.subscribers (lookup-map_values (λ h. h.subscribers) (same_key n key) t.rows ∙ ap (option_map (λ h. h.subscribers)) found) ∙ tallies.demand))
      where
        not_judged : (j : Judgment) (number : ℕ) → judging_of t.rows key ≡ Some j → j.number ≢ number
        not_judged j number is = absurd (none (sym (ap judging_in found ∙ idle) ∙ is))
          where
            none : None ≡ Some j → ⊥
            none is = cc

        rest : Each (Rest t.rows a.completed a.completed key t.next_number t.next_number) a.deliveries
        rest =
            Each-imply (λ e. Fits t.rows a.completed e × ((e.1.handed.response < t.next_number) × (e.0 < t.next_number))) (Rest t.rows a.completed a.completed key t.next_number t.next_number)
            (λ e p. record { fits = p.0; below = p.1.0; apart = omega (arith, p.1.0); alike = refl; old = λ j is. not_judged j e.0 is; early = p.1.1 }) a.deliveries
            (Each-both (Fits t.rows a.completed) (λ e. (e.1.handed.response < t.next_number) × (e.0 < t.next_number)) a.deliveries tallies.fits
            (Each-both (λ e. e.1.handed.response < t.next_number) (λ e. e.0 < t.next_number) a.deliveries tallies.below (Climbs-below 0 a.deliveries t.next_number tallies.climbs)))

    -- the account after a verdict on what was found under the number
    abbrev after_verdict : Account K S (List (K × List (S × ℕ))) → (number : ℕ) → Option Outcome → Option (Watched K S) → List (ℕ × Handed K S) → Account K S (List (K × List (S × ℕ)))
    after_verdict a number outcome found handed = record {
      demand = demand_after_verdict (table n) a outcome found;
      deliveries = map (watch (table n) (demand_after_verdict (table n) a outcome found)) (opens (remove_entry (is_at (nat_cmp number)) a.deliveries) handed);
      completed = completed_after_verdict a.completed outcome found;
    }

    pub completed-none : (a : Account K S (List (K × List (S × ℕ)))) (outcome : Option Outcome) → completed_after_verdict {K = K} {S = S} a.completed outcome None ≡ a.completed
    completed-none a None = refl
    completed-none a (Some (Resolved Complete)) = refl
    completed-none a (Some (Resolved Partial)) = refl
    completed-none a (Some Unresolved) = refl
    completed-none a (Some Invalid) = refl
    completed-none a (Some Ignored) = refl

    pub completed-dead : (a : Account K S (List (K × List (S × ℕ)))) (outcome : Option Outcome) (h : Handed K S) → completed_after_verdict a.completed outcome (Some (record { handed = h; live = false })) ≡ a.completed
    completed-dead a None h = refl
    completed-dead a (Some (Resolved Complete)) h = refl
    completed-dead a (Some (Resolved Partial)) h = refl
    completed-dead a (Some Unresolved) h = refl
    completed-dead a (Some Invalid) h = refl
    completed-dead a (Some Ignored) h = refl

    closed_only : (t : Standing K S) (a : Account K S (List (K × List (S × ℕ)))) (number : ℕ) → Tallies t a
        → Tallies (record { rows = t.rows; deliveries = seen (λ w. w.handed) (remove_entry (is_at (nat_cmp number)) a.deliveries); next_number = t.next_number })
        (record { demand = a.demand; deliveries = map (watch (table n) a.demand) (remove_entry (is_at (nat_cmp number)) a.deliveries); completed = a.completed })
    closed_only t a number tallies =
        made t.rows t.next_number a.demand (remove_entry (is_at (nat_cmp number)) a.deliveries) a.completed tallies.demand tallies.distinct
        (Climbs-remove_entry (is_at (nat_cmp number)) 0 a.deliveries t.next_number tallies.climbs)
        (Separate-remove_entry (is_at (nat_cmp number)) a.deliveries tallies.separate)
        (Each-remove_entry (is_at (nat_cmp number)) (λ e. e.1.handed.response < t.next_number) a.deliveries tallies.below) tallies.completed
        (Each-imply (Fits t.rows a.completed) (FitsNext t.rows a.completed)
        (λ e fits. fits_same e.1.live e.0 e.1.handed.response (was_completed a.completed e.1.handed.response) (was_completed a.completed e.1.handed.response) (judging_of t.rows e.1.handed.key) (lookup (same_key n e.1.handed.key) t.rows) fits refl refl)
        (remove_entry (is_at (nat_cmp number)) a.deliveries) (Each-remove_entry (is_at (nat_cmp number)) (Fits t.rows a.completed) a.deliveries tallies.fits))

    closes-deliveries : (t : Standing K S) (a : Account K S (List (K × List (S × ℕ)))) (number : ℕ) → Tallies t a → (closes t number).deliveries ≡ seen (λ w. w.handed) (remove_entry (is_at (nat_cmp number)) a.deliveries)
    closes-deliveries t a number tallies = ap (remove_entry (is_at (nat_cmp number))) tallies.deliveries ∙ remove_entry-seen (λ w. w.handed) (is_at (nat_cmp number)) a.deliveries

    -- a verdict that counts for nothing, on a number that is not open or no longer in progress
    pub closes-tallies : (t : Standing K S) (a : Account K S (List (K × List (S × ℕ)))) (number : ℕ) (outcome : Option Outcome)
        → ((w : Watched K S) → lookup (is_at (nat_cmp number)) a.deliveries ≡ Some w → w.live ≡ false)
        → Tallies t a → Tallies (closes t number) (account_after (table n) a (Judges number outcome) [])
    closes-tallies t a number outcome dead tallies = at (lookup (is_at (nat_cmp number)) a.deliveries) refl
      where
        base : Tallies (closes t number) (record { demand = a.demand; deliveries = map (watch (table n) a.demand) (remove_entry (is_at (nat_cmp number)) a.deliveries); completed = a.completed })
        base = subst (λ ds. Tallies (record { rows = t.rows; deliveries = ds; next_number = t.next_number }) (record { demand = a.demand; deliveries = map (watch (table n) a.demand) (remove_entry (is_at (nat_cmp number)) a.deliveries); completed = a.completed }))
            (sym (closes-deliveries t a number tallies)) (closed_only t a number tallies)

        dead_verdict : (w : Watched K S) → w.live ≡ false → Tallies (closes t number) (after_verdict a number outcome (Some w) [])
        dead_verdict w is = subst (λ live. Tallies (closes t number) (after_verdict a number outcome (Some (record w { live = live })) [])) (sym is)
            (subst (λ completed. Tallies (closes t number) (record { demand = a.demand; deliveries = map (watch (table n) a.demand) (remove_entry (is_at (nat_cmp number)) a.deliveries); completed = completed })) (sym (completed-dead a outcome w.handed)) base)

        no_verdict : Tallies (closes t number) (after_verdict a number outcome None [])
        no_verdict = subst (λ completed. Tallies (closes t number) (record { demand = a.demand; deliveries = map (watch (table n) a.demand) (remove_entry (is_at (nat_cmp number)) a.deliveries); completed = completed })) (sym (completed-none a outcome)) base

        at : (found : Option (Watched K S)) → lookup (is_at (nat_cmp number)) a.deliveries ≡ found → Tallies (closes t number) (account_after (table n) a (Judges number outcome) [])
        at None is = subst (λ found. Tallies (closes t number) (after_verdict a number outcome found [])) (sym is) no_verdict
        at (Some w) is = subst (λ found. Tallies (closes t number) (after_verdict a number outcome found [])) (sym is) (dead_verdict w (dead w is))

    -- what is open beside a delivery in progress
    others : (t : Standing K S) (a : Account K S (List (K × List (S × ℕ)))) (number : ℕ) (h : Handed K S) (completed : List ℕ) → Tallies t a
        → lookup (is_at (nat_cmp number)) a.deliveries ≡ Some (record { handed = h; live = true })
        → ((response : ℕ) → response ≢ h.response → was_completed completed response ≡ was_completed a.completed response)
        → Each (Rest t.rows a.completed completed h.key h.response t.next_number) (remove_entry (is_at (nat_cmp number)) a.deliveries)
    others t a number h completed tallies found alike =
        Each-imply P (Rest t.rows a.completed completed h.key h.response t.next_number)
        (λ e p. record { fits = p.0; below = p.1.0; apart = p.1.1.1.0; alike = alike e.1.handed.response p.1.1.1.0; old = λ j is same. p.1.1.1.1 (sym same ∙ number_is j is); early = p.1.1.0 })
        (remove_entry (is_at (nat_cmp number)) a.deliveries)
        (Each-both (Fits t.rows a.completed) (λ e. (e.1.handed.response < t.next_number) × ((e.0 < t.next_number) × ((e.1.handed.response ≢ h.response) × (e.0 ≢ number)))) (remove_entry (is_at (nat_cmp number)) a.deliveries)
        (Each-remove_entry (is_at (nat_cmp number)) (Fits t.rows a.completed) a.deliveries tallies.fits)
        (Each-both (λ e. e.1.handed.response < t.next_number) (λ e. (e.0 < t.next_number) × ((e.1.handed.response ≢ h.response) × (e.0 ≢ number))) (remove_entry (is_at (nat_cmp number)) a.deliveries)
        (Each-remove_entry (is_at (nat_cmp number)) (λ e. e.1.handed.response < t.next_number) a.deliveries tallies.below)
        (Each-both (λ e. e.0 < t.next_number) (λ e. (e.1.handed.response ≢ h.response) × (e.0 ≢ number)) (remove_entry (is_at (nat_cmp number)) a.deliveries)
        (Each-remove_entry (is_at (nat_cmp number)) (λ e. e.0 < t.next_number) a.deliveries (Climbs-below 0 a.deliveries t.next_number tallies.climbs))
        (Each-both (λ e. e.1.handed.response ≢ h.response) (λ e. e.0 ≢ number) (remove_entry (is_at (nat_cmp number)) a.deliveries)
        (Separate-others (is_at (nat_cmp number)) a.deliveries (record { handed = h; live = true }) tallies.separate found)
        (Climbs-others number 0 a.deliveries t.next_number tallies.climbs)))))
      where
        P : ℕ × Watched K S → Type 0
        P e = Fits t.rows a.completed e × ((e.1.handed.response < t.next_number) × ((e.0 < t.next_number) × ((e.1.handed.response ≢ h.response) × (e.0 ≢ number))))

        number_in : Option Judgment → ℕ
        number_in None = 0
        number_in (Some j) = j.number

        judged_here : judging_of t.rows h.key ≡ Some (record { number = number; response = h.response; accepted = was_completed a.completed h.response })
        judged_here = Each-lookup (Fits t.rows a.completed) number a.deliveries (record { handed = h; live = true }) tallies.fits found

        number_is : (j : Judgment) → judging_of t.rows h.key ≡ Some j → j.number ≡ number
        number_is j is = ap number_in (sym is ∙ judged_here)

    -- what is judged for the key of a delivery in progress
    pub judged_at : (t : Standing K S) (a : Account K S (List (K × List (S × ℕ)))) (number : ℕ) (h : Handed K S) → Tallies t a → lookup (is_at (nat_cmp number)) a.deliveries ≡ Some (record { handed = h; live = true })
        → judging_of t.rows h.key ≡ Some (record { number = number; response = h.response; accepted = was_completed a.completed h.response })
    judged_at t a number h tallies found = Each-lookup (Fits t.rows a.completed) number a.deliveries (record { handed = h; live = true }) tallies.fits found

    -- the named subscribers are served
    served : (t : Standing K S) (a : Account K S (List (K × List (S × ℕ)))) (number : ℕ) (h : Handed K S) (held : Held S) (completed : List ℕ) (accepted : Bool) → Tallies t a
        → lookup (is_at (nat_cmp number)) a.deliveries ≡ Some (record { handed = h; live = true })
        → lookup (same_key n h.key) t.rows ≡ Some held
        → ((response : ℕ) → response ≢ h.response → was_completed completed response ≡ was_completed a.completed response)
        → Each (λ r. r < t.next_number) completed → was_completed completed h.response ≡ accepted
        → (rest : List (S × ℕ))
        → Tallies (serves n (closes t number) h accepted rest)
        (record {
          demand = left_with n h.key rest a.demand;
          deliveries = map (watch (table n) (left_with n h.key rest a.demand)) (opens (remove_entry (is_at (nat_cmp number)) a.deliveries) (served_again n t h rest));
          completed = completed;
        })
    served t a number h held completed accepted tallies found there alike below flag [] =
        subst (λ ds. Tallies (record { rows = (retires n t h.key).rows; deliveries = ds; next_number = t.next_number })
        (record { demand = without_key n h.key a.demand; deliveries = map (watch (table n) (without_key n h.key a.demand)) (remove_entry (is_at (nat_cmp number)) a.deliveries); completed = completed })) (sym (closes-deliveries t a number tallies))
        (retired t h.key (remove_entry (is_at (nat_cmp number)) a.deliveries) a.completed completed h.response tallies.distinct
        (Climbs-remove_entry (is_at (nat_cmp number)) 0 a.deliveries t.next_number tallies.climbs)
        (Separate-remove_entry (is_at (nat_cmp number)) a.deliveries tallies.separate)
        below (others t a number h completed tallies found alike) a.demand tallies.demand)
    served t a number h held completed accepted tallies found there alike below flag (s ∷ rest) =
        subst (λ ds. Tallies (record { rows = (hands n t h.key (s ∷ rest) h.response accepted).rows; deliveries = insert_entry nat_cmp ds t.next_number (record { response = h.response; key = h.key; subscribers = s ∷ rest }); next_number = t.next_number + 1 })
        (record {
          demand = left_with n h.key (s ∷ rest) a.demand;
          deliveries = map (watch (table n) (left_with n h.key (s ∷ rest) a.demand)) (opens (remove_entry (is_at (nat_cmp number)) a.deliveries) (served_again n t h (s ∷ rest)));
          completed = completed;
        })) (sym (closes-deliveries t a number tallies))
        (handed_on t h.key held (s ∷ rest) (remove_entry (is_at (nat_cmp number)) a.deliveries) a.completed completed h.response accepted there tallies.distinct
        (Climbs-remove_entry (is_at (nat_cmp number)) 0 a.deliveries t.next_number tallies.climbs)
        (Separate-remove_entry (is_at (nat_cmp number)) a.deliveries tallies.separate)
        (Each-imply (λ r. r < t.next_number) (λ r. r < t.next_number + 1) (λ r less. omega (arith, less)) completed below)
        (others t a number h completed tallies found alike)
        (omega (arith, Each-found (λ w. w.handed.response < t.next_number) (is_at (nat_cmp number)) a.deliveries (record { handed = h; live = true }) tallies.below found))
        flag (left_with n h.key (s ∷ rest) a.demand) (ap (λ d. set_value (same_key n h.key) d (s ∷ rest)) tallies.demand))

    -- the key waits again
    retried : (t : Standing K S) (a : Account K S (List (K × List (S × ℕ)))) (number : ℕ) (h : Handed K S) (held : Held S) → Tallies t a
        → lookup (is_at (nat_cmp number)) a.deliveries ≡ Some (record { handed = h; live = true }) → lookup (same_key n h.key) t.rows ≡ Some held
        → Tallies (drops n (closes t number) h.key held.subscribers)
        (record { demand = a.demand; deliveries = map (watch (table n) a.demand) (remove_entry (is_at (nat_cmp number)) a.deliveries); completed = a.completed })
    retried t a number h held tallies found there =
        subst (λ ds. Tallies (record { rows = (drops n t h.key held.subscribers).rows; deliveries = ds; next_number = t.next_number })
        (record { demand = a.demand; deliveries = map (watch (table n) a.demand) (remove_entry (is_at (nat_cmp number)) a.deliveries); completed = a.completed })) (sym (closes-deliveries t a number tallies))
        (dropped t h.key held (remove_entry (is_at (nat_cmp number)) a.deliveries) a.completed a.completed h.response there tallies.distinct
        (Climbs-remove_entry (is_at (nat_cmp number)) 0 a.deliveries t.next_number tallies.climbs)
        (Separate-remove_entry (is_at (nat_cmp number)) a.deliveries tallies.separate)
        tallies.completed (others t a number h a.completed tallies found (λ r apart. refl)) a.demand tallies.demand)

    -- what is over for the whole key
    given_up : (t : Standing K S) (a : Account K S (List (K × List (S × ℕ)))) (number : ℕ) (h : Handed K S) → Tallies t a
        → lookup (is_at (nat_cmp number)) a.deliveries ≡ Some (record { handed = h; live = true })
        → Tallies (retires n (closes t number) h.key)
        (record { demand = without_key n h.key a.demand; deliveries = map (watch (table n) (without_key n h.key a.demand)) (remove_entry (is_at (nat_cmp number)) a.deliveries); completed = a.completed })
    given_up t a number h tallies found =
        subst (λ ds. Tallies (record { rows = (retires n t h.key).rows; deliveries = ds; next_number = t.next_number })
        (record { demand = without_key n h.key a.demand; deliveries = map (watch (table n) (without_key n h.key a.demand)) (remove_entry (is_at (nat_cmp number)) a.deliveries); completed = a.completed })) (sym (closes-deliveries t a number tallies))
        (retired t h.key (remove_entry (is_at (nat_cmp number)) a.deliveries) a.completed a.completed h.response tallies.distinct
        (Climbs-remove_entry (is_at (nat_cmp number)) 0 a.deliveries t.next_number tallies.climbs)
        (Separate-remove_entry (is_at (nat_cmp number)) a.deliveries tallies.separate)
        tallies.completed (others t a number h a.completed tallies found (λ r apart. refl)) a.demand tallies.demand)

    asked_at : (t : Standing K S) (a : Account K S (List (K × List (S × ℕ)))) (key : K) (held : Held S) → Tallies t a → lookup (same_key n key) t.rows ≡ Some held → lookup (same_key n key) a.demand ≡ Some held.subscribers
    asked_at t a key held tallies there =
        ap (lookup (same_key n key)) (sym tallies.demand) ∙ (lookup-map_values (λ h. h.subscribers) (same_key n key) t.rows ∙ ap (option_map (λ h. h.subscribers)) there)

    -- a verdict on a delivery in progress
    pub rules-tallies : (t : Standing K S) (a : Account K S (List (K × List (S × ℕ)))) (number : ℕ) (h : Handed K S) (held : Held S) (outcome : Option Outcome) → Tallies t a
        → lookup (is_at (nat_cmp number)) a.deliveries ≡ Some (record { handed = h; live = true }) → lookup (same_key n h.key) t.rows ≡ Some held
        → Tallies (rules n (closes t number) h held.subscribers (ruling (was_completed a.completed h.response) outcome))
        (account_after (table n) a (Judges number outcome) (ruled_out n (closes t number) h held.subscribers (ruling (was_completed a.completed h.response) outcome)))
    rules-tallies t a number h held outcome tallies found there =
        subst (λ w. Tallies (rules n (closes t number) h held.subscribers (ruling (was_completed a.completed h.response) outcome))
        (after_verdict a number outcome w (ruled_out n (closes t number) h held.subscribers (ruling (was_completed a.completed h.response) outcome)))) (sym found) (by_outcome outcome)
      where
        rest : List (S × ℕ)
        rest = without n.subscriber h.subscribers held.subscribers

        named : without_named n h.key h.subscribers a.demand ≡ left_with n h.key rest a.demand
        named = ap (without_these n h.key h.subscribers a.demand) (asked_at t a h.key held tallies there)

        served_to : (completed : List ℕ) (accepted : Bool) → ((response : ℕ) → response ≢ h.response → was_completed completed response ≡ was_completed a.completed response)
            → Each (λ r. r < t.next_number) completed → was_completed completed h.response ≡ accepted
            → Tallies (serves n (closes t number) h accepted rest)
            (record { demand = without_named n h.key h.subscribers a.demand; deliveries = map (watch (table n) (without_named n h.key h.subscribers a.demand)) (opens (remove_entry (is_at (nat_cmp number)) a.deliveries) (served_again n t h rest)); completed = completed })
        served_to completed accepted alike below flag =
            subst (λ d. Tallies (serves n (closes t number) h accepted rest) (record { demand = d; deliveries = map (watch (table n) d) (opens (remove_entry (is_at (nat_cmp number)) a.deliveries) (served_again n t h rest)); completed = completed })) (sym named)
            (served t a number h held completed accepted tallies found there alike below flag rest)

        invalid : (accepted : Bool) → was_completed a.completed h.response ≡ accepted
            → Tallies (rules n (closes t number) h held.subscribers (if accepted then Retire else Retry))
            (record {
              demand = if accepted then without_key n h.key a.demand else a.demand;
              deliveries = map (watch (table n) (if accepted then without_key n h.key a.demand else a.demand)) (opens (remove_entry (is_at (nat_cmp number)) a.deliveries) (ruled_out n (closes t number) h held.subscribers (if accepted then Retire else Retry)));
              completed = a.completed;
            })
        invalid true is = given_up t a number h tallies found
        invalid false is = retried t a number h held tallies found there

        by_outcome : (outcome : Option Outcome) → Tallies (rules n (closes t number) h held.subscribers (ruling (was_completed a.completed h.response) outcome))
            (after_verdict a number outcome (Some (record { handed = h; live = true })) (ruled_out n (closes t number) h held.subscribers (ruling (was_completed a.completed h.response) outcome)))
        by_outcome None = served_to a.completed (was_completed a.completed h.response) (λ r apart. refl) tallies.completed refl
        by_outcome (Some (Resolved Complete)) =
            served_to (h.response ∷ a.completed) true
            (λ r apart. ap (λ b. b || was_completed a.completed r) (ne_eqb h.response r (λ same. apart (sym same))))
            (Each-found (λ w. w.handed.response < t.next_number) (is_at (nat_cmp number)) a.deliveries (record { handed = h; live = true }) tallies.below found, tallies.completed)
            (ap (λ b. b || was_completed a.completed h.response) (eq-eqb h.response h.response refl))
        by_outcome (Some (Resolved Partial)) = retried t a number h held tallies found there
        by_outcome (Some Unresolved) = retried t a number h held tallies found there
        by_outcome (Some Invalid) = invalid (was_completed a.completed h.response) refl
        by_outcome (Some Ignored) = given_up t a number h tallies found
