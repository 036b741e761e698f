-- What a machine's parts say of the row of a key.
use Rattle.std.proofs.Common.{◌≡◌, refl, append_assoc, append-nil, ap, sym, ◌∙◌, subst, ℕ, zero, suc, Bool, true, false, cond, List, [], ◌∷◌, ◌++◌, map, find, Option, None, Some, IfSome, is_some}
use Rattle.std.proofs.lemmas.Cmp.{eq_by_cmp_equiv}
use Rattle.std.proofs.lemmas.Map.Keys.{IsDistinct-from_sorted, sorted_head, sorted_tail}
use Rattle.std.proofs.lemmas.Map.Made.{lookup-map_values}
use Rattle.std.specs.Prelude.{unwrap_or}
use Rattle.std.specs.Cmp.{IsTotalOrder}
use Rattle.std.specs.List.{AllByRecursion, IsDistinct, cons_option, filter_map}
use Rattle.std.specs.List.Sorted.{IsStrictlySortedBy}
use Rattle.std.specs.Map.{keys_of, lookup, lookup_entry}
use Rattle.std.specs.BTreeMap.{is_at}
use Rattle.std.specs.Option.{option_and_then, option_map}
use Rattle.std.specs.Ordering.{is_eq}
use Rattle.std.specs.declared.cmp.Ordering.{Ordering}
use Rattle.std.specs.declared.cmp.Ordering.TheVariants.{Less, Equal, Greater}
use Rattle.resolver_types.specs.Names.{same_key}
use Rattle.resolver_priority_set.specs.Priorities.{is_of}
use Rattle.resolver_types.specs.Table.{is_asked, subscribers_of}
use Rattle.resolver_delivery.specs.Entries.{Numbered, number_of}
use Rattle.resolver_fetch_requests.specs.declared.requests.request.Request.{Request}
use Rattle.resolver_fetch_requests.specs.Requests.{is_for, request_for}
use Rattle.resolver_fetch_scan.specs.declared.place.Place.{Place}
use Rattle.resolver_fetch_scan.specs.Fetcher as calls
use Rattle.resolver_model.proofs.Rows.{each_found}
use Rattle.resolver_model_peer.specs.declared.named.Source.{Source}
use Rattle.resolver_model_peer.specs.Parties.{Parties, names_of, orders_of}
use Rattle.resolver_model_peer.specs.PeerRows.{Row, Phase, Waits, Asked, Judged, request_in, request_of}
use Rattle.resolver_model_peer.specs.Peer.{Machine, row_of}
use Rattle.resolver_core.specs.declared.p2p.rows.Phase.TheVariants as phases
use Rattle.resolver_core.specs.declared.p2p.rows.Row.{Row as ListedRow}
use Rattle.resolver_core.specs.Listed.{listed, listed_phase, listed_row}
use Rattle.resolver_peer_step.specs.Tied.{IsOwn, IsSound, count_of, demand_of, fetcher_of, held_of, holds_in, holds_of, place_in, place_of}
use Rattle.resolver_peer_step.proofs.Keeping.{IsSingle, all-by, all-imply, find-in_turn}
use Rattle.resolver_peer_step.proofs.Retained.{apart-ids, apart-places, by_id-turn, number-held, numbers_total, places_total}
use Rattle.resolver_peer_step.proofs.Slots.{around-given, around-some, given-slot, lookup-slot, slot}

-- a value that is found, with its key
entry-found : {K X : Type 0} (t : K → Bool) (es : List (K × X)) → lookup t es ≡ option_map (λ e. e.1) (lookup_entry t es)
entry-found t [] = refl
entry-found t (e ∷ es) = at (t e.0) (entry-found t es)
  where
    at : (b : Bool) → lookup t es ≡ option_map (λ e. e.1) (lookup_entry t es) → cond b (Some e.1) (lookup t es) ≡ option_map (λ e. e.1) (cond b (Some e) (lookup_entry t es))
    at true rest = refl
    at false rest = rest

module _ {K X Y : Type 0} (t : K → Bool) (h : K × X → Option Y) (test : Y → Bool) where
  -- what is given of an entry passes where its key does
  abbrev Tells : K × X → Type 0
  Tells e = IfSome (h e) (λ y. test y ≡ t e.0)

  -- where a key passes, none after it does
  abbrev AtMostOne : List (K × X) → Type 0
  AtMostOne [] = Unit {0}
  AtMostOne (e ∷ es) = (t e.0 ≡ true → AllByRecursion (λ k. t k ≡ false) (keys_of es)) × AtMostOne es

  -- where no key passes, nothing is found
  none-found : (es : List (K × X)) → AllByRecursion Tells es → AllByRecursion (λ k. t k ≡ false) (keys_of es) → find test (filter_map h es) ≡ None
  none-found [] tells none = refl
  none-found (e ∷ es) tells none = at (h e) tells.0 (none-found es tells.1 none.1)
    where
      at : (o : Option Y) → IfSome o (λ y. test y ≡ t e.0) → find test (filter_map h es) ≡ None → find test (cons_option o (filter_map h es)) ≡ None
      at None here rest = rest
      at (Some y) here rest = rw (here ∙ none.0) rest

  -- what is found in a table is what the entry of the key gives
  entry-given : (es : List (K × X)) → AllByRecursion Tells es → AtMostOne es → find test (filter_map h es) ≡ option_and_then h (lookup_entry t es)
  entry-given [] tells one = refl
  entry-given (e ∷ es) tells one = at (t e.0) refl (h e) refl tells.0 (entry-given es tells.1 one.1)
    where
      at : (b : Bool) → t e.0 ≡ b → (o : Option Y) → h e ≡ o → IfSome o (λ y. test y ≡ b) → find test (filter_map h es) ≡ option_and_then h (lookup_entry t es)
          → find test (cons_option o (filter_map h es)) ≡ option_and_then h (cond b (Some e) (lookup_entry t es))
      at true is None given here rest = none-found es tells.1 (one.0 is) ∙ sym given
      at true is (Some y) given here rest = rw here (sym given)
      at false is None given here rest = rest
      at false is (Some y) given here rest = rw here rest

  -- what a table gives passes once at most
  single-given : (es : List (K × X)) → AllByRecursion Tells es → AtMostOne es → IsSingle test (filter_map h es)
  single-given [] tells one = tt
  single-given (e ∷ es) tells one = at (h e) tells.0 (single-given es tells.1 one.1)
    where
      at : (o : Option Y) → IfSome o (λ y. test y ≡ t e.0) → IsSingle test (filter_map h es) → IsSingle test (cons_option o (filter_map h es))
      at None here rest = rest
      at (Some y) here rest = ((λ passes. none-found es tells.1 (one.0 (sym here ∙ passes))), rest)

-- what holds of a value, whichever it is, holds if there is one
pub if-some : {X : Type 0} (o : Option X) (Q : X → Type 0) → ((x : X) → o ≡ Some x → Q x) → IfSome o Q
if-some None Q is = tt
if-some (Some x) Q is = is x refl

-- what holds if there is a value holds of this one
pub some-at : {X : Type 0} (o : Option X) (Q : X → Type 0) (x : X) → o ≡ Some x → IfSome o Q → Q x
some-at o Q x is all = subst (λ o. IfSome o Q) is all

-- two that are equal compare as equal
equal : (r : Ordering) → is_eq r ≡ true → r ≡ Equal
equal Less same = absurd cc
equal Equal same = refl
equal Greater same = absurd cc

-- a count that is kept is the count
counted : (n : ℕ) → unwrap_or (count_of n) 0 ≡ n
counted zero = refl
counted (suc n) = refl

module _ {K S P : Type 0} where
  -- where a key in this phase waits
  place-shown-at : (e : Option (K × Row K S P)) (place : Place) → option_map (λ p. p.0) (option_and_then place_of e) ≡ Some place
      → IfSome (option_map (λ e. e.1) e) (λ row. phases.Waiting place.is_retry place.due ≡ listed_phase row.phase)
  place-shown-at None place is = tt
  place-shown-at (Some e) place is = at e.1.phase is
    where
      at : (phase : Phase K P) → option_map (λ p. p.0) (place_in e.0 phase) ≡ Some place → phases.Waiting place.is_retry place.due ≡ listed_phase phase
      at (Waits there) is = let same : there ≡ place = cc in ap (λ (p : Place). phases.Waiting p.is_retry p.due) (sym same)
      at (Asked id request) is = absurd cc
      at (Judged j) is = absurd cc

  -- what was asked for a key in this phase
  request-shown-at : (e : Option (K × Row K S P)) (r : ℕ × Request K P) → option_and_then request_of e ≡ Some r
      → IfSome (option_map (λ e. e.1) e) (λ row. phases.Asked r.0 r.1.peer r.1.deadline ≡ listed_phase row.phase)
  request-shown-at None r is = tt
  request-shown-at (Some e) r is = at e.1.phase is
    where
      at : (phase : Phase K P) → request_in phase ≡ Some r → phases.Asked r.0 r.1.peer r.1.deadline ≡ listed_phase phase
      at (Waits there) is = absurd cc
      at (Asked id request) is =
          let asked : ℕ × Request K P = (id, request) in
          let same : asked ≡ r = cc in
          ap (λ (r : ℕ × Request K P). phases.Asked r.0 r.1.peer r.1.deadline) (sym same)
      at (Judged j) is = absurd cc

  -- the number under which a key in this phase is judged
  number-shown-at : (row : Option (Row K S P)) (n : ℕ) → option_and_then (λ h. h.0) (option_map (λ row. holds_in row.phase) row) ≡ Some n
      → IfSome row (λ row. phases.Judged n ≡ listed_phase row.phase)
  number-shown-at None n is = tt
  number-shown-at (Some row) n is = at row.phase is
    where
      at : (phase : Phase K P) → (holds_in phase).0 ≡ Some n → phases.Judged n ≡ listed_phase phase
      at (Waits there) is = absurd cc
      at (Asked id request) is = absurd cc
      at (Judged j) is = let same : j.number ≡ n = cc in ap phases.Judged (sym same)

  -- a key that is there waits, or is asked for or judged
  some-shown-at : (e : Option (K × Row K S P)) → is_some (option_map (λ e. e.1) e) ≡ true → option_map (λ p. p.0) (option_and_then place_of e) ≡ None → option_and_then request_of e ≡ None
      → option_and_then (λ h. h.0) (option_map (λ row. holds_in row.phase) (option_map (λ e. e.1) e)) ≡ None → ⊥
  some-shown-at None there place request number = cc
  some-shown-at (Some e) there place request number = at e.1.phase place request number
    where
      at : (phase : Phase K P) → option_map (λ p. p.0) (place_in e.0 phase) ≡ None → request_in phase ≡ None → (holds_in phase).0 ≡ None → ⊥
      at (Waits there) place request number = cc
      at (Asked id asked) place request number = cc
      at (Judged j) place request number = cc

module _ {K S P : Type 0} (a : Parties K S P) (o : IsTotalOrder a.key) (m : Machine K S P) (sound : IsSound a m) (key : K) where
  -- the row of the key, under its own name
  abbrev entry : Option (K × Row K S P)
  entry = lookup_entry (is_at (a.key key)) m.rows

  -- the key's row is that of its entry
  row-entry : row_of a m key ≡ option_map (λ e. e.1) (lookup_entry (is_at (a.key key)) m.rows)
  row-entry = entry-found (is_at (a.key key)) m.rows

  -- one row at most has the key
  at-most-one : (rows : List (K × Row K S P)) → IsStrictlySortedBy a.key (keys_of rows) → AtMostOne (is_at (a.key key)) place_of (is_of a.key key) rows
  at-most-one [] ordered = tt
  at-most-one (r ∷ rows) ordered = (
    (λ passes. all-imply (λ k. a.key r.0 k ≡ Less) (λ k. is_eq (a.key key k) ≡ false) (λ k below. ap is_eq (o.congr key r.0 k (equal (a.key key r.0) passes) ∙ below)) (keys_of rows) (sorted_head a.key r.0 (keys_of rows) ordered)),
    at-most-one rows (sorted_tail a.key r.0 (keys_of rows) ordered),
  )

  -- where a key waits is told by its row
  places-tell : (r : K × Row K S P) → Tells (is_at (a.key key)) place_of (is_of a.key key) r
  places-tell r = at r.1.phase
    where
      at : (phase : Phase K P) → IfSome (place_in r.0 phase) (λ p. is_of a.key key p ≡ is_eq (a.key key r.0))
      at (Waits place) = refl
      at (Asked id request) = tt
      at (Judged j) = tt

  -- what is asked for a key is told by its row
  requests-tell : (r : K × Row K S P) → IsOwn m.deliveries r.0 r.1.phase → Tells (is_at (a.key key)) request_of (is_for a.key key) r
  requests-tell r own = at r.1.phase own
    where
      at : (phase : Phase K P) → IsOwn m.deliveries r.0 phase → IfSome (request_in phase) (λ x. is_for a.key key x ≡ is_eq (a.key key r.0))
      at (Waits place) own = tt
      at (Asked id request) own = ap (λ k. is_eq (a.key key k)) own
      at (Judged j) own = tt

  -- where the key waits
  place-found : calls.place_of (orders_of a) (fetcher_of a m) key ≡ option_map (λ p. p.0) (option_and_then place_of (lookup_entry (is_at (a.key key)) m.rows))
  place-found =
      let one = at-most-one m.rows sound.ordered in
      let tells = all-by (Tells (is_at (a.key key)) place_of (is_of a.key key)) places-tell m.rows in
      ap (option_map (λ p. p.0))
      (find-in_turn (places_total a o) (is_of a.key key) (filter_map place_of m.rows) (apart-places a o m.rows sound.ordered) (single-given (is_at (a.key key)) place_of (is_of a.key key) m.rows tells one)
      ∙ entry-given (is_at (a.key key)) place_of (is_of a.key key) m.rows tells one)

  -- the request for the key
  request-found : request_for a.key (fetcher_of a m).asked key ≡ option_and_then request_of (lookup_entry (is_at (a.key key)) m.rows)
  request-found =
      let one = at-most-one m.rows sound.ordered in
      let tells = all-imply (λ r. IsOwn m.deliveries r.0 r.1.phase) (Tells (is_at (a.key key)) request_of (is_for a.key key)) requests-tell m.rows sound.own in
      ap (find (is_for a.key key)) (by_id-turn (filter_map request_of m.rows) sound.ids)
      ∙ find-in_turn numbers_total (is_for a.key key) (filter_map request_of m.rows) (apart-ids (filter_map request_of m.rows) sound.ids) (single-given (is_at (a.key key)) request_of (is_for a.key key) m.rows tells one)
      ∙ entry-given (is_at (a.key key)) request_of (is_for a.key key) m.rows tells one

  module _ (numbered : Numbered K S (List ℕ) (Source P) ℕ) (held : map (λ x. (x.0, held_of x.1)) numbered.keys ≡ holds_of m.rows) where
    -- the number under which the key is judged
    number-found : number_of a.key numbered key ≡ option_and_then (λ h. h.0) (option_map (λ row. holds_in row.phase) (row_of a m key))
    number-found =
        number-held (lookup (is_at (a.key key)) numbered.keys)
        ∙ ap (option_and_then (λ h. h.0))
        (sym (lookup-map_values held_of (is_at (a.key key)) numbered.keys) ∙ ap (lookup (is_at (a.key key))) held ∙ lookup-map_values (λ row. holds_in row.phase) (is_at (a.key key)) m.rows)

    -- a key with this number is listed as judged
    pub number-shown : (n : ℕ) → number_of a.key numbered key ≡ Some n → IfSome (row_of a m key) (λ row. phases.Judged n ≡ listed_phase row.phase)
    number-shown n is = number-shown-at (row_of a m key) n (sym number-found ∙ is)

    -- a key that is there waits, or is asked for or judged
    pub some-shown : is_some (row_of a m key) ≡ true → calls.place_of (orders_of a) (fetcher_of a m) key ≡ None → request_for a.key (fetcher_of a m).asked key ≡ None → number_of a.key numbered key ≡ None → ⊥
    some-shown there place request number =
        some-shown-at (lookup_entry (is_at (a.key key)) m.rows) (ap is_some (sym row-entry) ∙ there) (sym place-found ∙ place) (sym request-found ∙ request)
        (ap (λ row. option_and_then (λ h. h.0) (option_map (λ row. holds_in row.phase) row)) (sym row-entry) ∙ sym number-found ∙ number)

  -- a key that waits here is listed so
  pub place-shown : (place : Place) → calls.place_of (orders_of a) (fetcher_of a m) key ≡ Some place → IfSome (row_of a m key) (λ row. phases.Waiting place.is_retry place.due ≡ listed_phase row.phase)
  place-shown place is =
      subst (λ row. IfSome row (λ row. phases.Waiting place.is_retry place.due ≡ listed_phase row.phase)) (sym row-entry)
      (place-shown-at (lookup_entry (is_at (a.key key)) m.rows) place (sym place-found ∙ is))

  -- a key that is asked for by this request is listed so
  pub request-shown : (r : ℕ × Request K P) → request_for a.key (fetcher_of a m).asked key ≡ Some r → IfSome (row_of a m key) (λ row. phases.Asked r.0 r.1.peer r.1.deadline ≡ listed_phase row.phase)
  request-shown r is =
      subst (λ row. IfSome row (λ row. phases.Asked r.0 r.1.peer r.1.deadline ≡ listed_phase row.phase)) (sym row-entry)
      (request-shown-at (lookup_entry (is_at (a.key key)) m.rows) r (sym request-found ∙ is))

  -- a key that is wanted has a row
  pub there-wanted : (demand : List (K × List (S × ℕ))) → demand ≡ demand_of m.rows → is_asked (names_of a) demand key ≡ is_some (row_of a m key)
  there-wanted demand is =
      ap (λ d. is_asked (names_of a) d key) is ∙ ap is_some (lookup-map_values (λ row. row.subscribers) (is_at (a.key key)) m.rows) ∙ at (row_of a m key)
    where
      at : (row : Option (Row K S P)) → is_some (option_map (λ row. row.subscribers) row) ≡ is_some row
      at None = refl
      at (Some row) = refl

  -- who wants the key is told by its row
  wanted-by : (demand : List (K × List (S × ℕ))) → demand ≡ demand_of m.rows → subscribers_of (names_of a) demand key ≡ option_map (λ row. row.subscribers) (row_of a m key)
  wanted-by demand is = ap (λ d. subscribers_of (names_of a) d key) is ∙ lookup-map_values (λ row. row.subscribers) (is_at (a.key key)) m.rows

  -- what is listed of a key that these subscribers want is its row
  pub row-shown : (demand : List (K × List (S × ℕ))) → demand ≡ demand_of m.rows → (subscribers : List (S × ℕ)) → Some subscribers ≡ subscribers_of (names_of a) demand key
      → (shown : ListedRow K S P) → IfSome (row_of a m key) (λ row. subscribers ≡ row.subscribers → shown ≡ listed (key, row)) → Some shown ≡ listed_row a m key
  row-shown demand is subscribers there shown listed-so = at (row_of a m key) (there ∙ wanted-by demand is) listed-so
    where
      at : (row : Option (Row K S P)) → Some subscribers ≡ option_map (λ row. row.subscribers) row → IfSome row (λ row. subscribers ≡ row.subscribers → shown ≡ listed (key, row))
          → Some shown ≡ option_map (λ row. listed (key, row)) row
      at None same shown-so = absurd cc
      at (Some row) same shown-so = ap Some (shown-so cc)

  -- a key that nobody wants has no row
  pub none-shown : (demand : List (K × List (S × ℕ))) → demand ≡ demand_of m.rows → None ≡ subscribers_of (names_of a) demand key → None ≡ listed_row a m key
  none-shown demand is none = at (row_of a m key) (none ∙ wanted-by demand is)
    where
      at : (row : Option (Row K S P)) → None ≡ option_map (λ row. row.subscribers) row → None ≡ option_map (λ row. listed (key, row)) row
      at None same = refl
      at (Some row) same = absurd cc

  -- an equal key finds the same
  lookup-equal : {Y : Type 0} (before after : List (K × Y)) (own : K) → a.key key own ≡ Equal → (was : Option Y) → lookup (is_at (a.key key)) (slot before own was after) ≡ lookup (is_at (a.key own)) (slot before own was after)
  lookup-equal before after own same was = ap (λ (t : K → Bool). lookup t (slot before own was after)) (λ i k. is_eq (o.congr key own k same i))

  -- what a table gives of the key's row is found under the key
  given-found : {Y : Type 0} (h : Row K S P → Option Y) (row : Row K S P) → row_of a m key ≡ Some row → lookup (is_at (a.key key)) (filter_map (λ r. option_map (λ y. (r.0, y)) (h r.1)) m.rows) ≡ h row
  given-found h row found =
      let f = around-some o m.rows key row sound.ordered found in
      ap (λ rows. lookup (is_at (a.key key)) (filter_map (λ r. option_map (λ y. (r.0, y)) (h r.1)) rows)) f.at.whole
      ∙ ap (lookup (is_at (a.key key))) (given-slot o h f.at.before f.at.after f.own (Some row))
      ∙ lookup-equal (filter_map (λ r. option_map (λ y. (r.0, y)) (h r.1)) f.at.before) (filter_map (λ r. option_map (λ y. (r.0, y)) (h r.1)) f.at.after) f.own f.same
      (h row)
      ∙ lookup-slot o (filter_map (λ r. option_map (λ y. (r.0, y)) (h r.1)) f.at.before) (filter_map (λ r. option_map (λ y. (r.0, y)) (h r.1)) f.at.after) f.own (h row) (around-given o h f.at.before f.at.after f.own f.at.around)

  -- what a table of targets, or of retries, has under the key
  pub targets-shown : (row : Row K S P) → row_of a m key ≡ Some row → calls.targets_of (orders_of a) (fetcher_of a m) key ≡ row.targets
  targets-shown row found = given-found (λ row. row.targets) row found

  -- how often the key was retried
  pub retries-shown : (row : Row K S P) → row_of a m key ≡ Some row → calls.retries_of (orders_of a) (fetcher_of a m) key ≡ row.retries
  retries-shown row found = ap (λ n. unwrap_or n 0) (given-found (λ row. count_of row.retries) row found) ∙ counted row.retries

-- The rows that are left to list, and what is listed so far.
pub record Lists {K S P : Type 0} (a : Parties K S P) (m : Machine K S P) (list : List (ListedRow K S P)) (left : List (K × List (S × ℕ))) : Type 0 where
  pub rows : List (K × Row K S P)
  pub is : left ≡ demand_of rows
  pub made : list ++ map listed rows ≡ map listed m.rows
  pub found : AllByRecursion (λ r. row_of a m r.0 ≡ Some r.1) rows

module _ {K S P : Type 0} (a : Parties K S P) (o : IsTotalOrder a.key) (m : Machine K S P) (sound : IsSound a m) where
  -- no two keys of the rows are equal
  keys-distinct : IsDistinct (same_key (names_of a)) (keys_of m.rows)
  keys-distinct = IsDistinct-from_sorted a.key (keys_of m.rows) sound.ordered

  -- nothing is listed at first
  pub lists-none : (left : List (K × List (S × ℕ))) → left ≡ demand_of m.rows → Lists a m [] left
  lists-none left is = record { rows = m.rows; is = is; made = refl; found = each_found (names_of a) (eq_by_cmp_equiv o) m.rows keys-distinct }

  module _ (list : List (ListedRow K S P)) (key : K) (subscribers : List (S × ℕ)) (left : List (K × List (S × ℕ))) where
    -- the next row is that of the key
    pub record Next : Type 0 where
      pub row : Row K S P
      pub found : row_of a m key ≡ Some row
      pub same : subscribers ≡ row.subscribers
      pub pushed : (shown : ListedRow K S P) → shown ≡ listed (key, row) → Lists a m (list ++ shown ∷ []) left

    -- the next key has the next row
    pub next-of : Lists a m list ((key, subscribers) ∷ left) → Next
    next-of so_far = at so_far.rows so_far.is so_far.made so_far.found
      where
        at : (rows : List (K × Row K S P)) → (key, subscribers) ∷ left ≡ demand_of rows → list ++ map listed rows ≡ map listed m.rows → AllByRecursion (λ r. row_of a m r.0 ≡ Some r.1) rows → Next
        at [] is made found = absurd cc
        at (r ∷ rows) is made found =
            let first : K × List (S × ℕ) = (key, subscribers) in
            let theirs : K × List (S × ℕ) = (r.0, r.1.subscribers) in
            let here : first ≡ theirs = cc in
            let key_is = ap (λ (e : K × List (S × ℕ)). e.0) here in
            record {
              row = r.1;
              found = ap (row_of a m) key_is ∙ found.0;
              same = ap (λ (e : K × List (S × ℕ)). e.1) here;
              pushed = λ shown is_listed. record {
                rows = rows;
                is = cc;
                made = append_assoc list (shown ∷ []) (map listed rows) ∙ ap (λ s. list ++ s ∷ map listed rows) (is_listed ∙ ap (λ k. listed (k, r.1)) key_is) ∙ made;
                found = found.1;
              };
            }

  -- where no row is left, all are listed
  pub lists-all : (list : List (ListedRow K S P)) → Lists a m list [] → list ≡ map listed m.rows
  lists-all list so_far = at so_far.rows so_far.is so_far.made
    where
      at : (rows : List (K × Row K S P)) → [] ≡ demand_of rows → list ++ map listed rows ≡ map listed m.rows → list ≡ map listed m.rows
      at [] is made = sym (append-nil list) ∙ made
      at (r ∷ rows) is made = absurd cc

  -- the keys of the listed rows are the rows'
  keys-listed : (rows : List (K × Row K S P)) → map (λ r. r.key) (map listed rows) ≡ keys_of rows
  keys-listed [] = refl
  keys-listed (r ∷ rows) = ap (λ ks. r.0 ∷ ks) (keys-listed rows)

  -- the listed keys are in order
  pub listed-ordered : (list : List (ListedRow K S P)) → list ≡ map listed m.rows → IsStrictlySortedBy a.key (map (λ row. row.key) list)
  listed-ordered list is = subst (IsStrictlySortedBy a.key) (sym (ap (map (λ r. r.key)) is ∙ keys-listed m.rows)) sound.ordered

  -- no two of the listed keys are equal
  pub listed-once : (list : List (ListedRow K S P)) → list ≡ map listed m.rows → IsDistinct (λ k l. is_eq (a.key k l)) (map (λ row. row.key) list)
  listed-once list is = subst (IsDistinct (λ k l. is_eq (a.key k l))) (sym (ap (map (λ r. r.key)) is ∙ keys-listed m.rows)) keys-distinct
