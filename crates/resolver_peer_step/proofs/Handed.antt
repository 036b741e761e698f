-- The parts once a response was handed out.
use Rattle.std.proofs.Common.{◌≡◌, refl, ap, sym, ◌∙◌, subst, ℕ, ◌+◌, ◌-◌, ◌<◌, ◌^◌, Bool, true, false, List, [], ◌∷◌, ◌++◌, map, Option, None, Some, Result, Ok, Err, append-nil}
use Rattle.std.specs.Prelude.{is_some, length, nat_lt}
use Rattle.std.proofs.lemmas.Bool.{lt-ltb}
use Rattle.std.proofs.lemmas.Map.Made.{lookup-map_values}
use Rattle.std.specs.Option.{option_map, option_and_then}
use Rattle.std.specs.Result.{IfErr, OnOk}
use Rattle.std.specs.Cmp.{IsTotalOrder}
use Rattle.std.specs.List.{IsDistinct, cons_option, filter_map}
use Rattle.std.specs.List.Sorted.{IsStrictlySortedBy}
use Rattle.std.specs.Map.{keys_of, lookup, set_value}
use Rattle.std.specs.BTreeMap.{insert_entry, is_at}
use Rattle.std.specs.Ordering.{nat_cmp}
use Rattle.resolver_base.specs.declared.fault.Fault.{Fault}
use Rattle.resolver_base.specs.declared.fault.Fault.TheVariants as faults
use Rattle.resolver_types.specs.Table as tables
use Rattle.resolver_delivery.specs.declared.entry.Entry.{Entry}
use Rattle.resolver_delivery.specs.declared.entry.Response.{Response}
use Rattle.resolver_delivery.specs.Entries.{changed_at, delivered, is_tracked, number_of, numbered, with_response}
use Rattle.resolver_fetch_requests.specs.declared.requests.request.Request.{Request}
use Rattle.resolver_fetch_requests.specs.Requests.{by_id, without_request}
use Rattle.resolver_sampling.specs.Times.{elapsed_since}
use Rattle.resolver_fetch_scan.specs.Fetcher as fetchers
use Rattle.resolver_fetch_scan.specs.Fetcher.{Fetcher}
use Rattle.resolver_model.proofs.Mapped.{insert_entry-seen, set_value-seen}
use Rattle.resolver_model_peer.specs.declared.named.Source.{Source}
use Rattle.resolver_model_peer.specs.Parties.{Parties, names_of, orders_of}
use Rattle.resolver_model_peer.specs.PeerRows.{Row, Judged, Judging, change_entry, request_in, request_of}
use Rattle.resolver_model_peer.specs.Peer.{freed, Deliver, Done, Machine, Open, answered, hand_out, handed_as, is_key, responds, row_of}
use Rattle.resolver_model_peer.specs.declared.effects.Effect.{Effect as Told}
use Rattle.resolver_model_peer.specs.declared.effects.Effect.TheVariants as told
use Rattle.resolver_peer_step.specs.declared.parts.Parts.{Parts}
use Rattle.resolver_delivery.specs.Again.{IsRefusal}
use Rattle.resolver_peer_step.specs.Going.{Goes, Went}
use Rattle.resolver_peer_step.specs.Said.{Codec}
use Rattle.resolver_peer_step.specs.Tied.{Agrees, AreOwn, Holds, IsSound, demand_of, fetcher_of, held_of, holds_in, holds_of, open_of, place_in, place_of, retries_in, same_id, sorted, targets_in}
use Rattle.resolver_peer_step.proofs.Numbered.{below-grown, lookup-new, own-grown}
use Rattle.resolver_peer_step.proofs.Places.{demand-at, holds-at, none-asked, own-after, own-before, own-slot, requests-at, retries-at, targets-at, waiting-at}
use Rattle.resolver_peer_step.proofs.Queues.{distinct-less, without-asked}
use Rattle.resolver_peer_step.proofs.Requests.{among-by_id, matching-among}
use Rattle.resolver_peer_step.proofs.Retrying.{AskedRow, asked-row}
use Rattle.resolver_peer_step.proofs.Slots.{Around, IsAround, around-map, change-slot, lookup-slot, ordered-slot, set-slot, slot}

module _ {K S P : Type 0} (a : Parties K S P) (c : Codec K) where
  -- memory was wanting, or no number is left
  pub goes-refused : (going : Option (Done K S P)) (before after : List (Told K P S)) (e : Parts K P S) (next : ℕ) (fault : Fault)
      → IsRefusal next fault → (nat_lt next (2 ^ 64) ≡ false → going ≡ None) → Goes a c going before after e (Err fault)
  goes-refused going before after e next faults.OutOfMemory is none = tt
  goes-refused going before after e next faults.Exhausted is none = none is
  goes-refused going before after e next faults.Failed is none = absurd is
  goes-refused going before after e next faults.Ended is none = absurd is
  goes-refused going before after e next faults.Busy is none = absurd is
  goes-refused going before after e next faults.Unasked is none = absurd is
  goes-refused going before after e next faults.OutOfRange is none = absurd is
  goes-refused going before after e next faults.EndOfBuffer is none = absurd is
  goes-refused going before after e next faults.InvalidTag is none = absurd is
  goes-refused going before after e next faults.InvalidVarint is none = absurd is
  goes-refused going before after e next faults.ExtraData is none = absurd is
  goes-refused going before after e next faults.Key is none = absurd is
  goes-refused going before after e next faults.Uneven is none = absurd is

some-pair : {X Y : Type 0} (x y : X) (e f : Y) (p : Option X × Y) → p ≡ (Some x, e) → p ≡ (Some y, f) → (x ≡ y) × (e ≡ f)
some-pair x y e f p is was = (injects x y (sym (ap (λ p. p.0) is) ∙ ap (λ p. p.0) was), sym (ap (λ p. p.1) is) ∙ ap (λ p. p.1) was)
  where
    injects : {X : Type 0} (x y : X) → Some x ≡ Some y → x ≡ y
    injects x y same = cc

none-pair : {X Y : Type 0} (x : X) (e f : Y) (p : Option X × Y) → p ≡ (Some x, e) → p ≡ (None, f) → ⊥
none-pair {X} x e f p is was = clash x (sym (ap (λ p. p.0) is) ∙ ap (λ p. p.0) was)
  where
    clash : (x : X) → Some x ≡ None → ⊥
    clash x same = cc

-- the entry of a key whose entry is seen
pub record Entered {K V C State X : Type 0} (seen : Entry V C State → X) (keys : List (K × Entry V C State)) (test : K → Bool) (x : X) : Type 0 where
  pub entry : Entry V C State
  pub found : lookup test keys ≡ Some entry
  pub is : seen entry ≡ x

pub entered : {K V C State X : Type 0} (seen : Entry V C State → X) (keys : List (K × Entry V C State)) (test : K → Bool) (x : X) → lookup test (map (λ e. (e.0, seen e.1)) keys) ≡ Some x → Entered seen keys test x
entered {K} {V} {C} {State} {X} seen keys test x found = at (lookup test keys) refl (sym (lookup-map_values seen test keys) ∙ found)
  where
    some : (y : X) → Some y ≡ Some x → y ≡ x
    some y is = cc

    at : (o : Option (Entry V C State)) → lookup test keys ≡ o → option_map seen o ≡ Some x → Entered seen keys test x
    at None there is = absurd cc
    at (Some entry) there is = record { entry = entry; found = there; is = some (seen entry) is }

module _ {K S P : Type 0} (a : Parties K S P) (o : IsTotalOrder a.key) (e : Parts K P S) (m : Machine K S P) (is : Agrees a e m) where
  -- where a key's row is, what the tracker and the entries have of it
  module _ (key : K) (row : Row K S P) (at : Around o m.rows key (Some row)) where
    pub row-here : row_of a m key ≡ Some row
    row-here = ap (lookup (is_key a key)) at.whole ∙ lookup-slot o at.before at.after key (Some row) at.around

    pub demand-here : e.demand ≡ slot (demand_of at.before) key (Some row.subscribers) (demand_of at.after)
    demand-here = is.demand ∙ ap demand_of at.whole ∙ demand-at a o at.before at.after key (Some row)

    pub holds-here : map (λ x. (x.0, held_of x.1)) e.entries.keys ≡ slot (holds_of at.before) key (Some (holds_in row.phase)) (holds_of at.after)
    holds-here = is.entries ∙ ap holds_of at.whole ∙ holds-at a o at.before at.after key (Some row)

    pub around-demand : IsAround o (demand_of at.before) key (demand_of at.after)
    around-demand = around-map o (λ (row : Row K S P). row.subscribers) at.before at.after key at.around

    pub around-holds : IsAround o (holds_of at.before) key (holds_of at.after)
    around-holds = around-map o (λ (row : Row K S P). holds_in row.phase) at.before at.after key at.around

    pub wanted-here : tables.subscribers_of (names_of a) e.demand key ≡ Some row.subscribers
    wanted-here = ap (lookup (is_key a key)) demand-here ∙ lookup-slot o (demand_of at.before) (demand_of at.after) key (Some row.subscribers) around-demand

    pub entry-here : Entered held_of e.entries.keys (is_key a key) (holds_in row.phase)
    entry-here = entered held_of e.entries.keys (is_key a key) (holds_in row.phase)
        (ap (lookup (is_key a key)) holds-here ∙ lookup-slot o (holds_of at.before) (holds_of at.after) key (Some (holds_in row.phase)) around-holds)

    pub tracked-here : is_tracked a.key e.entries key ≡ true
    tracked-here = ap is_some entry-here.found

    pub number-here : number_of a.key e.entries key ≡ (holds_in row.phase).0
    number-here = ap (option_and_then (λ e. e.number)) entry-here.found ∙ ap (λ (h : Holds P). h.0) entry-here.is

module _ {K S P : Type 0} (a : Parties K S P) (o : IsTotalOrder a.key) (e : Parts K P S) (m : Machine K S P) (id : ℕ) (peer : P) (r : Request K P) (popped : Fetcher K P) where
  -- the request that is answered, its row, and what is left
  pub record Answers : Type 0 where
    pub found : answered a m peer id ≡ Some r
    pub left : popped ≡ fetchers.freed (orders_of a) id (fetcher_of a m)
    pub asked : AskedRow a o m.rows (id, r)

  pub answers : Agrees a e m → fetchers.pop_request (orders_of a) id peer e.fetcher ≡ (Some r, popped) → Answers
  answers is pops = at (answered a m peer id) refl (sym (ap (fetchers.pop_request (orders_of a) id peer) is.fetcher) ∙ pops)
    where
      at : (found : Option (Request K P)) → answered a m peer id ≡ found → fetchers.popped_request (orders_of a) (fetcher_of a m) id (answered a m peer id) ≡ (Some r, popped) → Answers
      at None found pops = absurd (none-pair r popped (fetcher_of a m) _ pops (ap (fetchers.popped_request (orders_of a) (fetcher_of a m) id) found))
      at (Some q) found pops =
          let same = some-pair r q popped (fetchers.freed (orders_of a) id (fetcher_of a m)) _ pops (ap (fetchers.popped_request (orders_of a) (fetcher_of a m) id) found) in
          let there : answered a m peer id ≡ Some r = found ∙ ap Some (sym same.0) in
          record {
            found = there;
            left = same.1;
            asked = asked-row a o m.deliveries m.rows (id, r) is.sound.ordered is.sound.own
                (among-by_id (filter_map request_of m.rows) (id, r) is.sound.ids (matching-among a.peer (by_id (filter_map request_of m.rows)) id peer r there));
          }

module _ {K S P : Type 0} (a : Parties K S P) (o : IsTotalOrder a.key) (c : Codec K) (e : Parts K P S) (m : Machine K S P) (is : Agrees a e m) (closed : m.scan.expects ≡ None) (id : ℕ) (peer : P) (r : Request K P) (popped : Fetcher K P)
    (x : Answers a o e m id peer r popped) where
  abbrev pub row : Row K S P
  row = x.asked.row

  abbrev pub at : Around o m.rows r.key (Some row)
  at = x.asked.at

  pub idle-number : number_of a.key e.entries r.key ≡ None
  idle-number = number-here a o e m is r.key row at ∙ ap (λ phase. (holds_in phase).0) x.asked.asks

  module _ (now : ℕ) (value : List ℕ) where
    abbrev source : Source P
    source = record { peer = r.peer; elapsed = elapsed_since r.start now; bytes = length value }

    abbrev judging : Judging P
    judging = record { number = m.next_delivery; response = m.next_delivery; source = source; value = value; accepted = false }

    abbrev judged : Row K S P → Row K S P
    judged old = record old { subscribers = row.subscribers; phase = Judged judging }

    abbrev begun : Open K S P
    begun = record { handed = handed_as a r.key row.subscribers judging; source = source; accepted = false }

    abbrev later : Machine K S P
    later = record (freed m) {
      rows = change_entry (is_key a r.key) judged m.rows;
      deliveries = insert_entry nat_cmp m.deliveries m.next_delivery begun;
      next_delivery = m.next_delivery + 1;
    }

    now-rows : later.rows ≡ slot at.before r.key (Some (judged row)) at.after
    now-rows = ap (change_entry (is_key a r.key) judged) at.whole ∙ change-slot o judged at.before at.after r.key row at.around

    abbrev xs : List (ℕ × Request K P)
    xs = filter_map request_of at.before

    abbrev ys : List (ℕ × Request K P)
    ys = filter_map request_of at.after

    were-requests : filter_map request_of m.rows ≡ xs ++ (id, r) ∷ ys
    were-requests = ap (filter_map request_of) at.whole ∙ requests-at a o at.before at.after r.key (Some row) ∙ ap (λ phase. xs ++ cons_option (request_in phase) ys) x.asked.asks

    now-requests : filter_map request_of later.rows ≡ xs ++ ys
    now-requests = ap (filter_map request_of) now-rows ∙ requests-at a o at.before at.after r.key (Some (judged row))

    ids-before : IsDistinct same_id (keys_of (xs ++ (id, r) ∷ ys))
    ids-before = subst (λ es. IsDistinct same_id (keys_of es)) were-requests is.sound.ids

    same-waiting : sorted a (filter_map place_of m.rows) ≡ sorted a (filter_map place_of later.rows)
    same-waiting =
        ap (λ rows. sorted a (filter_map place_of rows)) at.whole ∙ waiting-at a o at.before at.after r.key (Some row)
        ∙ ap (λ phase. sorted a (filter_map place_of at.before ++ cons_option (place_in r.key phase) (filter_map place_of at.after))) x.asked.asks
        ∙ sym (ap (λ rows. sorted a (filter_map place_of rows)) now-rows ∙ waiting-at a o at.before at.after r.key (Some (judged row)))

    now-asked : without_request id (by_id (filter_map request_of m.rows)) ≡ by_id (filter_map request_of later.rows)
    now-asked = ap (λ es. without_request id (by_id es)) were-requests ∙ without-asked xs ys (id, r) ids-before ∙ sym (ap by_id now-requests)

    same-targets : filter_map targets_in m.rows ≡ filter_map targets_in later.rows
    same-targets = ap (filter_map targets_in) at.whole ∙ targets-at a o at.before at.after r.key (Some row) ∙ sym (ap (filter_map targets_in) now-rows ∙ targets-at a o at.before at.after r.key (Some (judged row)))

    same-retries : filter_map retries_in m.rows ≡ filter_map retries_in later.rows
    same-retries = ap (filter_map retries_in) at.whole ∙ retries-at a o at.before at.after r.key (Some row) ∙ sym (ap (filter_map retries_in) now-rows ∙ retries-at a o at.before at.after r.key (Some (judged row)))

    now-sound : IsSound a later
    now-sound =
        let owned = subst (λ rows. AreOwn m.deliveries rows) at.whole is.sound.own in
        let grown = λ (rows : List (K × Row K S P)) (own : AreOwn m.deliveries rows). own-grown m.deliveries m.next_delivery begun rows is.sound.below own in
        record {
          ordered = subst (λ rows. IsStrictlySortedBy a.key (keys_of rows)) (sym now-rows)
              (ordered-slot o at.before at.after r.key (Some row) (Some (judged row)) at.around (subst (λ rows. IsStrictlySortedBy a.key (keys_of rows)) at.whole is.sound.ordered));
          ids = subst (λ es. IsDistinct same_id (keys_of es)) (sym now-requests) (distinct-less xs ys (id, r) ids-before);
          own = subst (λ rows. AreOwn later.deliveries rows) (sym now-rows)
              (own-slot later.deliveries at.before at.after r.key (Some (judged row)) (grown at.before (own-before m.deliveries at.before at.after r.key (Some row) owned))
              (record { begun = begun; found = lookup-new m.deliveries m.next_delivery begun; named = refl; response = refl; source = refl; accepted = refl })
              (grown at.after (own-after m.deliveries at.before at.after r.key (Some row) owned)));
          below = below-grown m.deliveries m.next_delivery begun is.sound.below;
          new_id = none-asked a (fetcher_of a later) later closed;
        }

    -- the entry of the key holds the response now
    module _ (n : Parts K P S) (handed : n.entries ≡ delivered a.key (record { key = r.key; subscribers = row.subscribers }) source value e.entries) where
      abbrev entry : Entry (List ℕ) (Source P) ℕ
      entry = (entry-here a o e m is r.key row at).entry

      abbrev response : Response (List ℕ) (Source P)
      response = record { name = e.entries.next; value = value; context = source; accepted = false }

      now-keys : n.entries.keys ≡ set_value (is_at (a.key r.key)) e.entries.keys (numbered e.entries.next (with_response (Some response) entry))
      now-keys = ap (λ d. d.keys) handed
          ∙ ap (λ found. changed_at (is_at (a.key r.key)) found (λ x. numbered e.entries.next (with_response (Some response) x)) e.entries.keys) (entry-here a o e m is r.key row at).found

      now-holds : map (λ x. (x.0, held_of x.1)) n.entries.keys ≡ holds_of later.rows
      now-holds =
          ap (map (λ x. (x.0, held_of x.1))) now-keys
          ∙ sym (set_value-seen held_of (is_at (a.key r.key)) e.entries.keys (numbered e.entries.next (with_response (Some response) entry)))
          ∙ ap (λ es. set_value (is_at (a.key r.key)) es (Some e.entries.next, Some response)) (holds-here a o e m is r.key row at)
          ∙ set-slot o (holds_of at.before) (holds_of at.after) r.key (holds_in row.phase) (Some e.entries.next, Some response) (around-holds a o e m is r.key row at)
          ∙ ap (λ next. slot (holds_of at.before) r.key (Some (Some next, Some (record { name = next; value = value; context = source; accepted = false }))) (holds_of at.after)) is.next_delivery
          ∙ sym (ap holds_of now-rows ∙ holds-at a o at.before at.after r.key (Some (judged row)))

      pub hands-agrees : n.fetcher ≡ popped → n ≡ record e { entries = n.entries; fetcher = n.fetcher } → Agrees a n later
      hands-agrees takes same = record {
        sound = now-sound;
        demand = ap (λ e. e.demand) same ∙ demand-here a o e m is r.key row at ∙ sym (ap demand_of now-rows ∙ demand-at a o at.before at.after r.key (Some (judged row)));
        entries = now-holds;
        deliveries =
            ap (λ d. map (λ x. (x.0, open_of x.1)) d.going) handed
            ∙ sym (insert_entry-seen open_of nat_cmp e.entries.going e.entries.next (record { response = e.entries.next; delivery = record { key = r.key; subscribers = row.subscribers }; context = source; accepted = false }))
            ∙ ap (λ ds. insert_entry nat_cmp ds e.entries.next (record { handed = record { response = e.entries.next; key = r.key; subscribers = row.subscribers }; source = source; accepted = false })) is.deliveries
            ∙ ap (λ next. insert_entry nat_cmp m.deliveries next (record { handed = record { response = next; key = r.key; subscribers = row.subscribers }; source = source; accepted = false })) is.next_delivery;
        next_delivery = ap (λ d. d.next) handed ∙ ap (λ next. next + 1) is.next_delivery;
        fetcher = takes ∙ x.left ∙ rw (same-waiting, now-asked, same-targets, same-retries) refl;
        serves = ap (λ e. e.serves.entries) same ∙ is.serves;
        next_serve = ap (λ e. e.next_serve) same ∙ is.next_serve;
        last_index = ap (λ e. e.last_index) same ∙ is.last_index;
        priority = ap (λ e. e.priority_responses) same ∙ is.priority;
      }

    -- what the machine does with the response
    does-answer : responds a m now value (answered a m peer id) (option_and_then (λ r. row_of a m r.key) (answered a m peer id)) ≡ hand_out a (freed m) r.key row.subscribers judging
    does-answer =
        ap (λ found. responds a m now value found (option_and_then (λ r. row_of a m r.key) found)) x.found
        ∙ ap (responds a m now value (Some r)) (row-here a o e m is r.key row at)

    pub responds-goes : (n : Parts K P S) (before after : List (Told K P S)) (result : Result (Unit {0}) Fault)
        → OnOk result (after ≡ before ++ told.Deliver e.entries.next e.entries.next (record { key = r.key; subscribers = row.subscribers }) value ∷ [])
        → OnOk result (n.entries ≡ delivered a.key (record { key = r.key; subscribers = row.subscribers }) source value e.entries)
        → OnOk result (e.entries.next < 2 ^ 64)
        → IfErr result (IsRefusal e.entries.next)
        → n.fetcher ≡ popped → n ≡ record e { entries = n.entries; fetcher = n.fetcher }
        → Goes a c (responds a m now value (answered a m peer id) (option_and_then (λ r. row_of a m r.key) (answered a m peer id))) before after n result
    responds-goes n before after (Ok done) tells handed room refused takes same =
        let fits : nat_lt m.next_delivery (2 ^ 64) ≡ true = ap (λ next. nat_lt next (2 ^ 64)) (sym is.next_delivery) ∙ lt-ltb e.entries.next (2 ^ 64) room in
        record {
          done = record { machine = later; effects = Deliver m.next_delivery (handed_as a r.key row.subscribers judging) value ∷ [] };
          is = does-answer ∙ rw fits refl;
          told = tells ∙ ap (λ next. before ++ told.Deliver next next (record { key = r.key; subscribers = row.subscribers }) value ∷ []) is.next_delivery;
          agrees = hands-agrees n handed takes same;
        }
    responds-goes n before after (Err fault) tells handed room refused takes same =
        goes-refused a c _ before after n e.entries.next fault refused
        (λ full. let none : nat_lt m.next_delivery (2 ^ 64) ≡ false = ap (λ next. nat_lt next (2 ^ 64)) (sym is.next_delivery) ∙ full in does-answer ∙ rw none refl)

    -- the same, of what the tracker answered and what was computed
    pub answers-goes : (n : Parts K P S) (before after : List (Told K P S)) (result : Result (Unit {0}) Fault) (subscribers : List (S × ℕ)) (elapsed bytes : ℕ)
        → tables.subscribers_of (names_of a) e.demand r.key ≡ Some subscribers → elapsed ≡ elapsed_since r.start now → bytes ≡ length value
        → OnOk result (after ≡ before ++ told.Deliver e.entries.next e.entries.next (record { key = r.key; subscribers = subscribers }) value ∷ [])
        → OnOk result (n.entries ≡ delivered a.key (record { key = r.key; subscribers = subscribers }) (record { peer = r.peer; elapsed = elapsed; bytes = bytes }) value e.entries)
        → OnOk result (e.entries.next < 2 ^ 64)
        → IfErr result (IsRefusal e.entries.next)
        → n.fetcher ≡ popped → n ≡ record e { entries = n.entries; fetcher = n.fetcher }
        → Goes a c (responds a m now value (answered a m peer id) (option_and_then (λ r. row_of a m r.key) (answered a m peer id))) before after n result
    answers-goes n before after result subscribers elapsed bytes wanted took long tells handed room refused takes same =
        let listed : subscribers ≡ row.subscribers = some subscribers row.subscribers (sym wanted ∙ wanted-here a o e m is r.key row at) in
        responds-goes n before after result
        (subst (λ (ss : List (S × ℕ)). OnOk result (after ≡ before ++ told.Deliver e.entries.next e.entries.next (record { key = r.key; subscribers = ss }) value ∷ [])) listed tells)
        (subst (λ (t : ℕ). OnOk result (n.entries ≡ delivered a.key (record { key = r.key; subscribers = row.subscribers }) (record { peer = r.peer; elapsed = t; bytes = length value }) value e.entries)) took
        (subst (λ (b : ℕ). OnOk result (n.entries ≡ delivered a.key (record { key = r.key; subscribers = row.subscribers }) (record { peer = r.peer; elapsed = elapsed; bytes = b }) value e.entries)) long
        (subst (λ (ss : List (S × ℕ)). OnOk result (n.entries ≡ delivered a.key (record { key = r.key; subscribers = ss }) (record { peer = r.peer; elapsed = elapsed; bytes = bytes }) value e.entries)) listed handed)))
        room refused takes same
      where
        some : (xs ys : List (S × ℕ)) → Some xs ≡ Some ys → xs ≡ ys
        some xs ys same = cc

module _ {K S P : Type 0} (a : Parties K S P) (c : Codec K) (e : Parts K P S) (m : Machine K S P) (is : Agrees a e m) where
  -- no request is answered
  pub none-goes : (now id : ℕ) (peer : P) (value : List ℕ) (popped : Fetcher K P) (n : Parts K P S) (before : List (Told K P S)) → fetchers.pop_request (orders_of a) id peer e.fetcher ≡ (None, popped)
      → n ≡ record e { fetcher = popped }
      → Went a c (responds a m now value (answered a m peer id) (option_and_then (λ r. row_of a m r.key) (answered a m peer id))) before before n
  none-goes now id peer value popped n before pops same = at (answered a m peer id) refl (sym (ap (fetchers.pop_request (orders_of a) id peer) is.fetcher) ∙ pops)
    where
      at : (found : Option (Request K P)) → answered a m peer id ≡ found → fetchers.popped_request (orders_of a) (fetcher_of a m) id (answered a m peer id) ≡ (None, popped)
          → Went a c (responds a m now value found (option_and_then (λ r. row_of a m r.key) found)) before before n
      at (Some q) found pops = absurd (none-pair q _ popped _ (ap (fetchers.popped_request (orders_of a) (fetcher_of a m) id) found) pops)
      at None found pops =
          let left : popped ≡ e.fetcher = sym (ap (λ p. p.1) pops) ∙ ap (λ p. p.1) (ap (fetchers.popped_request (orders_of a) (fetcher_of a m) id) found) ∙ sym is.fetcher in
          record {
            done = record { machine = m; effects = [] };
            is = refl;
            told = sym (append-nil before);
            agrees = subst (λ e. Agrees a e m) (sym (same ∙ ap (λ f. record e { fetcher = f }) left)) is;
          }
