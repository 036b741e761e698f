-- The parts once a ruling on a closed delivery was carried out.
use Rattle.std.proofs.Common.{◌≡◌, refl, ap, sym, ◌∙◌, subst, ℕ, ◌+◌, ◌<◌, ◌^◌, Bool, true, false, List, [], ◌∷◌, ◌++◌, map, Option, None, Some, Result, Ok, Err, append-nil}
use Rattle.std.specs.Prelude.{nat_lt}
use Rattle.std.proofs.lemmas.Bool.{lt-ltb}
use Rattle.std.specs.Option.{option_and_then, IfSome}
use Rattle.std.specs.Result.{IfErr, OnOk}
use Rattle.std.specs.Cmp.{IsTotalOrder}
use Rattle.std.specs.List.{IsDistinct, cons_option, filter_map}
use Rattle.std.specs.List.Sorted.{IsStrictlySortedBy}
use Rattle.std.specs.Map.{keys_of, lookup, remove_entry, set_value}
use Rattle.std.specs.BTreeMap.{insert_entry, is_at}
use Rattle.std.specs.Ordering.{nat_cmp}
use Rattle.resolver_base.specs.declared.fault.Fault.{Fault}
use Rattle.resolver_base.specs.declared.fault.Fault.TheVariants.{OutOfMemory}
use Rattle.resolver_types.specs.declared.delivery.Delivery.{Delivery}
use Rattle.resolver_types.specs.declared.outcome.Outcome.{Outcome}
use Rattle.resolver_types.specs.declared.outcome.Outcome.TheVariants.{Invalid, Resolved, Unresolved, Ignored}
use Rattle.resolver_types.specs.declared.outcome.Resolution.TheVariants.{Complete, Partial}
use Rattle.resolver_priority_set.specs.Priorities.{has_item}
use Rattle.resolver_types.specs.Subscribers.{without}
use Rattle.resolver_types.specs.Table.{rest_of, some_of, subscribers_of, without_key, without_named}
use Rattle.resolver_types.specs.Table as tables
use Rattle.resolver_delivery.specs.declared.entry.Response.{Response}
use Rattle.resolver_delivery.specs.Entries.{Numbered, accepted, begun_again, changed, changed_at, number_of, numbered, removed, response_of, with_response}
use Rattle.resolver_fetch_requests.specs.Requests.{by_id, is_asked}
use Rattle.resolver_fetch_scan.specs.Fetcher as fetchers
use Rattle.resolver_fetch_scan.specs.Fetcher.{Fetcher}
use Rattle.resolver_fetch_scan.specs.Waiting.{retry_at}
use Rattle.resolver_model.specs.declared.ruling.Ruling.{Ruling}
use Rattle.resolver_model.specs.declared.ruling.Ruling.TheVariants as rulings
use Rattle.resolver_model.specs.Verdicts.{ruling}
use Rattle.resolver_model.proofs.Mapped.{insert_entry-seen, remove_entry-seen, set_value-seen}
use Rattle.resolver_model_peer.specs.declared.named.Source.{Source}
use Rattle.resolver_model_peer.specs.Parties.{Parties, names_of, orders_of}
use Rattle.resolver_model_peer.specs.PeerRows.{Row, Judged, Judging, change_entry, request_of}
use Rattle.resolver_model_peer.specs.Peer.{Deliver, Done, Machine, Open, hand_out, handed_as, is_key, quiet, retry, ruled, serves_rest, without_row}
use Rattle.resolver_model_peer.specs.declared.effects.Effect.{Effect as Told}
use Rattle.resolver_model_peer.specs.declared.effects.Effect.TheVariants as told
use Rattle.resolver_peer_step.specs.declared.parts.Parts.{Parts}
use Rattle.resolver_delivery.specs.Again.{IsRefusal}
use Rattle.resolver_peer_step.specs.Going.{Goes, Went}
use Rattle.resolver_delivery.specs.Again.{flagged, handed_again}
use Rattle.resolver_peer_step.specs.Ruled.{IsClosed, Names}
use Rattle.resolver_peer_step.specs.Said.{Codec}
use Rattle.resolver_peer_step.specs.Tied.{Agrees, Holds, IsSound, AreOwn, demand_of, fetcher_of, held_of, holds_in, holds_of, open_of, place_of, retries_in, same_id, sorted, targets_in}
use Rattle.resolver_delivery.proofs.Cached.{Caches, accepts-is, flagged-found, flagged-going, flagged-next, flagged-response, flagged_entry, noted, response-is}
use Rattle.resolver_peer_step.proofs.Handed.{Entered, entered, goes-refused}
use Rattle.resolver_peer_step.proofs.Numbered.{below-grown, lookup-new, own-grown}
use Rattle.resolver_peer_step.proofs.Places.{demand-at, holds-at, idle-asked, idle-waiting, none-asked, own-slot, place_at, request_at, requests-at, retries-at, targets-at, waiting-at}
use Rattle.resolver_peer_step.proofs.Retrying.{Retries, retried, retries}
use Rattle.resolver_peer_step.proofs.Slots.{Around, IsAround, around-given, around-map, around-own, change-slot, lookup-slot, ordered-slot, remove-slot, set-slot, slot}

module _ {K S P : Type 0} (a : Parties K S P) (o : IsTotalOrder a.key) (e : Parts K P S) (m : Machine K S P) (h : Open K S P) (x : IsClosed a e m h) where
  abbrev pub key : K
  key = h.handed.key

  pub around : IsAround o x.before key x.after
  around = around-own o x.before x.after key x.row (subst (λ rows. IsStrictlySortedBy a.key (keys_of rows)) x.whole x.ordered)

  abbrev pub at : Around o m.rows key (Some x.row)
  at = record { before = x.before; after = x.after; whole = x.whole; around = around }

  around-demand : IsAround o (demand_of x.before) key (demand_of x.after)
  around-demand = around-map o (λ (row : Row K S P). row.subscribers) x.before x.after key around

  around-holds : IsAround o (holds_of x.before) key (holds_of x.after)
  around-holds = around-map o (λ (row : Row K S P). holds_in row.phase) x.before x.after key around

  around-targets : IsAround o (filter_map targets_in x.before) key (filter_map targets_in x.after)
  around-targets = around-given o (λ (row : Row K S P). row.targets) x.before x.after key around

  were-requests : filter_map request_of m.rows ≡ filter_map request_of x.before ++ filter_map request_of x.after
  were-requests = ap (filter_map request_of) x.whole ∙ requests-at a o x.before x.after key (Some x.row) ∙ ap (λ phase. filter_map request_of x.before ++ cons_option (request_at (Some (record x.row { phase = phase }))) (filter_map request_of x.after)) x.judged

  were-waiting : sorted a (filter_map place_of m.rows) ≡ sorted a (filter_map place_of x.before ++ filter_map place_of x.after)
  were-waiting = ap (λ rows. sorted a (filter_map place_of rows)) x.whole ∙ waiting-at a o x.before x.after key (Some x.row)
      ∙ ap (λ phase. sorted a (filter_map place_of x.before ++ cons_option (place_at key (Some (record x.row { phase = phase }))) (filter_map place_of x.after))) x.judged

  demand-is : e.demand ≡ slot (demand_of x.before) key (Some x.row.subscribers) (demand_of x.after)
  demand-is = x.demand ∙ ap demand_of x.whole ∙ demand-at a o x.before x.after key (Some x.row)

  abbrev pub kept : Response (List ℕ) (Source P)
  kept = record { name = x.judging.response; value = x.judging.value; context = x.judging.source; accepted = x.judging.accepted }

  pub entry-is : Entered held_of e.entries.keys (is_key a key) (None, Some kept)
  entry-is = entered held_of e.entries.keys (is_key a key) (None, Some kept)
      (ap (lookup (is_key a key)) x.entries ∙ lookup-slot o (holds_of x.before) (holds_of x.after) key (Some (None, Some kept)) around-holds)

  pub caches : Caches a.key key e.entries
  caches = record { entry = entry-is.entry; response = kept; found = entry-is.found; caches = ap (λ (h : Holds P). h.1) entry-is.is }

  pub number-none : number_of a.key e.entries key ≡ None
  number-none = ap (option_and_then (λ e. e.number)) entry-is.found ∙ ap (λ (h : Holds P). h.0) entry-is.is

  pub wanted : subscribers_of (names_of a) e.demand key ≡ Some x.row.subscribers
  wanted = ap (lookup (is_key a key)) demand-is ∙ lookup-slot o (demand_of x.before) (demand_of x.after) key (Some x.row.subscribers) around-demand

  pub closed-not_waiting : has_item a.key e.fetcher.waiting key ≡ false
  closed-not_waiting = ap (λ f. has_item a.key f.waiting key) x.fetcher ∙ ap (λ rows. has_item a.key (sorted a (filter_map place_of rows)) key) x.whole
      ∙ idle-waiting a o x.before x.after key around (Some x.row) (ap (λ phase. place_at key (Some (record x.row { phase = phase }))) x.judged)

  pub closed-not_asked : is_asked a.key e.fetcher.asked key ≡ false
  closed-not_asked = ap (λ f. is_asked a.key f.asked key) x.fetcher ∙ ap (λ rows. is_asked a.key (by_id (filter_map request_of rows)) key) x.whole
      ∙ idle-asked a o x.before x.after key around m.deliveries (Some x.row) x.own_before x.own_after (ap (λ phase. request_at (Some (record x.row { phase = phase }))) x.judged)

  ids-between : IsDistinct same_id (keys_of (filter_map request_of x.before ++ filter_map request_of x.after))
  ids-between = subst (λ es. IsDistinct same_id (keys_of es)) were-requests x.ids

  ordered-now : (now : Option (Row K S P)) → IsStrictlySortedBy a.key (keys_of (slot x.before key now x.after))
  ordered-now now = ordered-slot o x.before x.after key (Some x.row) now around (subst (λ rows. IsStrictlySortedBy a.key (keys_of rows)) x.whole x.ordered)

  -- the key is wanted no more
  abbrev retired : Machine K S P
  retired = without_row a m key

  retired-rows : retired.rows ≡ slot x.before key None x.after
  retired-rows = ap (remove_entry (is_key a key)) x.whole ∙ remove-slot o x.before x.after key (Some x.row) around

  retired-requests : filter_map request_of retired.rows ≡ filter_map request_of x.before ++ filter_map request_of x.after
  retired-requests = ap (filter_map request_of) retired-rows ∙ requests-at a o x.before x.after key None

  retired-fetcher : fetchers.clear (orders_of a) key (fetcher_of a m) ≡ fetcher_of a retired
  retired-fetcher =
      let waiting = were-waiting ∙ sym (ap (λ rows. sorted a (filter_map place_of rows)) retired-rows ∙ waiting-at a o x.before x.after key None) in
      let asked = were-requests ∙ sym retired-requests in
      let targets = ap (remove_entry (is_at (a.key key))) (ap (filter_map targets_in) x.whole ∙ targets-at a o x.before x.after key (Some x.row))
      ∙ remove-slot o (filter_map targets_in x.before) (filter_map targets_in x.after) key x.row.targets around-targets
      ∙ sym (ap (filter_map targets_in) retired-rows ∙ targets-at a o x.before x.after key None) in
      let counts = ap (remove_entry (is_at (a.key key))) (ap (filter_map retries_in) x.whole ∙ retries-at a o x.before x.after key (Some x.row))
      ∙ remove-slot o (filter_map retries_in x.before) (filter_map retries_in x.after) key _ (around-given o _ x.before x.after key around)
      ∙ sym (ap (filter_map retries_in) retired-rows ∙ retries-at a o x.before x.after key None) in
      rw (waiting, asked, targets, counts) refl

  pub retired-agrees : (n : Parts K P S) → n.demand ≡ without_key (names_of a) key e.demand → n.entries ≡ removed a.key key e.entries → n.fetcher ≡ fetchers.clear (orders_of a) key e.fetcher
      → n ≡ record e { demand = n.demand; entries = n.entries; fetcher = n.fetcher } → Agrees a n retired
  retired-agrees n unwanted untracked cleared same = record {
    sound = record {
      ordered = subst (λ rows. IsStrictlySortedBy a.key (keys_of rows)) (sym retired-rows) (ordered-now None);
      ids = subst (λ es. IsDistinct same_id (keys_of es)) (sym retired-requests) ids-between;
      own = subst (λ rows. AreOwn m.deliveries rows) (sym retired-rows) (own-slot m.deliveries x.before x.after key None x.own_before tt x.own_after);
      below = x.below;
      new_id = none-asked a (fetcher_of a retired) retired x.over;
    };
    demand = unwanted ∙ ap (remove_entry (is_key a key)) demand-is ∙ remove-slot o (demand_of x.before) (demand_of x.after) key (Some x.row.subscribers) around-demand
        ∙ sym (ap demand_of retired-rows ∙ demand-at a o x.before x.after key None);
    entries = ap (λ d. map (λ e. (e.0, held_of e.1)) d.keys) untracked ∙ sym (remove_entry-seen held_of (is_at (a.key key)) e.entries.keys)
        ∙ ap (remove_entry (is_at (a.key key))) x.entries ∙ remove-slot o (holds_of x.before) (holds_of x.after) key (Some (None, Some kept)) around-holds
        ∙ sym (ap holds_of retired-rows ∙ holds-at a o x.before x.after key None);
    deliveries = ap (λ d. map (λ e. (e.0, open_of e.1)) d.going) untracked ∙ x.deliveries;
    next_delivery = ap (λ d. d.next) untracked ∙ x.next_delivery;
    fetcher = cleared ∙ ap (fetchers.clear (orders_of a) key) x.fetcher ∙ retired-fetcher;
    serves = ap (λ e. e.serves.entries) same ∙ x.serves;
    next_serve = ap (λ e. e.next_serve) same ∙ x.next_serve;
    last_index = ap (λ e. e.last_index) same ∙ x.last_index;
    priority = ap (λ e. e.priority_responses) same ∙ x.priority;
  }

  -- the key waits again
  module _ (now : ℕ) where
    abbrev again : Machine K S P
    again = retry a m now key

    tables_again : Retries a o m.rows key (retry_at (now + m.configuration.retry_delay)) x.before x.after x.row
    tables_again = retries a o m.rows key (retry_at (now + m.configuration.retry_delay)) x.row x.ordered at (ap (λ phase. place_at key (Some (record x.row { phase = phase }))) x.judged)

    again-requests : filter_map request_of again.rows ≡ filter_map request_of x.before ++ filter_map request_of x.after
    again-requests = ap (filter_map request_of) tables_again.now ∙ requests-at a o x.before x.after key (Some (retried a o (retry_at (now + m.configuration.retry_delay)) x.row))

    pub again-agrees : (n : Parts K P S) → n.entries ≡ changed a.key key (with_response None) e.entries → n.fetcher ≡ fetchers.add_retry (orders_of a) key now e.fetcher
        → n ≡ record e { entries = n.entries; fetcher = n.fetcher } → Agrees a n again
    again-agrees n discarded waits same =
        let asked : by_id (filter_map request_of m.rows) ≡ by_id (filter_map request_of again.rows) = ap by_id (were-requests ∙ sym again-requests) in
        let keys = ap (λ d. d.keys) discarded ∙ ap (λ found. changed_at (is_at (a.key key)) found (with_response None) e.entries.keys) entry-is.found in
        record {
          sound = record {
            ordered = tables_again.ordered;
            ids = subst (λ es. IsDistinct same_id (keys_of es)) (sym again-requests) ids-between;
            own = subst (λ rows. AreOwn m.deliveries rows) (sym tables_again.now) (own-slot m.deliveries x.before x.after key (Some (retried a o (retry_at (now + m.configuration.retry_delay)) x.row)) x.own_before tt x.own_after);
            below = x.below;
            new_id = none-asked a (fetcher_of a again) again x.over;
          };
          demand = ap (λ e. e.demand) same ∙ x.demand ∙ tables_again.demand;
          entries = ap (map (λ e. (e.0, held_of e.1))) keys
              ∙ sym (set_value-seen held_of (is_at (a.key key)) e.entries.keys (with_response None entry-is.entry))
              ∙ ap (λ number. set_value (is_at (a.key key)) (map (λ e. (e.0, held_of e.1)) e.entries.keys) (number, None)) (ap (λ (h : Holds P). h.0) entry-is.is)
              ∙ ap (λ es. set_value (is_at (a.key key)) es (None, None)) x.entries
              ∙ set-slot o (holds_of x.before) (holds_of x.after) key (None, Some kept) (None, None) around-holds
              ∙ sym (ap holds_of tables_again.now ∙ holds-at a o x.before x.after key (Some (retried a o (retry_at (now + m.configuration.retry_delay)) x.row)));
          deliveries = ap (λ d. map (λ e. (e.0, open_of e.1)) d.going) discarded ∙ x.deliveries;
          next_delivery = ap (λ d. d.next) discarded ∙ x.next_delivery;
          fetcher = waits ∙ ap (fetchers.add_retry (orders_of a) key now) x.fetcher ∙ rw (tables_again.waiting, asked, tables_again.retries, tables_again.targets) refl;
          serves = ap (λ e. e.serves.entries) same ∙ x.serves;
          next_serve = ap (λ e. e.next_serve) same ∙ x.next_serve;
          last_index = ap (λ e. e.last_index) same ∙ x.last_index;
          priority = ap (λ e. e.priority_responses) same ∙ x.priority;
        }

  -- the rest get the response again
  module _ (accepts : Bool) (right : accepts ≡ false → x.judging.accepted ≡ false) (rest : List (S × ℕ)) where
    abbrev judged_again : Judging P
    judged_again = record { number = m.next_delivery; response = h.handed.response; source = h.source; value = x.judging.value; accepted = accepts }

    abbrev begun : Open K S P
    begun = record { handed = handed_as a key rest judged_again; source = h.source; accepted = accepts }

    abbrev redone : Row K S P → Row K S P
    redone row = record row { subscribers = rest; phase = Judged judged_again }

    abbrev served : Machine K S P
    served = record m {
      rows = change_entry (is_key a key) redone m.rows;
      deliveries = insert_entry nat_cmp m.deliveries m.next_delivery begun;
      next_delivery = m.next_delivery + 1;
    }

    served-rows : served.rows ≡ slot x.before key (Some (redone x.row)) x.after
    served-rows = ap (change_entry (is_key a key) redone) x.whole ∙ change-slot o redone x.before x.after key x.row around

    served-requests : filter_map request_of served.rows ≡ filter_map request_of x.before ++ filter_map request_of x.after
    served-requests = ap (filter_map request_of) served-rows ∙ requests-at a o x.before x.after key (Some (redone x.row))

    served-fetcher : fetcher_of a m ≡ fetcher_of a served
    served-fetcher =
        let waiting = were-waiting ∙ sym (ap (λ rows. sorted a (filter_map place_of rows)) served-rows ∙ waiting-at a o x.before x.after key (Some (redone x.row))) in
        let asked = were-requests ∙ sym served-requests in
        let targets = ap (filter_map targets_in) x.whole ∙ targets-at a o x.before x.after key (Some x.row) ∙ sym (ap (filter_map targets_in) served-rows ∙ targets-at a o x.before x.after key (Some (redone x.row))) in
        let counts = ap (filter_map retries_in) x.whole ∙ retries-at a o x.before x.after key (Some x.row) ∙ sym (ap (filter_map retries_in) served-rows ∙ retries-at a o x.before x.after key (Some (redone x.row))) in
        rw (waiting, asked, targets, counts) refl

    served-sound : IsSound a served
    served-sound = record {
      ordered = subst (λ rows. IsStrictlySortedBy a.key (keys_of rows)) (sym served-rows) (ordered-now (Some (redone x.row)));
      ids = subst (λ es. IsDistinct same_id (keys_of es)) (sym served-requests) ids-between;
      own = subst (λ rows. AreOwn served.deliveries rows) (sym served-rows)
          (own-slot served.deliveries x.before x.after key (Some (redone x.row)) (own-grown m.deliveries m.next_delivery begun x.before x.below x.own_before)
          (record { begun = begun; found = lookup-new m.deliveries m.next_delivery begun; named = refl; response = refl; source = refl; accepted = refl })
          (own-grown m.deliveries m.next_delivery begun x.after x.below x.own_after));
      below = below-grown m.deliveries m.next_delivery begun x.below;
      new_id = none-asked a (fetcher_of a served) served x.over;
    }

    -- the response, as it is handed out now
    abbrev marked : Response (List ℕ) (Source P)
    marked = record { name = h.handed.response; value = x.judging.value; context = h.source; accepted = accepts }

    marked-is : noted a.key key e.entries caches accepts ≡ marked
    unfolding caches
    marked-is = at-flag accepts right
      where
        at-flag : (b : Bool) → (b ≡ false → x.judging.accepted ≡ false) → noted a.key key e.entries caches b ≡ record { name = h.handed.response; value = x.judging.value; context = h.source; accepted = b }
        at-flag true right = rw (x.response, x.source) refl
        at-flag false right = rw (x.response, x.source, right refl) refl

    again-is : (n : Parts K P S) → n.entries ≡ handed_again a.key (record { key = key; subscribers = rest }) accepts e.entries
        → n.entries ≡ record {
          keys = set_value (is_at (a.key key)) (flagged a.key accepts key e.entries).keys (numbered e.entries.next (flagged_entry a.key key e.entries caches accepts));
          going = insert_entry nat_cmp e.entries.going e.entries.next (record { response = marked.name; delivery = record { key = key; subscribers = rest }; context = marked.context; accepted = marked.accepted });
          next = e.entries.next + 1;
        }
    again-is n again =
        let d = flagged a.key accepts key e.entries in
        let found = flagged-found a.key key e.entries caches accepts in
        let cached = flagged-response a.key key e.entries caches accepts ∙ ap Some marked-is in
        again ∙ ap (λ r. begun_again a.key (record { key = key; subscribers = rest }) r d) cached
        ∙ ap (λ p. record {
          keys = changed_at (is_at (a.key key)) p (numbered d.next) d.keys;
          going = insert_entry nat_cmp d.going d.next (record { response = marked.name; delivery = record { key = key; subscribers = rest }; context = marked.context; accepted = marked.accepted });
          next = d.next + 1;
        }) found
        ∙ ap (λ next. record {
          keys = set_value (is_at (a.key key)) d.keys (numbered next (flagged_entry a.key key e.entries caches accepts));
          going = insert_entry nat_cmp d.going next (record { response = marked.name; delivery = record { key = key; subscribers = rest }; context = marked.context; accepted = marked.accepted });
          next = next + 1;
        }) (flagged-next a.key key e.entries caches accepts)
        ∙ ap (λ going. record {
          keys = set_value (is_at (a.key key)) d.keys (numbered e.entries.next (flagged_entry a.key key e.entries caches accepts));
          going = insert_entry nat_cmp going e.entries.next (record { response = marked.name; delivery = record { key = key; subscribers = rest }; context = marked.context; accepted = marked.accepted });
          next = e.entries.next + 1;
        }) (flagged-going a.key key e.entries caches accepts)

    -- what the keys hold before the number is noted
    flagged-holds : (b : Bool) → (r : Holds P) × (map (λ e. (e.0, held_of e.1)) (flagged a.key b key e.entries).keys ≡ slot (holds_of x.before) key (Some r) (holds_of x.after))
    flagged-holds true = (
      held_of (flagged_entry a.key key e.entries caches true),
      ap (λ d. map (λ e. (e.0, held_of e.1)) d.keys) (accepts-is a.key key e.entries caches)
          ∙ sym (set_value-seen held_of (is_at (a.key key)) e.entries.keys (flagged_entry a.key key e.entries caches true))
          ∙ ap (λ es. set_value (is_at (a.key key)) es (held_of (flagged_entry a.key key e.entries caches true))) x.entries
          ∙ set-slot o (holds_of x.before) (holds_of x.after) key (None, Some kept) (held_of (flagged_entry a.key key e.entries caches true)) around-holds,
    )
    flagged-holds false = ((None, Some kept), x.entries)

    pub served-agrees : (n : Parts K P S) → n.demand ≡ set_value (is_key a key) e.demand rest → n.entries ≡ handed_again a.key (record { key = key; subscribers = rest }) accepts e.entries
        → n ≡ record e { demand = n.demand; entries = n.entries } → Agrees a n served
    served-agrees n left again same =
        let now = again-is n again in
        let f = flagged-holds accepts in
        record {
          sound = served-sound;
          demand = left ∙ ap (λ d. set_value (is_key a key) d rest) demand-is ∙ set-slot o (demand_of x.before) (demand_of x.after) key x.row.subscribers rest around-demand
              ∙ sym (ap demand_of served-rows ∙ demand-at a o x.before x.after key (Some (redone x.row)));
          entries = ap (λ d. map (λ e. (e.0, held_of e.1)) d.keys) now
              ∙ sym (set_value-seen held_of (is_at (a.key key)) (flagged a.key accepts key e.entries).keys (numbered e.entries.next (flagged_entry a.key key e.entries caches accepts)))
              ∙ ap (λ es. set_value (is_at (a.key key)) es (Some e.entries.next, Some (noted a.key key e.entries caches accepts))) f.1
              ∙ set-slot o (holds_of x.before) (holds_of x.after) key f.0 (Some e.entries.next, Some (noted a.key key e.entries caches accepts)) around-holds
              ∙ ap (λ r. slot (holds_of x.before) key (Some (Some e.entries.next, Some r)) (holds_of x.after)) marked-is
              ∙ ap (λ next. slot (holds_of x.before) key (Some (Some next, Some marked)) (holds_of x.after)) x.next_delivery
              ∙ sym (ap holds_of served-rows ∙ holds-at a o x.before x.after key (Some (redone x.row)));
          deliveries = ap (λ d. map (λ e. (e.0, open_of e.1)) d.going) now
              ∙ sym (insert_entry-seen open_of nat_cmp e.entries.going e.entries.next (record { response = marked.name; delivery = record { key = key; subscribers = rest }; context = marked.context; accepted = marked.accepted }))
              ∙ ap (λ ds. insert_entry nat_cmp ds e.entries.next begun) x.deliveries
              ∙ ap (λ next. insert_entry nat_cmp m.deliveries next begun) x.next_delivery;
          next_delivery = ap (λ d. d.next) now ∙ ap (λ next. next + 1) x.next_delivery;
          fetcher = ap (λ e. e.fetcher) same ∙ x.fetcher ∙ served-fetcher;
          serves = ap (λ e. e.serves.entries) same ∙ x.serves;
          next_serve = ap (λ e. e.next_serve) same ∙ x.next_serve;
          last_index = ap (λ e. e.last_index) same ∙ x.last_index;
          priority = ap (λ e. e.priority_responses) same ∙ x.priority;
        }

    pub serves-goes : (c : Codec K) (n : Parts K P S) (before after : List (Told K P S)) (result : Result (Unit {0}) Fault)
        → n.demand ≡ set_value (is_key a key) e.demand rest
        → OnOk result (n.entries ≡ handed_again a.key (record { key = key; subscribers = rest }) accepts e.entries)
        → OnOk result (IfSome (response_of a.key e.entries key) (λ r. after ≡ before ++ told.Deliver e.entries.next r.name (record { key = key; subscribers = rest }) r.value ∷ []))
        → OnOk result (e.entries.next < 2 ^ 64)
        → IfErr result (IsRefusal e.entries.next)
        → n ≡ record e { demand = n.demand; entries = n.entries }
        → Goes a c (hand_out a m key rest judged_again) before after n result
    unfolding caches
    serves-goes c n before after (Ok done) left again tells room refused same =
        let fits : nat_lt m.next_delivery (2 ^ 64) ≡ true = ap (λ next. nat_lt next (2 ^ 64)) (sym x.next_delivery) ∙ lt-ltb e.entries.next (2 ^ 64) room in
        let told_is : after ≡ before ++ told.Deliver e.entries.next x.judging.response (record { key = key; subscribers = rest }) x.judging.value ∷ [] =
        subst (λ r. IfSome r (λ r. after ≡ before ++ told.Deliver e.entries.next r.name (record { key = key; subscribers = rest }) r.value ∷ [])) (response-is a.key key e.entries caches) tells in
        record {
          done = record { machine = served; effects = Deliver m.next_delivery (handed_as a key rest judged_again) x.judging.value ∷ [] };
          is = rw fits refl;
          told = told_is ∙ rw (x.next_delivery, x.response) refl;
          agrees = served-agrees n left again same;
        }
    serves-goes c n before after (Err fault) left again tells room refused same =
        goes-refused a c (hand_out a m key rest judged_again) before after n e.entries.next fault refused
        (λ full. let none : nat_lt m.next_delivery (2 ^ 64) ≡ false = ap (λ next. nat_lt next (2 ^ 64)) (sym x.next_delivery) ∙ full in rw none refl)

-- what a part changes of three
pub three-changed : {K S P : Type 0} (e n : Parts K P S) (d : List (K × List (S × ℕ))) (x : Numbered K S (List ℕ) (Source P) ℕ) (f : Fetcher K P)
    → n ≡ record e { demand = d; entries = x; fetcher = f } → n ≡ record e { demand = n.demand; entries = n.entries; fetcher = n.fetcher }
three-changed e n d x f is = rw is refl

-- served and not accepted: the response was not accepted before
serve-unaccepted : (flag : Bool) (outcome : Option Outcome) → rulings.Serve false ≡ ruling flag outcome → flag ≡ false
serve-unaccepted false outcome is = refl
serve-unaccepted true None is = cc
serve-unaccepted true (Some (Resolved Complete)) is = cc
serve-unaccepted true (Some (Resolved Partial)) is = cc
serve-unaccepted true (Some Unresolved) is = cc
serve-unaccepted true (Some Invalid) is = cc
serve-unaccepted true (Some Ignored) is = cc

module _ {K S P : Type 0} (a : Parties K S P) (o : IsTotalOrder a.key) (e : Parts K P S) (m : Machine K S P) (h : Open K S P) (x : IsClosed a e m h) (delivery : Delivery K S) (flag : Bool) (of : Names h delivery flag) where
  pub ruled-not_waiting : has_item a.key e.fetcher.waiting delivery.key ≡ false
  ruled-not_waiting = subst (λ k. has_item a.key e.fetcher.waiting k ≡ false) of.named (closed-not_waiting a o e m h x)

  pub ruled-not_asked : is_asked a.key e.fetcher.asked delivery.key ≡ false
  ruled-not_asked = subst (λ k. is_asked a.key e.fetcher.asked k ≡ false) of.named (closed-not_asked a o e m h x)

  pub ruled-cached : response_of a.key e.entries delivery.key ≡ Some (kept a o e m h x)
  unfolding caches
  ruled-cached = subst (λ k. response_of a.key e.entries k ≡ Some (kept a o e m h x)) of.named (response-is a.key h.handed.key e.entries (caches a o e m h x))

  pub ruled-idle : number_of a.key e.entries delivery.key ≡ None
  ruled-idle = subst (λ k. number_of a.key e.entries k ≡ None) of.named (number-none a o e m h x)

module _ {K S P : Type 0} (a : Parties K S P) (o : IsTotalOrder a.key) (c : Codec K) (e : Parts K P S) (m : Machine K S P) (h : Open K S P) (x : IsClosed a e m h) (delivery : Delivery K S) (flag : Bool) (of : Names h delivery flag) (outcome : Option Outcome) (now : ℕ) where
  abbrev pub goal : Ruling → Option (Done K S P)
  goal r = ruled a m now h x.row x.judging.value r

  went : (d : Machine K S P) (told : List (Told K P S)) (n : Parts K P S) (r : Ruling) → goal r ≡ Some (quiet d) → Agrees a n d → Went a c (goal r) told told n
  went d told n r is agrees = record { done = quiet d; is = is; told = sym (append-nil told); agrees = agrees }

  -- the whole key is retired
  pub retires-goes : rulings.Retire ≡ ruling flag outcome → (told : List (Told K P S)) (n : Parts K P S) → n.demand ≡ without_key (names_of a) delivery.key e.demand → n.entries ≡ removed a.key delivery.key e.entries
      → n.fetcher ≡ fetchers.clear (orders_of a) delivery.key e.fetcher → n ≡ record e { demand = n.demand; entries = n.entries; fetcher = n.fetcher }
      → Went a c (goal (ruling flag outcome)) told told n
  retires-goes is told n unwanted untracked cleared same =
      subst (λ r. Went a c (goal r) told told n) is
      (went (without_row a m h.handed.key) told n rulings.Retire refl
      (retired-agrees a o e m h x n
      (unwanted ∙ ap (λ k. without_key (names_of a) k e.demand) (sym of.named))
      (untracked ∙ ap (λ k. removed a.key k e.entries) (sym of.named))
      (cleared ∙ ap (λ k. fetchers.clear (orders_of a) k e.fetcher) (sym of.named)) same))

  -- the key is tried again
  pub retries-goes : rulings.Retry ≡ ruling flag outcome → (told : List (Told K P S)) (n : Parts K P S) (result : Result (Unit {0}) Fault) → n.entries ≡ changed a.key delivery.key (with_response None) e.entries
      → OnOk result (n.fetcher ≡ fetchers.add_retry (orders_of a) delivery.key now e.fetcher) → IfErr result (λ fault. fault ≡ OutOfMemory) → n ≡ record e { entries = n.entries; fetcher = n.fetcher }
      → Goes a c (goal (ruling flag outcome)) told told n result
  retries-goes is told n (Ok done) discarded waits only same =
      subst (λ r. Went a c (goal r) told told n) is
      (went (retry a m now h.handed.key) told n rulings.Retry refl
      (again-agrees a o e m h x now n
      (discarded ∙ ap (λ k. changed a.key k (with_response None) e.entries) (sym of.named))
      (waits ∙ ap (λ k. fetchers.add_retry (orders_of a) k now e.fetcher) (sym of.named)) same))
  retries-goes is told n (Err fault) discarded waits only same = rw only tt

  abbrev left_over : List (S × ℕ)
  left_over = without a.subscriber h.handed.subscribers x.row.subscribers

  rest-is : rest_of (names_of a) delivery.key delivery.subscribers e.demand ≡ some_of left_over
  rest-is =
      ap (λ k. rest_of (names_of a) k delivery.subscribers e.demand) (sym of.named) ∙ ap (λ named. rest_of (names_of a) h.handed.key named e.demand) (sym of.handed)
      ∙ ap (option_and_then (λ subscribers. some_of (without a.subscriber h.handed.subscribers subscribers))) (wanted a o e m h x)

  named-is : without_named (names_of a) delivery.key delivery.subscribers e.demand ≡ tables.left_with (names_of a) h.handed.key left_over e.demand
  named-is =
      ap (λ k. without_named (names_of a) k delivery.subscribers e.demand) (sym of.named) ∙ ap (λ named. without_named (names_of a) h.handed.key named e.demand) (sym of.handed)
      ∙ ap (tables.without_these (names_of a) h.handed.key h.handed.subscribers e.demand) (wanted a o e m h x)

  -- nobody is left
  pub last-goes : (accepts : Bool) → rulings.Serve accepts ≡ ruling flag outcome → None ≡ rest_of (names_of a) delivery.key delivery.subscribers e.demand
      → (told : List (Told K P S)) (n : Parts K P S) → n.demand ≡ without_named (names_of a) delivery.key delivery.subscribers e.demand → n.entries ≡ removed a.key delivery.key e.entries
      → n.fetcher ≡ fetchers.clear (orders_of a) delivery.key e.fetcher → n ≡ record e { demand = n.demand; entries = n.entries; fetcher = n.fetcher }
      → Went a c (goal (ruling flag outcome)) told told n
  last-goes accepts is none told n unwanted untracked cleared same =
      subst (λ r. Went a c (goal r) told told n) is (at-none left_over refl (none ∙ rest-is))
    where
      at-none : (l : List (S × ℕ)) → left_over ≡ l → None ≡ some_of l → Went a c (goal (rulings.Serve accepts)) told told n
      at-none [] empty none =
          went (without_row a m h.handed.key) told n (rulings.Serve accepts) (ap (serves_rest a m h x.judging.value accepts) empty)
          (retired-agrees a o e m h x n
          (unwanted ∙ named-is ∙ ap (λ l. tables.left_with (names_of a) h.handed.key l e.demand) empty)
          (untracked ∙ ap (λ k. removed a.key k e.entries) (sym of.named))
          (cleared ∙ ap (λ k. fetchers.clear (orders_of a) k e.fetcher) (sym of.named)) same)
      at-none (s ∷ ss) some none = absurd cc

  -- the rest get the response again
  pub rest-goes : (accepts : Bool) → rulings.Serve accepts ≡ ruling flag outcome → (rest : List (S × ℕ)) → Some rest ≡ rest_of (names_of a) delivery.key delivery.subscribers e.demand
      → (before after : List (Told K P S)) (n : Parts K P S) (result : Result (Unit {0}) Fault) → n.demand ≡ without_named (names_of a) delivery.key delivery.subscribers e.demand
      → OnOk result (n.entries ≡ handed_again a.key (record { key = delivery.key; subscribers = rest }) accepts e.entries)
      → OnOk result (IfSome (response_of a.key e.entries delivery.key) (λ r. after ≡ before ++ told.Deliver e.entries.next r.name (record { key = delivery.key; subscribers = rest }) r.value ∷ []))
      → OnOk result (e.entries.next < 2 ^ 64) → IfErr result (IsRefusal e.entries.next)
      → n ≡ record e { demand = n.demand; entries = n.entries }
      → Goes a c (goal (ruling flag outcome)) before after n result
  rest-goes accepts is rest some before after n result left again tells room refused same =
      subst (λ r. Goes a c (goal r) before after n result) is (at-rest left_over refl (some ∙ rest-is))
    where
      right : accepts ≡ false → x.judging.accepted ≡ false
      right plain = sym x.accepted ∙ of.flag ∙ serve-unaccepted flag outcome (ap rulings.Serve (sym plain) ∙ is)

      tail-same : (xs ys : List (S × ℕ)) → Some xs ≡ Some ys → xs ≡ ys
      tail-same xs ys is = cc

      at-rest : (l : List (S × ℕ)) → left_over ≡ l → Some rest ≡ some_of l → Goes a c (goal (rulings.Serve accepts)) before after n result
      at-rest [] empty some = absurd cc
      at-rest (s ∷ ss) full some =
          let listed : rest ≡ s ∷ ss = tail-same rest (s ∷ ss) some in
          subst (λ going. Goes a c going before after n result) (sym (ap (serves_rest a m h x.judging.value accepts) full))
          (serves-goes a o e m h x accepts right (s ∷ ss) c n before after result
          (left ∙ named-is ∙ ap (λ l. tables.left_with (names_of a) h.handed.key l e.demand) full)
          (subst (λ (l : List (S × ℕ)). OnOk result (n.entries ≡ handed_again a.key (record { key = h.handed.key; subscribers = l }) accepts e.entries)) listed
          (subst (λ (k : K). OnOk result (n.entries ≡ handed_again a.key (record { key = k; subscribers = rest }) accepts e.entries)) (sym of.named) again))
          (subst (λ (l : List (S × ℕ)). OnOk result (IfSome (response_of a.key e.entries h.handed.key) (λ r. after ≡ before ++ told.Deliver e.entries.next r.name (record { key = h.handed.key; subscribers = l }) r.value ∷ []))) listed
          (subst (λ (k : K). OnOk result (IfSome (response_of a.key e.entries k) (λ r. after ≡ before ++ told.Deliver e.entries.next r.name (record { key = k; subscribers = rest }) r.value ∷ []))) (sym of.named) tells))
          room refused same)
