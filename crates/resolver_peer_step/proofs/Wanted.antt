-- The parts once a key was fetched.
use Rattle.std.proofs.Common.{◌≡◌, refl, ap, sym, ◌∙◌, subst, ℕ, true, false, List, [], ◌∷◌, map, Option, None, Some}
use Rattle.std.specs.Prelude.{is_some, not}
use Rattle.std.proofs.lemmas.Map.Made.{lookup-map_values}
use Rattle.std.specs.Option.{option_map}
use Rattle.std.specs.Cmp.{IsTotalOrder}
use Rattle.std.specs.List.{IsDistinct, filter_map}
use Rattle.std.specs.List.Sorted.{IsStrictlySortedBy}
use Rattle.std.specs.Map.{keys_of, lookup, remove_entry, set_value}
use Rattle.std.specs.BTreeMap.{insert_entry, is_at}
use Rattle.std.specs.declared.cmp.Ordering.TheVariants.{Equal}
use Rattle.resolver_types.specs.Subscribers.{attached_all}
use Rattle.resolver_priority_set.specs.Priorities.{has_item, put}
use Rattle.resolver_types.specs.Table.{asked_one}
use Rattle.resolver_types.specs.Table as tables
use Rattle.resolver_delivery.specs.Entries.{fresh, inserted, is_tracked}
use Rattle.resolver_fetch_requests.specs.Requests.{by_id, is_asked}
use Rattle.resolver_fetch_scan.specs.Fetcher as fetchers
use Rattle.resolver_fetch_scan.specs.Fetcher.{Fetcher, unless_over}
use Rattle.resolver_fetch_scan.specs.Peers.{with_targets}
use Rattle.resolver_fetch_scan.specs.Waiting.{fresh_at, place_order}
use Rattle.resolver_model.proofs.Mapped.{insert_entry-seen}
use Rattle.resolver_model_peer.specs.Parties.{Parties, names_of, orders_of}
use Rattle.resolver_model_peer.specs.PeerRows.{Row, Waits, change_entry, request_of}
use Rattle.resolver_model_peer.specs.Peer.{Item, Machine, fetch, fetch_one, is_key, row_of, targets_with, waiter_with}
use Rattle.resolver_peer_step.specs.declared.parts.Parts.{Parts}
use Rattle.resolver_peer_step.specs.Aiming.{aimed, readied}
use Rattle.resolver_peer_step.specs.Tied.{Agrees, AreOwn, IsSound, demand_of, fetcher_of, held_of, holds_in, holds_of, open_of, place_of, retries_in, same_id, sorted, targets_in}
use Rattle.resolver_peer_step.proofs.Places.{apart-places-first, apart-places-last, demand-at, holds-at, idle-asked, idle-waiting, none-asked, own-after, own-before, own-here, own-slot, requests-at, retries-at, targets-at, waiting-at}
use Rattle.resolver_peer_step.proofs.Queues.{put-waits}
use Rattle.resolver_peer_step.proofs.Slots.{Around, Found, IsAround, around-given, around-map, around-none, around-some, change-found, insert-found, insert-slot, lookup-found, lookup-slot, ordered-slot, remove-found, set-found, slot}

none-under : {X Y : Type 0} (g : X → Y) (x : Option X) → option_map g x ≡ None → x ≡ None
none-under g None is = refl
none-under g (Some x) is = absurd cc

module _ {K S P : Type 0} (a : Parties K S P) (o : IsTotalOrder a.key) (m : Machine K S P) (sound : IsSound a m) (key : K) where
  -- what each table has of a key that is there, once its row is another of the same phase and retries
  record Present (change : Row K S P → Row K S P) (row : Row K S P) : Type 0 where
    pub own : K
    pub same : a.key key own ≡ Equal
    pub before : List (K × Row K S P)
    pub after : List (K × Row K S P)
    pub at : Around o m.rows own (Some row)
    pub now : change_entry (is_key a key) change m.rows ≡ slot at.before own (Some (change row)) at.after

  present-at : (change : Row K S P → Row K S P) (row : Row K S P) → Found o m.rows key row → Present change row
  present-at change row f = record {
    own = f.own;
    same = f.same;
    before = f.at.before;
    after = f.at.after;
    at = f.at;
    now = ap (change_entry (is_key a key) change) f.at.whole ∙ change-found o change f.at.before f.at.after key f.own row f.same f.at.around;
  }

  module _ (subscribers : List (S × ℕ)) (targets : Option (List P)) where
    abbrev change : Row K S P → Row K S P
    change old = record old { subscribers = attached_all a.subscriber old.subscribers subscribers; targets = targets_with a old.targets targets }

    abbrev changed : List (K × Row K S P)
    changed = change_entry (is_key a key) change m.rows

    module _ (row : Row K S P) (p : Present change row) where
      there-targets : filter_map targets_in m.rows ≡ slot (filter_map targets_in p.at.before) p.own row.targets (filter_map targets_in p.at.after)
      there-targets = ap (filter_map targets_in) p.at.whole ∙ targets-at a o p.at.before p.at.after p.own (Some row)

      now-targets : filter_map targets_in changed ≡ slot (filter_map targets_in p.at.before) p.own (targets_with a row.targets targets) (filter_map targets_in p.at.after)
      now-targets = ap (filter_map targets_in) p.now ∙ targets-at a o p.at.before p.at.after p.own (Some (change row))

      found-targets : lookup (is_at (a.key key)) (filter_map targets_in m.rows) ≡ row.targets
      found-targets = ap (lookup (is_at (a.key key))) there-targets
          ∙ lookup-found o (filter_map targets_in p.at.before) (filter_map targets_in p.at.after) key p.own row.targets p.same (around-given o (λ row. row.targets) p.at.before p.at.after p.own p.at.around)

      same-waiting : sorted a (filter_map place_of m.rows) ≡ sorted a (filter_map place_of changed)
      same-waiting = ap (λ rows. sorted a (filter_map place_of rows)) p.at.whole ∙ waiting-at a o p.at.before p.at.after p.own (Some row)
          ∙ sym (ap (λ rows. sorted a (filter_map place_of rows)) p.now ∙ waiting-at a o p.at.before p.at.after p.own (Some (change row)))

      same-requests : filter_map request_of m.rows ≡ filter_map request_of changed
      same-requests = ap (filter_map request_of) p.at.whole ∙ requests-at a o p.at.before p.at.after p.own (Some row)
          ∙ sym (ap (filter_map request_of) p.now ∙ requests-at a o p.at.before p.at.after p.own (Some (change row)))

      same-retries : filter_map retries_in m.rows ≡ filter_map retries_in changed
      same-retries = ap (filter_map retries_in) p.at.whole ∙ retries-at a o p.at.before p.at.after p.own (Some row)
          ∙ sym (ap (filter_map retries_in) p.now ∙ retries-at a o p.at.before p.at.after p.own (Some (change row)))

      same-holds : holds_of m.rows ≡ holds_of changed
      same-holds = ap holds_of p.at.whole ∙ holds-at a o p.at.before p.at.after p.own (Some row)
          ∙ sym (ap holds_of p.now ∙ holds-at a o p.at.before p.at.after p.own (Some (change row)))

      now-demand : asked_one (names_of a) (demand_of m.rows) (key, subscribers) ≡ demand_of changed
      now-demand =
          let were = ap demand_of p.at.whole ∙ demand-at a o p.at.before p.at.after p.own (Some row) in
          let i = around-map o (λ (row : Row K S P). row.subscribers) p.at.before p.at.after p.own p.at.around in
          let found = ap (lookup (is_at (a.key key))) were ∙ lookup-found o (demand_of p.at.before) (demand_of p.at.after) key p.own (Some row.subscribers) p.same i in
          ap (tables.asked_beside (names_of a) (demand_of m.rows) (key, subscribers)) found
          ∙ ap (λ d. set_value (is_at (a.key key)) d (attached_all a.subscriber row.subscribers subscribers)) were
          ∙ set-found o (demand_of p.at.before) (demand_of p.at.after) key p.own row.subscribers (attached_all a.subscriber row.subscribers subscribers) p.same i
          ∙ sym (ap demand_of p.now ∙ demand-at a o p.at.before p.at.after p.own (Some (change row)))

      now-sound : (n : Machine K S P) → n ≡ record m { rows = changed; waiter = n.waiter } → m.scan.expects ≡ None → IsSound a n
      now-sound n is closed =
          let owned = subst (λ rows. AreOwn m.deliveries rows) p.at.whole sound.own in
          subst (IsSound a) (sym is) (record {
            ordered = subst (λ rows. IsStrictlySortedBy a.key (keys_of rows)) (sym p.now)
                (ordered-slot o p.at.before p.at.after p.own (Some row) (Some (change row)) p.at.around (subst (λ rows. IsStrictlySortedBy a.key (keys_of rows)) p.at.whole sound.ordered));
            ids = subst (λ es. IsDistinct same_id (keys_of es)) same-requests sound.ids;
            own = subst (λ rows. AreOwn m.deliveries rows) (sym p.now)
                (own-slot m.deliveries p.at.before p.at.after p.own (Some (change row)) (own-before m.deliveries p.at.before p.at.after p.own (Some row) owned)
                (own-here m.deliveries p.at.before p.at.after p.own (Some row) owned)
                (own-after m.deliveries p.at.before p.at.after p.own (Some row) owned));
            below = sound.below;
            new_id = none-asked a (fetcher_of a (record m { rows = changed; waiter = n.waiter })) (record m { rows = changed; waiter = n.waiter }) closed;
          })

  -- what the fetcher makes of the targets is what the machine does
  aimed-is : (subscribers : List (S × ℕ)) (row : Row K S P) (targets : Option (List P)) → Present (change subscribers targets) row
      → aimed (orders_of a) key targets (fetcher_of a m) ≡ fetcher_of a (record (record m { rows = changed subscribers targets }) { waiter = waiter_with a row.targets targets m.waiter })
  aimed-is subscribers row targets p = at targets p row.targets refl
    where
      at : (targets : Option (List P)) → Present (change subscribers targets) row → (there : Option (List P)) → row.targets ≡ there
          → aimed (orders_of a) key targets (fetcher_of a m) ≡ fetcher_of a (record (record m { rows = changed subscribers targets }) { waiter = waiter_with a row.targets targets m.waiter })
      at None p there is =
          let gone = ap (λ es. remove_entry (is_at (a.key key)) es) (there-targets subscribers None row p)
          ∙ remove-found o (filter_map targets_in p.at.before) (filter_map targets_in p.at.after) key p.own row.targets p.same (around-given o (λ row. row.targets) p.at.before p.at.after p.own p.at.around)
          ∙ sym (now-targets subscribers None row p ∙ none there is) in
          rw (gone, same-waiting subscribers None row p, same-requests subscribers None row p, same-retries subscribers None row p, cleared there is) refl
        where
          none : (there : Option (List P)) → row.targets ≡ there
              → slot (filter_map targets_in p.at.before) p.own (targets_with a row.targets None) (filter_map targets_in p.at.after) ≡ slot (filter_map targets_in p.at.before) p.own None (filter_map targets_in p.at.after)
          none None is = rw is refl
          none (Some ts) is = rw is refl

          cleared : (there : Option (List P)) → row.targets ≡ there → waiter_with a row.targets None m.waiter ≡ None
          cleared None is = rw is refl
          cleared (Some ts) is = rw is refl
      at (Some peers) p None is =
          let found : lookup (is_at (a.key key)) (filter_map targets_in m.rows) ≡ None = found-targets subscribers (Some peers) row p ∙ is in
          let targets : filter_map targets_in m.rows ≡ filter_map targets_in (changed subscribers (Some peers)) =
          there-targets subscribers (Some peers) row p ∙ ap (λ ts. slot (filter_map targets_in p.at.before) p.own ts (filter_map targets_in p.at.after)) is
          ∙ sym (now-targets subscribers (Some peers) row p ∙ ap (λ there. slot (filter_map targets_in p.at.before) p.own (targets_with a there (Some peers)) (filter_map targets_in p.at.after)) is) in
          rw (found, is, targets, same-waiting subscribers (Some peers) row p, same-requests subscribers (Some peers) row p, same-retries subscribers (Some peers) row p) refl
      at (Some peers) p (Some there) is =
          let found : lookup (is_at (a.key key)) (filter_map targets_in m.rows) ≡ Some there = found-targets subscribers (Some peers) row p ∙ is in
          let targets : insert_entry a.key (filter_map targets_in m.rows) key (with_targets a.peer there peers) ≡ filter_map targets_in (changed subscribers (Some peers)) =
          ap (λ es. insert_entry a.key es key (with_targets a.peer there peers)) (there-targets subscribers (Some peers) row p ∙ ap (λ ts. slot (filter_map targets_in p.at.before) p.own ts (filter_map targets_in p.at.after)) is)
          ∙ insert-found o (filter_map targets_in p.at.before) (filter_map targets_in p.at.after) key p.own there (with_targets a.peer there peers) p.same (around-given o (λ row. row.targets) p.at.before p.at.after p.own p.at.around)
          ∙ sym (now-targets subscribers (Some peers) row p ∙ ap (λ there. slot (filter_map targets_in p.at.before) p.own (targets_with a there (Some peers)) (filter_map targets_in p.at.after)) is) in
          rw (found, is, targets, same-waiting subscribers (Some peers) row p, same-requests subscribers (Some peers) row p, same-retries subscribers (Some peers) row p) refl

  module _ (e n : Parts K P S) (is : Agrees a e m) (closed : m.scan.expects ≡ None) (now : ℕ) (subscribers : List (S × ℕ)) (targets : Option (List P)) where
    -- what the tracker says of the key
    asked-is : tables.is_asked (names_of a) e.demand key ≡ is_some (row_of a m key)
    asked-is = ap (λ d. tables.is_asked (names_of a) d key) is.demand ∙ ap is_some (lookup-map_values (λ (row : Row K S P). row.subscribers) (is_key a key) m.rows) ∙ some-under (row_of a m key)
      where
        some-under : (row : Option (Row K S P)) → is_some (option_map (λ (row : Row K S P). row.subscribers) row) ≡ is_some row
        some-under None = refl
        some-under (Some row) = refl

    there-agrees : (row : Row K S P) → row_of a m key ≡ Some row
        → n.demand ≡ asked_one (names_of a) e.demand (key, subscribers) → n.fetcher ≡ aimed (orders_of a) key targets e.fetcher → n ≡ record e { demand = n.demand; fetcher = n.fetcher }
        → Agrees a n (fetch_one a m now (record { key = key; subscribers = subscribers; targets = targets }) (Some row))
    there-agrees row there wanted aims same =
        let p = present-at (change subscribers targets) row (around-some o m.rows key row sound.ordered there) in
        record {
          sound = now-sound subscribers targets row p (fetch_one a m now (record { key = key; subscribers = subscribers; targets = targets }) (Some row)) refl closed;
          demand = wanted ∙ ap (λ d. asked_one (names_of a) d (key, subscribers)) is.demand ∙ now-demand subscribers targets row p;
          entries = ap (λ e. map (λ x. (x.0, held_of x.1)) e.entries.keys) same ∙ is.entries ∙ same-holds subscribers targets row p;
          deliveries = ap (λ e. map (λ x. (x.0, open_of x.1)) e.entries.going) same ∙ is.deliveries;
          next_delivery = ap (λ e. e.entries.next) same ∙ is.next_delivery;
          fetcher = aims ∙ ap (aimed (orders_of a) key targets) is.fetcher ∙ aimed-is subscribers row targets p;
          serves = ap (λ e. e.serves.entries) same ∙ is.serves;
          next_serve = ap (λ e. e.next_serve) same ∙ is.next_serve;
          last_index = ap (λ e. e.last_index) same ∙ is.last_index;
          priority = ap (λ e. e.priority_responses) same ∙ is.priority;
        }

    -- a key that is there
    pub present-agrees : not (tables.is_asked (names_of a) e.demand key) ≡ false
        → n.demand ≡ asked_one (names_of a) e.demand (key, subscribers) → n.fetcher ≡ aimed (orders_of a) key targets e.fetcher → n ≡ record e { demand = n.demand; fetcher = n.fetcher }
        → Agrees a n (fetch_one a m now (record { key = key; subscribers = subscribers; targets = targets }) (row_of a m key))
    present-agrees old wanted aims same = at (row_of a m key) refl (sym (ap not asked-is) ∙ old)
      where
        clash : true ≡ false → ⊥
        clash same = cc

        at : (row : Option (Row K S P)) → row_of a m key ≡ row → not (is_some row) ≡ false → Agrees a n (fetch_one a m now (record { key = key; subscribers = subscribers; targets = targets }) row)
        at None there old = absurd (clash old)
        at (Some row) there old = there-agrees row there wanted aims same

    -- where a key is that is new
    absent : not (tables.is_asked (names_of a) e.demand key) ≡ true → row_of a m key ≡ None
    absent new = at (row_of a m key) refl (sym (ap not asked-is) ∙ new)
      where
        clash : false ≡ true → ⊥
        clash same = cc

        at : (row : Option (Row K S P)) → row_of a m key ≡ row → not (is_some row) ≡ true → row_of a m key ≡ None
        at None there new = there
        at (Some row) there new = absurd (clash new)

    pub new-not_waiting : not (tables.is_asked (names_of a) e.demand key) ≡ true → has_item a.key e.fetcher.waiting key ≡ false
    new-not_waiting new =
        let at = around-none o m.rows key sound.ordered (absent new) in
        ap (λ f. has_item a.key f.waiting key) is.fetcher ∙ ap (λ rows. has_item a.key (sorted a (filter_map place_of rows)) key) at.whole
        ∙ idle-waiting a o at.before at.after key at.around None refl

    pub new-not_asked : not (tables.is_asked (names_of a) e.demand key) ≡ true → is_asked a.key e.fetcher.asked key ≡ false
    new-not_asked new =
        let at = around-none o m.rows key sound.ordered (absent new) in
        let owned = subst (λ rows. AreOwn m.deliveries rows) at.whole sound.own in
        ap (λ f. is_asked a.key f.asked key) is.fetcher ∙ ap (λ rows. is_asked a.key (by_id (filter_map request_of rows)) key) at.whole
        ∙ idle-asked a o at.before at.after key at.around m.deliveries None (own-before m.deliveries at.before at.after key None owned) (own-after m.deliveries at.before at.after key None owned) refl

    abbrev new_row : Row K S P
    new_row = record {
      subscribers = attached_all a.subscriber [] subscribers;
      targets = option_map (with_targets a.peer []) targets;
      retries = 0;
      phase = Waits (fresh_at now);
    }

    abbrev later : Machine K S P
    later = fetch_one a m now (record { key = key; subscribers = subscribers; targets = targets }) None

    module _ (at : Around o m.rows key None) where
      now-rows : later.rows ≡ slot at.before key (Some new_row) at.after
      now-rows = ap (λ rows. insert_entry a.key rows key new_row) at.whole ∙ insert-slot o at.before at.after key None new_row at.around

      new-waiting : put place_order a.key (sorted a (filter_map place_of m.rows)) (fresh_at now, key) ≡ sorted a (filter_map place_of later.rows)
      new-waiting =
          ap (λ rows. put place_order a.key (sorted a (filter_map place_of rows)) (fresh_at now, key)) at.whole
          ∙ ap (λ ps. put place_order a.key ps (fresh_at now, key)) (waiting-at a o at.before at.after key None)
          ∙ put-waits a o key (filter_map place_of at.before) (filter_map place_of at.after) (apart-places-first a o at.before at.after key at.around) (apart-places-last a o at.before at.after key at.around) (fresh_at now)
          ∙ sym (ap (λ rows. sorted a (filter_map place_of rows)) now-rows ∙ waiting-at a o at.before at.after key (Some new_row))

      new-requests : filter_map request_of m.rows ≡ filter_map request_of later.rows
      new-requests = ap (filter_map request_of) at.whole ∙ requests-at a o at.before at.after key None ∙ sym (ap (filter_map request_of) now-rows ∙ requests-at a o at.before at.after key (Some new_row))

      new-retries : filter_map retries_in m.rows ≡ filter_map retries_in later.rows
      new-retries = ap (filter_map retries_in) at.whole ∙ retries-at a o at.before at.after key None ∙ sym (ap (filter_map retries_in) now-rows ∙ retries-at a o at.before at.after key (Some new_row))

      were-targets : filter_map targets_in m.rows ≡ slot (filter_map targets_in at.before) key None (filter_map targets_in at.after)
      were-targets = ap (filter_map targets_in) at.whole ∙ targets-at a o at.before at.after key None

      new-targets : filter_map targets_in later.rows ≡ slot (filter_map targets_in at.before) key new_row.targets (filter_map targets_in at.after)
      new-targets = ap (filter_map targets_in) now-rows ∙ targets-at a o at.before at.after key (Some new_row)

      i-targets : IsAround o (filter_map targets_in at.before) key (filter_map targets_in at.after)
      i-targets = around-given o (λ (row : Row K S P). row.targets) at.before at.after key at.around

      no-targets : lookup (is_at (a.key key)) (filter_map targets_in m.rows) ≡ None
      no-targets = ap (lookup (is_at (a.key key))) were-targets ∙ lookup-slot o (filter_map targets_in at.before) (filter_map targets_in at.after) key None i-targets

      readied-is : readied (orders_of a) now key targets (fetcher_of a m) ≡ fetcher_of a later
      readied-is = on targets refl
        where
          on : (given : Option (List P)) → targets ≡ given → readied (orders_of a) now key given (fetcher_of a m) ≡ fetcher_of a later
          on None none =
              let all = were-targets ∙ sym (new-targets ∙ ap (λ ts. slot (filter_map targets_in at.before) key (option_map (with_targets a.peer []) ts) (filter_map targets_in at.after)) none) in
              rw (new-waiting, new-requests, new-retries, all) refl
          on (Some peers) some =
              let first : insert_entry a.key (filter_map targets_in m.rows) key (with_targets a.peer [] peers) ≡ filter_map targets_in later.rows =
              ap (λ es. insert_entry a.key es key (with_targets a.peer [] peers)) were-targets
              ∙ insert-slot o (filter_map targets_in at.before) (filter_map targets_in at.after) key None (with_targets a.peer [] peers) i-targets
              ∙ sym (new-targets ∙ ap (λ ts. slot (filter_map targets_in at.before) key (option_map (with_targets a.peer []) ts) (filter_map targets_in at.after)) some) in
              rw (no-targets, first, new-waiting, new-requests, new-retries) refl

      new-sound : IsSound a later
      new-sound =
          let owned = subst (λ rows. AreOwn m.deliveries rows) at.whole sound.own in
          record {
            ordered = subst (λ rows. IsStrictlySortedBy a.key (keys_of rows)) (sym now-rows)
                (ordered-slot o at.before at.after key None (Some new_row) at.around (subst (λ rows. IsStrictlySortedBy a.key (keys_of rows)) at.whole sound.ordered));
            ids = subst (λ es. IsDistinct same_id (keys_of es)) new-requests sound.ids;
            own = subst (λ rows. AreOwn m.deliveries rows) (sym now-rows)
                (own-slot m.deliveries at.before at.after key (Some new_row) (own-before m.deliveries at.before at.after key None owned) tt (own-after m.deliveries at.before at.after key None owned));
            below = sound.below;
            new_id = none-asked a (fetcher_of a later) later closed;
          }

      new-demand : asked_one (names_of a) (demand_of m.rows) (key, subscribers) ≡ demand_of later.rows
      new-demand =
          let were = ap demand_of at.whole ∙ demand-at a o at.before at.after key None in
          let i = around-map o (λ (row : Row K S P). row.subscribers) at.before at.after key at.around in
          let none = ap (lookup (is_at (a.key key))) were ∙ lookup-slot o (demand_of at.before) (demand_of at.after) key None i in
          ap (tables.asked_beside (names_of a) (demand_of m.rows) (key, subscribers)) none
          ∙ ap (λ d. insert_entry a.key d key (attached_all a.subscriber [] subscribers)) were
          ∙ insert-slot o (demand_of at.before) (demand_of at.after) key None (attached_all a.subscriber [] subscribers) i
          ∙ sym (ap demand_of now-rows ∙ demand-at a o at.before at.after key (Some new_row))

      were-holds : holds_of m.rows ≡ slot (holds_of at.before) key None (holds_of at.after)
      were-holds = ap holds_of at.whole ∙ holds-at a o at.before at.after key None

      i-holds : IsAround o (holds_of at.before) key (holds_of at.after)
      i-holds = around-map o (λ (row : Row K S P). holds_in row.phase) at.before at.after key at.around

      untracked : lookup (is_at (a.key key)) e.entries.keys ≡ None
      untracked = none-under held_of (lookup (is_at (a.key key)) e.entries.keys)
          (sym (lookup-map_values held_of (is_at (a.key key)) e.entries.keys) ∙ ap (lookup (is_at (a.key key))) (is.entries ∙ were-holds)
          ∙ lookup-slot o (holds_of at.before) (holds_of at.after) key None i-holds)

      new-entries : map (λ x. (x.0, held_of x.1)) (insert_entry a.key e.entries.keys key (fresh now)) ≡ holds_of later.rows
      new-entries =
          sym (insert_entry-seen held_of a.key e.entries.keys key (fresh now))
          ∙ ap (λ es. insert_entry a.key es key (None, None)) (is.entries ∙ were-holds)
          ∙ insert-slot o (holds_of at.before) (holds_of at.after) key None (None, None) i-holds
          ∙ sym (ap holds_of now-rows ∙ holds-at a o at.before at.after key (Some new_row))

      pub around-agrees : n.demand ≡ asked_one (names_of a) e.demand (key, subscribers) → n.entries ≡ inserted a.key key now e.entries → n.fetcher ≡ readied (orders_of a) now key targets e.fetcher
          → n ≡ record e { demand = n.demand; entries = n.entries; fetcher = n.fetcher } → Agrees a n later
      around-agrees wanted tracked readies same =
          let entries : n.entries ≡ record e.entries { keys = insert_entry a.key e.entries.keys key (fresh now) } = tracked ∙ rw untracked refl in
          record {
            sound = new-sound;
            demand = wanted ∙ ap (λ d. asked_one (names_of a) d (key, subscribers)) is.demand ∙ new-demand;
            entries = ap (λ e. map (λ x. (x.0, held_of x.1)) e.keys) entries ∙ new-entries;
            deliveries = ap (λ e. map (λ x. (x.0, open_of x.1)) e.going) entries ∙ is.deliveries;
            next_delivery = ap (λ e. e.next) entries ∙ is.next_delivery;
            fetcher = readies ∙ ap (readied (orders_of a) now key targets) is.fetcher ∙ readied-is;
            serves = ap (λ e. e.serves.entries) same ∙ is.serves;
            next_serve = ap (λ e. e.next_serve) same ∙ is.next_serve;
            last_index = ap (λ e. e.last_index) same ∙ is.last_index;
            priority = ap (λ e. e.priority_responses) same ∙ is.priority;
          }

    -- nothing is kept of a key that is new
    pub new-untracked : not (tables.is_asked (names_of a) e.demand key) ≡ true → is_tracked a.key e.entries key ≡ false
    new-untracked new = ap is_some (untracked (around-none o m.rows key sound.ordered (absent new)))

    -- a key that is new
    pub new-agrees : not (tables.is_asked (names_of a) e.demand key) ≡ true
        → n.demand ≡ asked_one (names_of a) e.demand (key, subscribers) → n.entries ≡ inserted a.key key now e.entries → n.fetcher ≡ readied (orders_of a) now key targets e.fetcher
        → n ≡ record e { demand = n.demand; entries = n.entries; fetcher = n.fetcher }
        → Agrees a n (fetch_one a m now (record { key = key; subscribers = subscribers; targets = targets }) (row_of a m key))
    new-agrees new wanted tracked readies same =
        subst (λ row. Agrees a n (fetch_one a m now (record { key = key; subscribers = subscribers; targets = targets }) row)) (sym (absent new))
        (around-agrees (around-none o m.rows key sound.ordered (absent new)) wanted tracked readies same)

module _ {K S P : Type 0} (a : Parties K S P) where
  -- what is left to fetch, from the machine that there is now, makes what all made
  pub record Fetches (m : Machine K S P) (now : ℕ) (all rest : List (Item K S P)) (e : Parts K P S) : Type 0 where
    pub so_far : Machine K S P
    pub same : fetch a so_far now rest ≡ fetch a m now all
    pub agrees : Agrees a e so_far
    pub scan : so_far.scan ≡ m.scan

  one-scan : (m : Machine K S P) (now : ℕ) (item : Item K S P) (row : Option (Row K S P)) → (fetch_one a m now item row).scan ≡ m.scan
  one-scan m now item None = refl
  one-scan m now item (Some row) = refl

  pub fetches-first : (m : Machine K S P) (now : ℕ) (all : List (Item K S P)) (e : Parts K P S) → Agrees a e m → Fetches m now all all e
  fetches-first m now all e is = record { so_far = m; same = refl; agrees = is; scan = refl }

  pub fetches-next : (m : Machine K S P) (now : ℕ) (all rest : List (Item K S P)) (item : Item K S P) (e n : Parts K P S) → (f : Fetches m now all (item ∷ rest) e)
      → Agrees a n (fetch_one a f.so_far now item (row_of a f.so_far item.key)) → Fetches m now all rest n
  fetches-next m now all rest item e n f is = record {
    so_far = fetch_one a f.so_far now item (row_of a f.so_far item.key);
    same = f.same;
    agrees = is;
    scan = one-scan f.so_far now item (row_of a f.so_far item.key) ∙ f.scan;
  }

  pub fetches-all : (m : Machine K S P) (now : ℕ) (all : List (Item K S P)) (e : Parts K P S) → Fetches m now all [] e → Agrees a e (fetch a m now all)
  fetches-all m now all e f = subst (Agrees a e) f.same f.agrees

  -- no scan is open meanwhile
  pub fetches-closed : (m : Machine K S P) (now : ℕ) (all rest : List (Item K S P)) (first e : Parts K P S) → Agrees a first m → is_some first.fetcher.scan ≡ false → Fetches m now all rest e → is_some e.fetcher.scan ≡ false
  fetches-closed m now all rest first e is closed f =
      ap (λ (f : Fetcher K P). is_some f.scan) f.agrees.fetcher ∙ ap (λ scan. is_some (unless_over scan)) f.scan ∙ sym (ap (λ (f : Fetcher K P). is_some f.scan) is.fetcher) ∙ closed
