-- The parts once a verdict closed a delivery, and what it earned was told.
use Rattle.std.proofs.Common.{◌≡◌, refl, ap, sym, ◌∙◌, subst, ℕ, ◌<◌, Bool, true, false, cond, List, [], ◌∷◌, ◌++◌, map, Option, None, Some, Result, Ok, Err, append-nil, append_assoc, arith}
use Rattle.std.specs.Prelude.{◌==◌, if◌then◌else◌, is_none, is_some, not}
use Rattle.std.proofs.lemmas.Grind.{common_steps}
use Rattle.std.proofs.lemmas.Cmp.{eq_by_cmp_equiv, tied_itself}
use Rattle.std.proofs.lemmas.List.{map-append}
use Rattle.std.proofs.lemmas.Map.Made.{lookup-map_values}
use Rattle.std.specs.Option.{option_map, option_and_then}
use Rattle.std.specs.Cmp.{IsTotalOrder}
use Rattle.std.specs.List.{AllByRecursion}
use Rattle.std.specs.List.Sorted.{IsStrictlySortedBy}
use Rattle.std.specs.Map.{keys_of, lookup, remove_entry, set_value}
use Rattle.std.specs.BTreeMap.{is_at}
use Rattle.std.specs.Ordering.{is_eq, nat_cmp}
use Rattle.std.specs.declared.cmp.Ordering.TheVariants.{Equal}
use Rattle.resolver_base.specs.declared.fault.Fault.{Fault}
use Rattle.resolver_base.specs.declared.fault.Fault.TheVariants as faults
use Rattle.resolver_types.specs.declared.outcome.Outcome.{Outcome}
use Rattle.resolver_types.specs.declared.outcome.Outcome.TheVariants.{Invalid, Resolved, Unresolved, Ignored}
use Rattle.resolver_delivery.specs.declared.completion.Aborted.{Aborted}
use Rattle.resolver_delivery.specs.declared.completion.Completion.{Completion}
use Rattle.resolver_delivery.specs.declared.entry.Entry.{Entry}
use Rattle.resolver_delivery.specs.declared.entry.Open.{Open as Begun}
use Rattle.resolver_delivery.specs.declared.entry.Response.{Response}
use Rattle.resolver_delivery.specs.Entries.{Numbered, changed, changed_at, completed, completed_from, completion, completion_of, ended, is_live, is_number, number_of}
use Rattle.resolver_delivery.specs.Entries as entries
use Rattle.resolver_fetch_scan.specs.Fetcher.{Fetcher}
use Rattle.resolver_model.specs.Verdicts.{ruling}
use Rattle.resolver_model.proofs.Mapped.{remove_entry-seen, set_value-seen}
use Rattle.resolver_model_peer.specs.declared.named.Source.{Source}
use Rattle.resolver_model_peer.specs.Parties.{Parties, orders_of}
use Rattle.resolver_model_peer.specs.PeerRows.{Row, Phase, Waits, Asked, Judged, Judging}
use Rattle.resolver_model_peer.specs.Peer.{Done, Machine, Open, account_for, and_then, closed, is_key, quiet, row_of, ruled, ruled_at, ruled_in, verdict, verdict_on}
use Rattle.resolver_model_peer.proofs.PeerDemand.{same_tests}
use Rattle.resolver_model_peer.specs.declared.effects.Effect.{Effect as Told}
use Rattle.resolver_peer_step.specs.declared.parts.Parts.{Parts}
use Rattle.resolver_peer_step.specs.Going.{Goes, Went}
use Rattle.resolver_peer_step.specs.Ruled.{IsClosed, earned, paid}
use Rattle.resolver_peer_step.specs.Said.{Codec, codec, written}
use Rattle.resolver_peer_step.specs.Tied.{Agrees, AreOwn, Holds, IsGiven, IsOwn, IsSound, fetcher_of, held_of, holds_in, holds_of, open_of}
use Rattle.resolver_peer_step.proofs.Handed.{Entered, around-holds, entry-here, holds-here}
use Rattle.resolver_peer_step.proofs.Numbered.{below-less, lookup-less, own-less}
use Rattle.resolver_peer_step.proofs.Places.{apart-first, apart-last, none-asked, own-after, own-before, own-here, own-slot}
use Rattle.resolver_peer_step.proofs.Requests.{at-number}
use Rattle.resolver_peer_step.proofs.Slots.{Around, Found, IsAround, around-equal, around-none, around-some, set-slot, slot}

flip : (i k : ℕ) → (i == k) ≡ (k == i)
flip i k = grind (arith, common_steps)

is-same : (i k : ℕ) → (i == k) ≡ true → i ≡ k
is-same i k is = grind (arith, common_steps, is)

at-other : (i k : ℕ) → (i == k) ≡ false → is_at (nat_cmp i) k ≡ false
at-other i k other = grind (arith, common_steps, other)

module _ {K S P : Type 0} (a : Parties K S P) where
  -- what a response earned leaves a scan closed
  pub paid-closed : (source : Source P) (b : Bool) (outcome : Option Outcome) (f : Fetcher K P) → is_some f.scan ≡ false → is_some (paid (orders_of a) source b outcome f).scan ≡ false
  paid-closed source true outcome f closed = closed
  paid-closed source false None f closed = closed
  paid-closed source false (Some (Resolved resolution)) f closed = closed
  paid-closed source false (Some Invalid) f closed = closed
  paid-closed source false (Some Unresolved) f closed = closed
  paid-closed source false (Some Ignored) f closed = closed

module _ {K S P : Type 0} (a : Parties K S P) (c : Codec K) where
  -- one after the other
  pub and-goes : (d : Done K S P) (next : Machine K S P → Option (Done K S P)) (before mid after : List (Told K P S)) (n : Parts K P S) (result : Result (Unit {0}) Fault)
      → mid ≡ before ++ map (written c) d.effects → Goes a c (next d.machine) mid after n result → Goes a c (and_then d next) before after n result
  and-goes d next before mid after n (Ok done) told w = record {
    done = record { machine = w.done.machine; effects = d.effects ++ w.done.effects };
    is = ap (option_map (λ e. record { machine = e.machine; effects = d.effects ++ e.effects })) w.is;
    told = w.told ∙ ap (λ mid. mid ++ map (written c) w.done.effects) told ∙ append_assoc before (map (written c) d.effects) (map (written c) w.done.effects)
        ∙ ap (λ more. before ++ more) (sym (map-append (written c) d.effects w.done.effects));
    agrees = w.agrees;
  }
  and-goes d next before mid after n (Err faults.OutOfMemory) told w = tt
  and-goes d next before mid after n (Err faults.Exhausted) told none = ap (option_map (λ e. record { machine = e.machine; effects = d.effects ++ e.effects })) none
  and-goes d next before mid after n (Err faults.Failed) told w = absurd w
  and-goes d next before mid after n (Err faults.Ended) told w = absurd w
  and-goes d next before mid after n (Err faults.Busy) told w = absurd w
  and-goes d next before mid after n (Err faults.Unasked) told w = absurd w
  and-goes d next before mid after n (Err faults.OutOfRange) told w = absurd w
  and-goes d next before mid after n (Err faults.EndOfBuffer) told w = absurd w
  and-goes d next before mid after n (Err faults.InvalidTag) told w = absurd w
  and-goes d next before mid after n (Err faults.InvalidVarint) told w = absurd w
  and-goes d next before mid after n (Err faults.ExtraData) told w = absurd w
  and-goes d next before mid after n (Err faults.Key) told w = absurd w
  and-goes d next before mid after n (Err faults.Uneven) told w = absurd w

  -- what the machine does for a response's peer
  pub record Accounts (m : Machine K S P) (h : Open K S P) (accepted : Bool) (outcome : Option Outcome) (d : Done K S P) : Type 0 where
    pub told : map (written c) d.effects ≡ earned h.handed.response h.source accepted outcome
    pub fetcher : paid (orders_of a) h.source accepted outcome (fetcher_of a m) ≡ fetcher_of a d.machine
    pub rest : d.machine ≡ record m { peers = d.machine.peers }

  pub accounts : (m : Machine K S P) (h : Open K S P) (accepted : Bool) (outcome : Option Outcome) → Accounts m h accepted outcome (account_for a m h accepted outcome)
  accounts m h true outcome = record { told = refl; fetcher = refl; rest = refl }
  accounts m h false None = record { told = refl; fetcher = refl; rest = refl }
  accounts m h false (Some (Resolved resolution)) = record { told = refl; fetcher = refl; rest = refl }
  accounts m h false (Some Invalid) = record { told = refl; fetcher = refl; rest = refl }
  accounts m h false (Some Unresolved) = record { told = refl; fetcher = refl; rest = refl }
  accounts m h false (Some Ignored) = record { told = refl; fetcher = refl; rest = refl }

module _ {K S P : Type 0} (a : Parties K S P) (o : IsTotalOrder a.key) (e : Parts K P S) (m : Machine K S P) (is : Agrees a e m) (number : ℕ) where
  -- what is open under the number
  pub open-is : lookup (λ n. number == n) m.deliveries ≡ option_map open_of (lookup (is_at (nat_cmp number)) e.entries.going)
  open-is = ap (λ test. lookup test m.deliveries) (same_tests number) ∙ ap (lookup (is_at (nat_cmp number))) (sym is.deliveries) ∙ lookup-map_values open_of (is_at (nat_cmp number)) e.entries.going

  -- the number of the delivery in progress, as the key's row has it
  abbrev judged_number : K → Option ℕ
  judged_number key = option_and_then (λ (row : Row K S P). (holds_in row.phase).0) (row_of a m key)

  number-is : (key : K) → number_of a.key e.entries key ≡ judged_number key
  number-is key =
      through (lookup (is_key a key) e.entries.keys)
      ∙ ap (option_and_then (λ (h : Holds P). h.0)) (sym (lookup-map_values held_of (is_key a key) e.entries.keys) ∙ ap (lookup (is_key a key)) is.entries ∙ lookup-map_values (λ (row : Row K S P). holds_in row.phase) (is_key a key) m.rows)
      ∙ back (row_of a m key)
    where
      through : (x : Option (Entry (List ℕ) (Source P) ℕ)) → option_and_then (λ e. e.number) x ≡ option_and_then (λ (h : Holds P). h.0) (option_map held_of x)
      through None = refl
      through (Some x) = refl

      back : (x : Option (Row K S P)) → option_and_then (λ (h : Holds P). h.0) (option_map (λ (row : Row K S P). holds_in row.phase) x) ≡ option_and_then (λ (row : Row K S P). (holds_in row.phase).0) x
      back None = refl
      back (Some x) = refl

  live-is : (begun : Begun K S (Source P)) → is_live a.key e.entries number begun ≡ is_number (judged_number begun.delivery.key) number
  live-is begun = ap (λ n. is_number n number) (number-is begun.delivery.key)

  -- a verdict that comes too late rules nothing
  pub dead-rules : (n : Machine K S P) (now : ℕ) (h : Open K S P) (outcome : Option Outcome) → n.rows ≡ m.rows → is_number (judged_number h.handed.key) number ≡ false
      → ruled_at a n now number h outcome (row_of a n h.handed.key) ≡ Some (quiet n)
  dead-rules n now h outcome same dead =
      ap (λ rows. ruled_at a n now number h outcome (lookup (is_key a h.handed.key) rows)) same ∙ at (row_of a m h.handed.key) dead
    where
      in-phase : (row : Row K S P) (phase : Phase K P) → is_number (holds_in phase).0 number ≡ false → ruled_in a n now number h outcome row phase ≡ Some (quiet n)
      in-phase row (Waits place) dead = refl
      in-phase row (Asked id request) dead = refl
      in-phase row (Judged j) dead = let other = flip number j.number ∙ dead in rw other refl

      at : (row : Option (Row K S P)) → is_number (option_and_then (λ (row : Row K S P). (holds_in row.phase).0) row) number ≡ false → ruled_at a n now number h outcome row ≡ Some (quiet n)
      at None dead = refl
      at (Some row) dead = in-phase row row.phase dead

  module _ (begun : Begun K S (Source P)) (found : lookup (is_at (nat_cmp number)) e.entries.going ≡ Some begun) where
    abbrev pub handed : Open K S P
    handed = open_of begun

    there : lookup (is_at (nat_cmp number)) m.deliveries ≡ Some handed
    there = ap (λ test. lookup test m.deliveries) (sym (same_tests number)) ∙ open-is ∙ ap (option_map open_of) found

    abbrev less : List (ℕ × Open K S P)
    less = remove_entry (is_at (nat_cmp number)) m.deliveries

    less-is : (closed m number).deliveries ≡ less
    less-is = ap (λ test. remove_entry test m.deliveries) (same_tests number)

    -- the rows around those of the key
    pub others-own : (before after : List (K × Row K S P)) (key : K) (was : Option (Row K S P)) → AreOwn m.deliveries (slot before key was after) → a.key handed.handed.key key ≡ Equal → IsAround o before key after
        → AreOwn less before × AreOwn less after
    others-own before after key was own same around =
        let i = around-equal o handed.handed.key key before after same around in
        let itself = λ (k : K). (eq_by_cmp_equiv o).refl k in (
          own-less a.key m.deliveries number handed before there (apart-first a o before after handed.handed.key i) itself (own-before m.deliveries before after key was own),
          own-less a.key m.deliveries number handed after there (apart-last a o before after handed.handed.key i) itself (own-after m.deliveries before after key was own),
        )

    -- a delivery that no key is judged by is closed
    dead-own : is_number (judged_number handed.handed.key) number ≡ false → AreOwn less m.rows
    dead-own dead = at (row_of a m handed.handed.key) refl dead
      where
        here : (key : K) (phase : Phase K P) → is_number (holds_in phase).0 number ≡ false → IsOwn m.deliveries key phase → IsOwn less key phase
        here key (Waits place) dead own = tt
        here key (Asked id request) dead own = own
        here key (Judged j) dead own = record {
          begun = own.begun;
          found = lookup-less m.deliveries number j.number (at-other j.number number dead) ∙ own.found;
          named = own.named;
          response = own.response;
          source = own.source;
          accepted = own.accepted;
        }

        with-row : (row : Row K S P) → is_number (holds_in row.phase).0 number ≡ false → Found o m.rows handed.handed.key row → AreOwn less m.rows
        with-row row dead f =
            let owned = subst (λ rows. AreOwn m.deliveries rows) f.at.whole is.sound.own in
            let others = others-own f.at.before f.at.after f.own (Some row) owned f.same f.at.around in
            subst (λ rows. AreOwn less rows) (sym f.at.whole)
            (own-slot less f.at.before f.at.after f.own (Some row) others.0 (here f.own row.phase dead (own-here m.deliveries f.at.before f.at.after f.own (Some row) owned)) others.1)

        without-row : Around o m.rows handed.handed.key None → AreOwn less m.rows
        without-row x =
            let owned = subst (λ rows. AreOwn m.deliveries rows) x.whole is.sound.own in
            let others = others-own x.before x.after handed.handed.key None owned (itself handed.handed.key) x.around in
            subst (λ rows. AreOwn less rows) (sym x.whole) (own-slot less x.before x.after handed.handed.key None others.0 tt others.1)
          where
            itself : (k : K) → a.key k k ≡ Equal
            itself k = tied_itself o k

        at : (row : Option (Row K S P)) → row_of a m handed.handed.key ≡ row → is_number (option_and_then (λ (row : Row K S P). (holds_in row.phase).0) row) number ≡ false → AreOwn less m.rows
        at None none dead = without-row (around-none o m.rows handed.handed.key is.sound.ordered none)
        at (Some row) some dead = with-row row dead (around-some o m.rows handed.handed.key row is.sound.ordered some)

    going-is : map (λ x. (x.0, open_of x.1)) (remove_entry (is_at (nat_cmp number)) e.entries.going) ≡ less
    going-is = sym (remove_entry-seen open_of (is_at (nat_cmp number)) e.entries.going) ∙ ap (remove_entry (is_at (nat_cmp number))) is.deliveries

    module _ (outcome : Option Outcome) where
      abbrev pub accounted : Done K S P
      accounted = account_for a (closed m number) handed handed.accepted outcome

      acc : Accounts a (codec 0 (λ key. []) (λ bytes. None)) (closed m number) handed handed.accepted outcome accounted
      acc = accounts a (codec 0 (λ key. []) (λ bytes. None)) (closed m number) handed handed.accepted outcome

      -- the machine then, field by field
      abbrev later : Machine K S P
      later = record (closed m number) { peers = accounted.machine.peers }

      module _ (over : m.scan.expects ≡ None) (n : Parts K P S) (shut : n.entries ≡ entries.closed a.key number begun e.entries) (pays : n.fetcher ≡ paid (orders_of a) begun.context begun.accepted outcome e.fetcher)
          (same : n ≡ record e { entries = n.entries; fetcher = n.fetcher }) where
        fetcher-now : n.fetcher ≡ fetcher_of a later
        fetcher-now = pays ∙ ap (paid (orders_of a) begun.context begun.accepted outcome) is.fetcher ∙ acc.fetcher ∙ ap (fetcher_of a) acc.rest

        deliveries-now : map (λ x. (x.0, open_of x.1)) n.entries.going ≡ (closed m number).deliveries
        deliveries-now = ap (λ d. map (λ x. (x.0, open_of x.1)) d.going) shut ∙ going-is ∙ sym less-is

        below-now : AllByRecursion (λ k. k < m.next_delivery) (keys_of (closed m number).deliveries)
        below-now = below-less m.deliveries (λ n. number == n) m.next_delivery is.sound.below

        next-now : (b : Bool) → is_live a.key e.entries number begun ≡ b → n.entries.next ≡ m.next_delivery
        next-now true live = ap (λ d. d.next) shut ∙ ap (λ (b : Bool). (if b then changed a.key begun.delivery.key ended e.entries else e.entries).next) live ∙ is.next_delivery
        next-now false live = ap (λ d. d.next) shut ∙ ap (λ (b : Bool). (if b then changed a.key begun.delivery.key ended e.entries else e.entries).next) live ∙ is.next_delivery

        dead-sound : is_live a.key e.entries number begun ≡ false → IsSound a later
        dead-sound dead = record {
          ordered = is.sound.ordered;
          ids = is.sound.ids;
          own = subst (λ ds. AreOwn ds m.rows) (sym less-is) (dead-own (sym (live-is begun) ∙ dead));
          below = below-now;
          new_id = none-asked a (fetcher_of a later) later over;
        }

        -- a verdict that comes too late
        pub dead-agrees : is_live a.key e.entries number begun ≡ false → Agrees a n accounted.machine
        dead-agrees dead = subst (Agrees a n) (sym acc.rest) (record {
          sound = dead-sound dead;
          demand = ap (λ e. e.demand) same ∙ is.demand;
          entries = ap (λ d. map (λ x. (x.0, held_of x.1)) d.keys) shut
              ∙ ap (λ (b : Bool). map (λ x. (x.0, held_of x.1)) (if b then changed a.key begun.delivery.key ended e.entries else e.entries).keys) dead ∙ is.entries;
          deliveries = deliveries-now;
          next_delivery = next-now false dead;
          fetcher = fetcher-now;
          serves = ap (λ e. e.serves.entries) same ∙ is.serves;
          next_serve = ap (λ e. e.next_serve) same ∙ is.next_serve;
          last_index = ap (λ e. e.last_index) same ∙ is.last_index;
          priority = ap (λ e. e.priority_responses) same ∙ is.priority;
        })

        -- the row that is judged under the number
        record Judges : Type 0 where
          pub row : Row K S P
          pub judging : Judging P
          pub judged : row.phase ≡ Judged judging
          pub named : judging.number ≡ number
          pub row_found : row_of a m handed.handed.key ≡ Some row
          pub at : Found o m.rows handed.handed.key row

        judges : is_live a.key e.entries number begun ≡ true → Judges
        judges live = at (row_of a m handed.handed.key) refl (sym (live-is begun) ∙ live)
          where
            clash : false ≡ true → ⊥
            clash same = cc

            in-phase : (row : Row K S P) → row_of a m handed.handed.key ≡ Some row → (phase : Phase K P) → row.phase ≡ phase → is_number (holds_in phase).0 number ≡ true → Judges
            in-phase row found (Waits place) phase live = absurd (clash live)
            in-phase row found (Asked id request) phase live = absurd (clash live)
            in-phase row found (Judged j) phase live = record {
              row = row;
              judging = j;
              judged = phase;
              named = is-same j.number number live;
              row_found = found;
              at = around-some o m.rows handed.handed.key row is.sound.ordered found;
            }

            at : (row : Option (Row K S P)) → row_of a m handed.handed.key ≡ row → is_number (option_and_then (λ (row : Row K S P). (holds_in row.phase).0) row) number ≡ true → Judges
            at None found live = absurd (clash live)
            at (Some row) found live = in-phase row found row.phase refl live

        some-open : (x y : Open K S P) → Some x ≡ Some y → x ≡ y
        some-open x y same = cc

        -- it is judged under its own name
        judged-own : (j : Judges) → IsGiven m.deliveries j.at.own j.judging
        judged-own j = subst (IsOwn m.deliveries j.at.own) j.judged
            (own-here m.deliveries j.at.at.before j.at.at.after j.at.own (Some j.row) (subst (λ rows. AreOwn m.deliveries rows) j.at.at.whole is.sound.own))

        judged-begun : (j : Judges) → (judged-own j).begun ≡ handed
        judged-begun j = some-open (judged-own j).begun handed (sym (judged-own j).found ∙ ap (λ i. lookup (is_at (nat_cmp i)) m.deliveries) j.named ∙ there)

        own-name : (j : Judges) → j.at.own ≡ handed.handed.key
        own-name j = sym (judged-own j).named ∙ ap (λ (h : Open K S P). h.handed.key) (judged-begun j)

        module _ (live : is_live a.key e.entries number begun ≡ true) (j : Judges) where
          abbrev before : List (K × Row K S P)
          before = j.at.at.before

          abbrev after : List (K × Row K S P)
          after = j.at.at.after

          whole-key : m.rows ≡ before ++ (handed.handed.key, j.row) ∷ after
          whole-key = j.at.at.whole ∙ ap (λ k. before ++ (k, j.row) ∷ after) (own-name j)

          abbrev at-key : Around o m.rows handed.handed.key (Some j.row)
          at-key = record { before = before; after = after; whole = whole-key; around = subst (λ k. IsAround o before k after) (own-name j) j.at.at.around }

          given-key : IsGiven m.deliveries handed.handed.key j.judging
          given-key = subst (λ k. IsGiven m.deliveries k j.judging) (own-name j) (judged-own j)

          entry-now : Entered held_of e.entries.keys (is_key a handed.handed.key) (holds_in j.row.phase)
          entry-now = entry-here a o e m is handed.handed.key j.row at-key

          abbrev kept : Response (List ℕ) (Source P)
          kept = record { name = j.judging.response; value = j.judging.value; context = j.judging.source; accepted = j.judging.accepted }

          holds-now : map (λ x. (x.0, held_of x.1)) n.entries.keys ≡ holds_of before ++ (handed.handed.key, (None, Some kept)) ∷ holds_of after
          holds-now =
              ap (λ d. map (λ x. (x.0, held_of x.1)) d.keys) shut
              ∙ ap (λ (b : Bool). map (λ x. (x.0, held_of x.1)) (if b then changed a.key begun.delivery.key ended e.entries else e.entries).keys) live
              ∙ ap (λ found. map (λ x. (x.0, held_of x.1)) (changed_at (is_at (a.key handed.handed.key)) found ended e.entries.keys)) entry-now.found
              ∙ sym (set_value-seen held_of (is_at (a.key handed.handed.key)) e.entries.keys (ended entry-now.entry))
              ∙ ap (λ (r : Holds P). set_value (is_at (a.key handed.handed.key)) (map (λ x. (x.0, held_of x.1)) e.entries.keys) (None, r.1)) (entry-now.is ∙ ap holds_in j.judged)
              ∙ ap (λ es. set_value (is_at (a.key handed.handed.key)) es (None, Some kept)) (holds-here a o e m is handed.handed.key j.row at-key)
              ∙ set-slot o (holds_of before) (holds_of after) handed.handed.key (holds_in j.row.phase) (None, Some kept) (around-holds a o e m is handed.handed.key j.row at-key)

          others-now : AreOwn less before × AreOwn less after
          others-now = others-own before after j.at.own (Some j.row) (subst (λ rows. AreOwn m.deliveries rows) j.at.at.whole is.sound.own) j.at.same j.at.at.around

          live-later : IsClosed a n later handed
          live-later = record {
            row = j.row;
            judging = j.judging;
            before = before;
            after = after;
            whole = whole-key;
            judged = j.judged;
            response = sym (ap (λ (h : Open K S P). h.handed.response) (judged-begun j)) ∙ (judged-own j).response;
            source = sym (ap (λ (h : Open K S P). h.source) (judged-begun j)) ∙ (judged-own j).source;
            accepted = sym (ap (λ (h : Open K S P). h.accepted) (judged-begun j)) ∙ (judged-own j).accepted;
            ordered = is.sound.ordered;
            ids = is.sound.ids;
            own_before = subst (λ ds. AreOwn ds before) (sym less-is) others-now.0;
            own_after = subst (λ ds. AreOwn ds after) (sym less-is) others-now.1;
            below = below-now;
            over = over;
            demand = ap (λ e. e.demand) same ∙ is.demand;
            entries = holds-now;
            deliveries = deliveries-now;
            next_delivery = next-now true live;
            fetcher = fetcher-now;
            serves = ap (λ e. e.serves.entries) same ∙ is.serves;
            next_serve = ap (λ e. e.next_serve) same ∙ is.next_serve;
            last_index = ap (λ e. e.last_index) same ∙ is.last_index;
            priority = ap (λ e. e.priority_responses) same ∙ is.priority;
          }

        -- some machine agrees, and has the key waiting for the ruling
        pub live-tied : is_live a.key e.entries number begun ≡ true → IsClosed a n accounted.machine handed
        live-tied live = subst (λ d. IsClosed a n d handed) (sym acc.rest) (live-later live (judges live))

        rules-is : (now : ℕ) (j : Judges) → ruled_at a later now number handed outcome (row_of a later handed.handed.key) ≡ ruled a later now handed j.row j.judging.value (ruling handed.accepted outcome)
        rules-is now j =
            ap (ruled_at a later now number handed outcome) j.row_found ∙ ap (ruled_in a later now number handed outcome j.row) j.judged
            ∙ ap (λ (b : Bool). if b then ruled a later now handed j.row j.judging.value (ruling handed.accepted outcome) else Some (quiet later)) (ap (λ k. number == k) j.named ∙ same-number)
          where
            same-number : (number == number) ≡ true
            same-number = grind (arith, common_steps)

        verdict-is : (now : ℕ) → verdict a m now number outcome ≡ and_then accounted (λ n. ruled_at a n now number handed outcome (row_of a n handed.handed.key))
        verdict-is now = ap (verdict_on a m now number outcome) (open-is ∙ ap (option_map open_of) found)

        -- a live verdict: what it earns, and then what is ruled
        pub live-goes : (c : Codec K) (now : ℕ) (before mid after : List (Told K P S)) (p : Parts K P S) (result : Result (Unit {0}) Fault) → is_live a.key e.entries number begun ≡ true
            → mid ≡ before ++ earned begun.response begun.context begun.accepted outcome
            → ((m : Machine K S P) (h : Open K S P) → h ≡ handed → (x : IsClosed a n m h) → Goes a c (ruled a m now h x.row x.judging.value (ruling h.accepted outcome)) mid after p result)
            → Goes a c (verdict a m now number outcome) before after p result
        unfolding live-later
        live-goes c now before mid after p result live told rules =
            let j = judges live in
            let acc = accounts a c (closed m number) handed handed.accepted outcome in
            subst (λ going. Goes a c going before after p result) (sym (verdict-is now))
            (and-goes a c accounted (λ n. ruled_at a n now number handed outcome (row_of a n handed.handed.key)) before mid after p result
            (told ∙ ap (λ more. before ++ more) (sym acc.told))
            (subst (λ going. Goes a c going mid after p result)
            (sym (ap (λ d. ruled_at a d now number handed outcome (row_of a d handed.handed.key)) acc.rest ∙ rules-is now j))
            (rules later handed refl (live-later live j))))

        -- a verdict that comes too late: what it earns
        pub dead-goes : (c : Codec K) (now : ℕ) (before after : List (Told K P S)) → is_live a.key e.entries number begun ≡ false → after ≡ before ++ earned begun.response begun.context begun.accepted outcome
            → Went a c (verdict a m now number outcome) before after n
        dead-goes c now before after dead told =
            let acc = accounts a c (closed m number) handed handed.accepted outcome in
            subst (λ going. Went a c going before after n) (sym (verdict-is now))
            (and-goes a c accounted (λ n. ruled_at a n now number handed outcome (row_of a n handed.handed.key)) before after after n (Ok tt)
            (told ∙ ap (λ more. before ++ more) (sym acc.told))
            (record {
              done = quiet accounted.machine;
              is = dead-rules accounted.machine now handed outcome (ap (λ d. d.rows) acc.rest) (sym (live-is begun) ∙ dead);
              told = sym (append-nil after);
              agrees = dead-agrees dead;
            }))

module _ {K S P : Type 0} (a : Parties K S P) (o : IsTotalOrder a.key) (e : Parts K P S) (m : Machine K S P) (is_agrees : Agrees a e m) (closed_scan : m.scan.expects ≡ None) (number : ℕ) (outcome : Option Outcome) where
  abbrev Entries : Type 0
  Entries = Numbered K S (List ℕ) (Source P) ℕ

  -- the delivery that a verdict closed
  pub record Opened (done : Completion K S (Source P)) (d : Entries) : Type 0 where
    pub begun : Begun K S (Source P)
    pub found : lookup (is_at (nat_cmp number)) e.entries.going ≡ Some begun
    pub shut : d ≡ entries.closed a.key number begun e.entries
    pub live : is_live a.key e.entries number begun ≡ not done.canceled
    pub response : done.response ≡ begun.response
    pub context : done.context ≡ begun.context
    pub delivery : done.delivery ≡ begun.delivery
    pub flag : done.previously_accepted ≡ begun.accepted

  ok-same : (x y : Completion K S (Source P)) (d f : Entries) (r : Result (Completion K S (Source P)) Aborted × Entries) → (Ok x, d) ≡ r → r ≡ (Ok y, f) → (x ≡ y) × (d ≡ f)
  ok-same x y d f r is was = (injects (ap (λ r. r.0) is ∙ ap (λ r. r.0) was), ap (λ r. r.1) is ∙ ap (λ r. r.1) was)
    where
      injects : ◌≡◌ {A = Result (Completion K S (Source P)) Aborted} (Ok x) (Ok y) → x ≡ y
      injects same = cc

  ok-err : (x : Completion K S (Source P)) (y : Aborted) (d f : Entries) → ◌≡◌ {A = Result (Completion K S (Source P)) Aborted × Entries} (Ok x, d) (Err y, f) → ⊥
  ok-err x y d f is = clash (ap (λ r. r.0) is)
    where
      clash : ◌≡◌ {A = Result (Completion K S (Source P)) Aborted} (Ok x) (Err y) → ⊥
      clash same = cc

  pub opened : (done : Completion K S (Source P)) (d : Entries) → (Ok done, d) ≡ completed a.key e.entries number outcome → Opened done d
  opened done d is = at (lookup (is_at (nat_cmp number)) e.entries.going) refl is
    where
      whole : (begun : Begun K S (Source P)) → lookup (is_at (nat_cmp number)) e.entries.going ≡ Some begun → (live : Bool) → is_live a.key e.entries number begun ≡ live → (v : Option Outcome)
          → (done ≡ completion begun v (not live)) × (d ≡ entries.closed a.key number begun e.entries) → Opened done d
      whole begun found true live v same = record {
        begun = begun;
        found = found;
        shut = same.1;
        live = live ∙ ap (λ (c : Completion K S (Source P)). not c.canceled) (sym same.0);
        response = ap (λ c. c.response) same.0;
        context = ap (λ c. c.context) same.0;
        delivery = ap (λ c. c.delivery) same.0;
        flag = ap (λ c. c.previously_accepted) same.0;
      }
      whole begun found false live v same = record {
        begun = begun;
        found = found;
        shut = same.1;
        live = live ∙ ap (λ (c : Completion K S (Source P)). not c.canceled) (sym same.0);
        response = ap (λ c. c.response) same.0;
        context = ap (λ c. c.context) same.0;
        delivery = ap (λ c. c.delivery) same.0;
        flag = ap (λ c. c.previously_accepted) same.0;
      }

      by-outcome : (begun : Begun K S (Source P)) → lookup (is_at (nat_cmp number)) e.entries.going ≡ Some begun → (live : Bool) → is_live a.key e.entries number begun ≡ live → (v : Option Outcome)
          → ◌≡◌ {A = Result (Completion K S (Source P)) Aborted × Entries} (Ok done, d) (completion_of begun v live, entries.closed a.key number begun e.entries) → Opened done d
      by-outcome begun found true live v is = whole begun found true live v (ok-same done (completion begun v false) d _ _ is refl)
      by-outcome begun found false live None is = absurd (ok-err done _ d _ is)
      by-outcome begun found false live (Some v) is = whole begun found false live (Some v) (ok-same done (completion begun (Some v) true) d _ _ is refl)

      at : (p : Option (Begun K S (Source P))) → lookup (is_at (nat_cmp number)) e.entries.going ≡ p → (Ok done, d) ≡ completed_from a.key e.entries number outcome p → Opened done d
      at None found is = absurd (ok-err done _ d e.entries is)
      at (Some begun) found is = by-outcome begun found (is_live a.key e.entries number begun) refl outcome is

  -- something is open under the number
  pub opened-some : (done : Completion K S (Source P)) (d : Entries) → (Ok done, d) ≡ completed a.key e.entries number outcome → is_none (lookup (λ n. number == n) m.deliveries) ≡ false
  opened-some done d is_done = let x = opened done d is_done in ap is_none (open-is a o e m is_agrees number ∙ ap (option_map open_of) x.found)

  paid-none : (source : Source P) (b : Bool) (f : Fetcher K P) → f ≡ paid (orders_of a) source b None f
  paid-none source true f = refl
  paid-none source false f = refl

  earned-none : (response : ℕ) (source : Source P) (b : Bool) → earned {K = K} {S = S} response source b None ≡ []
  earned-none response source true = refl
  earned-none response source false = refl

  -- nothing is open, or what was called off is over
  pub aborted-goes : (c : Codec K) (now : ℕ) (n : Parts K P S) (told : List (Told K P S)) (ab : Aborted) → (Err ab, n.entries) ≡ completed a.key e.entries number outcome → n ≡ record e { entries = n.entries }
      → Went a c (verdict a m now number outcome) told told n
  aborted-goes c now n told ab aborts same = at (lookup (is_at (nat_cmp number)) e.entries.going) refl aborts
    where
      err-ok : (x : Aborted) (y : Completion K S (Source P)) (d f : Entries) → ◌≡◌ {A = Result (Completion K S (Source P)) Aborted × Entries} (Err x, d) (Ok y, f) → ⊥
      err-ok x y d f is = clash (ap (λ r. r.0) is)
        where
          clash : ◌≡◌ {A = Result (Completion K S (Source P)) Aborted} (Err x) (Ok y) → ⊥
          clash same = cc

      by-outcome : (begun : Begun K S (Source P)) → lookup (is_at (nat_cmp number)) e.entries.going ≡ Some begun → (live : Bool) → is_live a.key e.entries number begun ≡ live → (v : Option Outcome) → outcome ≡ v
          → ◌≡◌ {A = Result (Completion K S (Source P)) Aborted × Entries} (Err ab, n.entries) (completion_of begun v live, entries.closed a.key number begun e.entries) → Went a c (verdict a m now number outcome) told told n
      by-outcome begun found true live v given is = absurd (err-ok ab _ n.entries _ is)
      by-outcome begun found false live (Some v) given is = absurd (err-ok ab _ n.entries _ is)
      by-outcome begun found false live None given is =
          let pays : n.fetcher ≡ paid (orders_of a) begun.context begun.accepted outcome e.fetcher =
          ap (λ (e : Parts K P S). e.fetcher) same ∙ paid-none begun.context begun.accepted e.fetcher ∙ ap (λ v. paid (orders_of a) begun.context begun.accepted v e.fetcher) (sym given) in
          let both : n ≡ record e { entries = n.entries; fetcher = n.fetcher } = same ∙ ap (λ f. record e { entries = n.entries; fetcher = f }) (sym (ap (λ (e : Parts K P S). e.fetcher) same)) in
          dead-goes a o e m is_agrees number begun found outcome closed_scan n (ap (λ r. r.1) is) pays both c now told told live
          (sym (append-nil told) ∙ ap (λ more. told ++ more) (sym (ap (earned begun.response begun.context begun.accepted) given ∙ earned-none begun.response begun.context begun.accepted)))

      at : (p : Option (Begun K S (Source P))) → lookup (is_at (nat_cmp number)) e.entries.going ≡ p → (Err ab, n.entries) ≡ completed_from a.key e.entries number outcome p → Went a c (verdict a m now number outcome) told told n
      at None found is = record {
        done = quiet m;
        is = ap (verdict_on a m now number outcome) (open-is a o e m is_agrees number ∙ ap (option_map open_of) found);
        told = sym (append-nil told);
        agrees = subst (λ e. Agrees a e m) (sym (same ∙ ap (λ d. record e { entries = d }) (ap (λ r. r.1) is))) is_agrees;
      }
      at (Some begun) found is = by-outcome begun found (is_live a.key e.entries number begun) refl outcome refl is
