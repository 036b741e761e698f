-- Each request has an id that no other request holds.
use Rattle.std.proofs.Common.{◌≡◌, refl, subst, ap, ◌∙◌, sym, ℕ, ◌+◌, ◌<◌, ◌≤◌, ◌^◌, Bool, true, false, List, [], ◌∷◌, ◌++◌, length, Option, None, Some, Result, Ok, Err, filter_map, if◌then◌else◌, arith}
use Rattle.std.specs.Prelude.{option_map, option_and_then, option_to_list, nat_lt, ⊤}
use Rattle.std.specs.BTreeMap.{insert_entry}
use Rattle.std.specs.List.{cons_option}
use Rattle.std.specs.Ordering.{match_ordering, nat_cmp}
use Rattle.std.specs.declared.cmp.Ordering.{Ordering}
use Rattle.std.specs.declared.cmp.Ordering.TheVariants.{Less, Equal, Greater}
use Rattle.resolver_base.specs.declared.check.Check.TheVariants.{Clear, Until}
use Rattle.resolver_base.specs.declared.fault.Fault.{Fault}
use Rattle.resolver_base.specs.declared.fault.Fault.TheVariants.{OutOfRange}
use Rattle.resolver_fetch_requests.specs.declared.requests.request.Request.{Request}
use Rattle.resolver_fetch_requests.specs.Requests.{by_id}
use Rattle.resolver_fetch_requests.specs.Ids.{is_held}
use Rattle.resolver_fetch_scan.specs.declared.scan.Answer.{Answer}
use Rattle.resolver_fetch_scan.specs.declared.scan.Answer.TheVariants.{Drawn, Checked, Sent}
use Rattle.resolver_fetch_scan.specs.declared.trail.Expected.{Expected}
use Rattle.resolver_fetch_scan.specs.declared.trail.Expected.TheVariants.{Mode, ByWeight, ByPlace, Checking, FirstId, Sending}
use Rattle.resolver_fetch_scan.specs.declared.trail.Reason.TheVariants.{Limited, Refused}
use Rattle.resolver_fetch_scan.specs.Waiting.{Waiting}
use Rattle.resolver_fetch_scan.specs.Scan.{Scan, Turn, answered, asks_for, begins, by_place, by_weight, clears, draws, goes_on_with, is_over, left, next, question_of, sends, takes, takes_for}
use Rattle.resolver_fetch_scan.specs.FetcherLaws.{AllAre}
use Rattle.resolver_model_peer.specs.Parties.{Parties, orders_of}
use Rattle.resolver_model_peer.specs.PeerRows.{Row, Phase, request_in, request_of}
use Rattle.resolver_model.specs.declared.status.Status.{Status}
use Rattle.resolver_model.specs.declared.status.Status.TheVariants.{Running, Ended, Failed}
use Rattle.resolver_model_peer.specs.Peer.{Machine, Done, Effect, Ask, Deliver, Cancel, Produce, Reply, Credit, Block, Input, Happens, Answers, and_then, snapshot, turned, with_sent, does, is_due, wake_up, scanned_if, scanned, step_of, answer_of, step_running, step_in, step, opening}
use Rattle.resolver_model_peer.specs.PeerRun.{Fed, effects_of, after}
use Rattle.resolver_model_peer.specs.PeerLaws.{HasNewId, IdsAreNew}
use Rattle.resolver_model_peer.proofs.AsksEligible.{IsNoQuestion, IsCalmIfDone, does-calm}
use Rattle.resolver_fetch_requests.proofs.NewIds.{next-new}
use Rattle.resolver_model_peer.proofs.PeerPhases.{RowsAre, IsKeptIfDone, does-kept}
use Rattle.resolver_model_peer.proofs.Told.{all-append, over-none}

abbrev pub IsUnasked : {K P : Type 0} → Phase K P → Type 0
IsUnasked phase = request_in phase ≡ None

module _ {K P : Type 0} where
  length-put : (id : ℕ) (r : Request K P) (rs : List (ℕ × Request K P)) → length (insert_entry nat_cmp rs id r) ≤ length rs + 1
  length-put id r [] = omega arith
  length-put id r (q ∷ rs) = at (nat_cmp id q.0) (length-put id r rs) where
    at : (o : Ordering) → length (insert_entry nat_cmp rs id r) ≤ length rs + 1
        → length (match_ordering o ((id, r) ∷ q ∷ rs) ((q.0, r) ∷ rs) (q ∷ insert_entry nat_cmp rs id r)) ≤ length (q ∷ rs) + 1
    at Less rest = omega arith
    at Equal rest = omega arith
    at Greater rest = omega (arith, rest)

module _ {K S P : Type 0} where
  abbrev pub Unasked : List (K × Row K S P) → Type 0
  Unasked rows = RowsAre IsUnasked rows

  -- the requests without an answer
  abbrev pub asked_in : List (K × Row K S P) → List (ℕ × Request K P)
  asked_in rows = by_id (filter_map request_of rows)

  none-asked : (rows : List (K × Row K S P)) → Unasked rows → asked_in rows ≡ []
  none-asked [] none = refl
  none-asked (r ∷ rows) none = ap (λ o. by_id (cons_option o (filter_map request_of rows))) none.0 ∙ none-asked rows none.1

  -- requests are no more than rows
  pub asked-few : (rows : List (K × Row K S P)) → length (asked_in rows) ≤ length rows
  asked-few [] = omega arith
  asked-few (r ∷ rows) = at (request_of r) (asked-few rows) where
    at : (o : Option (ℕ × Request K P)) → length (asked_in rows) ≤ length rows → length (by_id (cons_option o (filter_map request_of rows))) ≤ length (r ∷ rows)
    at None rest = omega (arith, rest)
    at (Some q) rest = let put = length-put q.0 q.1 (asked_in rows) in omega (arith, rest, put)

  -- until an id was taken no request is without an answer
  abbrev pub CountsIds : Option ℕ → List (K × Row K S P) → Type 0
  CountsIds None rows = Unasked rows
  CountsIds (Some last) rows = ⊤

  -- nor where the first id is drawn; and the id of a request that is on its way was taken
  abbrev pub Awaits : Option (Expected P) → Option ℕ → List (K × Row K S P) → Type 0
  Awaits (Some (FirstId peer)) last rows = Unasked rows
  Awaits (Some (Sending peer id)) last rows = last ≡ Some id
  Awaits expected last rows = ⊤

  -- the id of a request that is on its way is new
  abbrev SendsNew : Option (Expected P) → List (K × Row K S P) → Type 0
  SendsNew (Some (Sending peer id)) rows = length (asked_in rows) < 2 ^ 64 → is_held (asked_in rows) id ≡ false
  SendsNew expected rows = ⊤

  abbrev pub IsNumbered : Machine K S P → Type 0
  IsNumbered m = CountsIds m.last_id m.rows × Awaits m.scan.expects m.last_id m.rows

module _ {K S P : Type 0} (a : Parties K S P) where
  -- of a turn that the machine takes
  abbrev IsNewTurn : Machine K S P → Turn K P → Type 0
  IsNewTurn m t = IsNumbered (turned a m t) × SendsNew t.scan.expects (with_sent a m t.sent).rows

  abbrev IsNewAfter : Machine K S P → Result (Turn K P) Fault → Type 0
  IsNewAfter m (Ok t) = IsNewTurn m t
  IsNewAfter m (Err fault) = ⊤

  goes-new : (m : Machine K S P) (scan : Scan K P) → CountsIds m.last_id m.rows → (w : Option (K × Waiting P)) → IsNewTurn m (goes_on_with (orders_of a) (snapshot a m) scan w)
  goes-new m scan counts None = ((counts, tt), tt)
  goes-new m scan counts (Some w) = ((counts, tt), tt)

  draws-new : (m : Machine K S P) (scan : Scan K P) → CountsIds m.last_id m.rows → (peer : Option P) → IsNewAfter m (draws (orders_of a) (snapshot a m) scan peer)
  draws-new m scan counts None = tt
  draws-new m scan counts (Some peer) = ((counts, tt), tt)

  mode-new : (m : Machine K S P) (scan : Scan K P) → CountsIds m.last_id m.rows → (b c : Bool)
      → IsNewAfter m (if b then Ok (asks_for (orders_of a) (snapshot a m) scan (if c then ByWeight else ByPlace)) else Err OutOfRange)
  mode-new m scan counts true true = ((counts, tt), tt)
  mode-new m scan counts true false = ((counts, tt), tt)
  mode-new m scan counts false c = tt

  first-new : (m : Machine K S P) (scan : Scan K P) (peer : P) (b : Bool) (id : ℕ) → Unasked m.rows → IsNewAfter m (if b then Ok (sends (orders_of a) (snapshot a m) scan peer id) else Err OutOfRange)
  first-new m scan peer true id none = ((tt, refl), λ few. ap (λ asked. is_held asked id) (none-asked m.rows none))
  first-new m scan peer false id none = tt

  clears-new : (m : Machine K S P) (scan : Scan K P) (peer : P) → CountsIds m.last_id m.rows → (last : Option ℕ) → m.last_id ≡ last → IsNewTurn m (clears (orders_of a) (snapshot a m) scan peer last)
  clears-new m scan peer counts None is = ((counts, subst (λ (l : Option ℕ). CountsIds l m.rows) is counts), tt)
  clears-new m scan peer counts (Some last) is = ((tt, refl), λ few. next-new (snapshot a m).asked last few)

  sent-new : (m : Machine K S P) (id : ℕ) (rows : List (K × Row K S P)) → m.last_id ≡ Some id → CountsIds m.last_id rows
  sent-new m id rows is = subst (λ (l : Option ℕ). CountsIds l rows) (sym is) tt

  answered-new : (m : Machine K S P) (scan : Scan K P) (w : K × Waiting P) → CountsIds m.last_id m.rows → (expected : Expected P) → Awaits (Some expected) m.last_id m.rows
      → (answer : Answer) → IsNewAfter m (answered (orders_of a) (snapshot a m) scan w expected answer)
  answered-new m scan w counts Mode here (Drawn n) = mode-new m scan counts (nat_lt n (w.1.retries + 4)) (nat_lt n 4)
  answered-new m scan w counts Mode here (Checked check) = tt
  answered-new m scan w counts Mode here (Sent accepted) = tt
  answered-new m scan w counts ByWeight here (Drawn n) = draws-new m scan counts (by_weight (left (orders_of a) (snapshot a m) scan.trail w) n)
  answered-new m scan w counts ByWeight here (Checked check) = tt
  answered-new m scan w counts ByWeight here (Sent accepted) = tt
  answered-new m scan w counts ByPlace here (Drawn n) = draws-new m scan counts (by_place (left (orders_of a) (snapshot a m) scan.trail w) n)
  answered-new m scan w counts ByPlace here (Checked check) = tt
  answered-new m scan w counts ByPlace here (Sent accepted) = tt
  answered-new m scan w counts (Checking peer) here (Drawn n) = tt
  answered-new m scan w counts (Checking peer) here (Checked Clear) = clears-new m scan peer counts m.last_id refl
  answered-new m scan w counts (Checking peer) here (Checked (Until moment)) =
      let more : Scan K P = record scan { trail = scan.trail ++ record { key = w.0; peer = peer; reason = Limited moment } ∷ [] } in
      goes-new m more counts (next (orders_of a) (snapshot a m) more)
  answered-new m scan w counts (Checking peer) here (Sent accepted) = tt
  answered-new m scan w counts (FirstId peer) here (Drawn n) = first-new m scan peer (nat_lt n (2 ^ 64)) n here
  answered-new m scan w counts (FirstId peer) here (Checked check) = tt
  answered-new m scan w counts (FirstId peer) here (Sent accepted) = tt
  answered-new m scan w counts (Sending peer id) here (Drawn n) = tt
  answered-new m scan w counts (Sending peer id) here (Checked check) = tt
  answered-new m scan w counts (Sending peer id) here (Sent true) = ((sent-new m id _ here, tt), tt)
  answered-new m scan w counts (Sending peer id) here (Sent false) =
      let more : Scan K P = record scan { trail = scan.trail ++ record { key = w.0; peer = peer; reason = Refused } ∷ [] } in
      goes-new m more counts (next (orders_of a) (snapshot a m) more)

  for-new : (m : Machine K S P) (scan : Scan K P) (w : Option (K × Waiting P)) → CountsIds m.last_id m.rows → (expected : Option (Expected P)) → Awaits expected m.last_id m.rows
      → (answer : Answer) → IsNewAfter m (takes_for (orders_of a) (snapshot a m) scan w expected answer)
  for-new m scan None counts expected here answer = tt
  for-new m scan (Some w) counts None here answer = tt
  for-new m scan (Some w) counts (Some expected) here answer = answered-new m scan w counts expected here answer

  -- what the machine asks then
  question-new : (m : Machine K S P) (w : Option (K × Waiting P)) (expected : Option (Expected P)) → SendsNew expected m.rows → length (snapshot a m).asked < 2 ^ 64
      → AllAre (HasNewId a m) (option_to_list (option_map Ask (question_of (orders_of a) (snapshot a m) m.scan w expected)))
  question-new m None expected new few = tt
  question-new m (Some w) None new few = tt
  question-new m (Some w) (Some Mode) new few = (tt, tt)
  question-new m (Some w) (Some ByWeight) new few = (tt, tt)
  question-new m (Some w) (Some ByPlace) new few = (tt, tt)
  question-new m (Some w) (Some (Checking peer)) new few = (tt, tt)
  question-new m (Some w) (Some (FirstId peer)) new few = (tt, tt)
  question-new m (Some w) (Some (Sending peer id)) new few = (new few, tt)

  pub no-question : (n : Machine K S P) (effects : List (Effect K S P)) → AllAre IsNoQuestion effects → AllAre (HasNewId a n) effects
  no-question n [] none = tt
  no-question n (Ask q ∷ effects) none = absurd none.0
  no-question n (Deliver number handed value ∷ effects) none = (tt, no-question n effects none.1)
  no-question n (Cancel number ∷ effects) none = (tt, no-question n effects none.1)
  no-question n (Produce serve key ∷ effects) none = (tt, no-question n effects none.1)
  no-question n (Reply peer message priority ∷ effects) none = (tt, no-question n effects none.1)
  no-question n (Credit response source ∷ effects) none = (tt, no-question n effects none.1)
  no-question n (Block response peer ∷ effects) none = (tt, no-question n effects none.1)

  -- the machine after a step, and what it asked
  abbrev pub IsNewAnswer : Result (List (Effect K S P)) Fault × Machine K S P → Type 0
  IsNewAnswer answer = IsNumbered answer.1 × (length (snapshot a answer.1).asked < 2 ^ 64 → AllAre (HasNewId a answer.1) (effects_of answer.0))

  scanned-new : (b : Bool) (m : Machine K S P) (now : ℕ) → IsNumbered m
      → IsNumbered (scanned_if a b m now).machine × (length (snapshot a (scanned_if a b m now).machine).asked < 2 ^ 64 → AllAre (HasNewId a (scanned_if a b m now).machine) (scanned_if a b m now).effects)
  scanned-new true m now here =
      let opened : Scan K P = record { moment = now; trail = []; expects = None } in
      let n : Machine K S P = turned a m (begins (orders_of a) (snapshot a m) now) in
      let new : IsNewTurn m (begins (orders_of a) (snapshot a m) now) = goes-new m opened here.0 (next (orders_of a) (snapshot a m) opened) in
      (new.0, question-new n (next (orders_of a) (snapshot a n) n.scan) n.scan.expects new.1)
  scanned-new false m now here = (here, λ few. tt)

  happened-new : (o : Option (Done K S P)) (m : Machine K S P) (now : ℕ) → IsNumbered m → ((d : Done K S P) → o ≡ Some d → IsNumbered d.machine × AllAre IsNoQuestion d.effects)
      → IsNewAnswer (step_of a (option_and_then (λ d. and_then d (λ n. Some (scanned a n now))) o) m)
  happened-new None m now numbered here = (numbered, λ few. tt)
  happened-new (Some d) m now numbered here =
      let calm : _ = here d refl in
      let b : Bool = is_due now (wake_up a d.machine) in
      let new : _ = scanned-new b d.machine now calm.0 in
      (new.0, λ few. all-append (HasNewId a (scanned_if a b d.machine now).machine) d.effects (scanned_if a b d.machine now).effects (no-question (scanned_if a b d.machine now).machine d.effects calm.1) (new.1 few))

  fewer-asked : (last : Option ℕ) (m n : Machine K S P) → (Unasked m.rows → Unasked n.rows) → CountsIds last m.rows → CountsIds last n.rows
  fewer-asked None m n keeps counts = keeps counts
  fewer-asked (Some last) m n keeps counts = tt

  calm-new : (m : Machine K S P) → IsNumbered m → is_over m.scan ≡ true → (o : Option (Done K S P)) → IsCalmIfDone m o → IsKeptIfDone IsUnasked m o
      → (d : Done K S P) → o ≡ Some d → IsNumbered d.machine × AllAre IsNoQuestion d.effects
  calm-new m numbered is None calm kept d e = cc
  calm-new m numbered is (Some c) calm kept d e =
      let same : c ≡ d = cc in
      let Q : Done K S P → Type 0 = λ x. IsNumbered x.machine × AllAre IsNoQuestion x.effects in
      let none : c.machine.scan.expects ≡ None = ap (λ scan. scan.expects) calm.0 ∙ over-none m.scan.expects is in
      let counts : CountsIds c.machine.last_id c.machine.rows = subst (λ (l : Option ℕ). CountsIds l c.machine.rows) (sym kept.1) (fewer-asked m.last_id m c.machine kept.3 numbered.0) in
      let awaits : Awaits c.machine.scan.expects c.machine.last_id c.machine.rows = subst (λ (x : Option (Expected P)). Awaits x c.machine.last_id c.machine.rows) (sym none) tt in
      subst Q same ((counts, awaits), calm.1)

  taken-new : (t : Result (Turn K P) Fault) (m : Machine K S P) → IsNumbered m → IsNewAfter m t → IsNewAnswer (answer_of a t m)
  taken-new (Err fault) m numbered here = (numbered, λ few. tt)
  taken-new (Ok t) m numbered here =
      let n : Machine K S P = turned a m t in
      (here.0, question-new n (next (orders_of a) (snapshot a n) n.scan) n.scan.expects here.1)

  running-new : (over : Bool) (m : Machine K S P) (now : ℕ) (input : Input K S P) → IsNumbered m → is_over m.scan ≡ over → IsNewAnswer (step_running a over m now input)
  running-new true m now (Happens event) numbered is =
      let begun : Machine K S P = record m { moment = now } in
      happened-new (does a begun now event) m now numbered
      (calm-new begun numbered is (does a begun now event) (does-calm a begun now event) (does-kept a IsUnasked now refl (λ due. refl) (λ j. refl) begun event))
  running-new false m now (Happens event) numbered is = (numbered, λ few. tt)
  running-new over m now (Answers answer) numbered is =
      taken-new (takes (orders_of a) (snapshot a m) m.scan answer) m numbered
      (for-new m m.scan (next (orders_of a) (snapshot a m) m.scan) numbered.0 m.scan.expects numbered.1 answer)

  in-new : (status : Status) (m : Machine K S P) (now : ℕ) (input : Input K S P) → IsNumbered m → IsNewAnswer (step_in a status m now input)
  in-new Failed m now input numbered = (numbered, λ few. tt)
  in-new Ended m now input numbered = (numbered, λ few. tt)
  in-new Running m now input numbered = running-new (is_over m.scan) m now input numbered refl

  pub step-new : (m : Machine K S P) (now : ℕ) (input : Input K S P) → IsNumbered m → IsNewAnswer (step a m now input)
  step-new m now input numbered = in-new m.status m now input numbered

  after-numbered : (m : Machine K S P) (inputs : List (Fed K S P)) → IsNumbered m → IsNumbered (after a m inputs)
  after-numbered m [] numbered = numbered
  after-numbered m (i ∷ is) numbered = after-numbered (step a m i.now i.input).1 is (in-new m.status m i.now i.input numbered).0

  -- each request has an id that no other request holds
  pub ids_are_new : IdsAreNew a
  ids_are_new configuration replies_first inputs now input =
      let m : Machine K S P = after a (opening configuration replies_first) inputs in
      (in-new m.status m now input (after-numbered (opening configuration replies_first) inputs (tt, tt))).1
