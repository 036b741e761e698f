-- Each response earns at most one credit or one block.
use Rattle.std.proofs.Common.{◌≡◌, refl, ap, ◌∙◌, ℕ, ◌+◌, ◌≤◌, ◌^◌, Bool, true, false, not, ◌&&◌, ◌==◌, cond, List, [], ◌∷◌, ◌++◌, length, Option, None, Some, Result, Ok, Err, filter, map, if◌then◌else◌, arith, length-append, add-zero}
use Rattle.std.specs.Prelude.{option_map, option_and_then, option_to_list, nat_lt, ⊤}
use Rattle.std.specs.List.{cons_option}
use Rattle.std.specs.Map.{lookup, remove_entry}
use Rattle.std.specs.BTreeMap.{insert_entry}
use Rattle.std.specs.Ordering.{nat_cmp, match_ordering}
use Rattle.std.specs.declared.cmp.Ordering.{Ordering}
use Rattle.std.specs.declared.cmp.Ordering.TheVariants.{Less, Equal, Greater}
use Rattle.std.proofs.lemmas.Bool.{eqb-true}
use Rattle.std.proofs.lemmas.List.Elements.{filter-append}
use Rattle.resolver_base.specs.declared.fault.Fault.{Fault}
use Rattle.resolver_types.specs.declared.outcome.Outcome.{Outcome}
use Rattle.resolver_types.specs.declared.outcome.Outcome.TheVariants.{Invalid, Resolved, Unresolved, Ignored}
use Rattle.resolver_types.specs.declared.outcome.Resolution.TheVariants.{Complete, Partial}
use Rattle.resolver_model_peer.specs.Parties.{Parties, orders_of}
use Rattle.resolver_model_peer.specs.PeerRows.{Row, Phase, Waits, Asked, Judged}
use Rattle.resolver_fetch_requests.specs.declared.requests.request.Request.{Request}
use Rattle.resolver_fetch_scan.specs.declared.scan.Ask.{Ask as Question}
use Rattle.resolver_fetch_scan.specs.Scan as scans
use Rattle.resolver_fetch_scan.specs.Scan.{Turn, Scan, is_over}
use Rattle.resolver_wire.specs.declared.wire.Payload.{Payload}
use Rattle.resolver_wire.specs.declared.wire.Payload.TheVariants as payloads
use Rattle.resolver_model.specs.declared.ruling.Ruling.{Ruling}
use Rattle.resolver_model.specs.declared.ruling.Ruling.TheVariants as rulings
use Rattle.resolver_model.specs.Verdicts.{ruling}
use Rattle.resolver_model_peer.specs.declared.named.Serve.{Serve}
use Rattle.resolver_model.specs.declared.status.Status.{Status}
use Rattle.resolver_model.specs.declared.status.Status.TheVariants.{Running, Ended, Failed}
use Rattle.resolver_model_peer.specs.Peer.{Machine, Open, Done, Effect, Ask, Deliver, Produce, Credit, Block, Item, Event, Fetch, Retain, PeerSet, Blocked, ActiveDue, PendingDue, Verdict, Served, Net, End, Input, Happens, Answers, quiet, and_then, snapshot, cancel_in, cancels, closed, served_by, row_of, fetch, fetch_one, times_out, account_for, serves_rest, ruled, ruled_in, ruled_at, verdict_on, responds, misses, answered, receive, does, with_sent, turned, question, asking, is_due, wake_up, scanned_if, scanned, step_of, answer_of, step_running, step_in, step, opening}
use Rattle.resolver_types.specs.Subscribers.{without}
use Rattle.resolver_sampling.specs.Times.{elapsed_since}
use Rattle.resolver_fetch_requests.specs.Requests.{overdue}
use Rattle.resolver_model_peer.specs.Peer.{without_row, retry, has_subscribers, pruned, peer_set, is_newer, block, retain}
use Rattle.resolver_model_peer.specs.PeerLaws.{EarnsOnce}
use Rattle.resolver_model_peer.specs.PeerRun.{Fed, effects_of, all_effects, answers}
use Rattle.resolver_model_peer.specs.PeerAccount.{account, accounts_for}

-- 1 where it holds
abbrev pub mark : Bool → ℕ
mark true = 1
mark false = 0

may-is : (a b : Bool) → mark (a && not b) ≤ mark a
may-is true true = omega arith
may-is true false = omega arith
may-is false true = omega arith
may-is false false = omega arith

and-le : (b : Bool) → mark b ≤ mark (b && true)
and-le true = omega arith
and-le false = omega arith

and-once : (b : Bool) → mark b + mark (b && false) ≤ mark (b && true)
and-once true = omega arith
and-once false = omega arith

module _ {K S P : Type 0} where
  abbrev pub earned : ℕ → List (Effect K S P) → ℕ
  earned r effects = length (account r effects)

  pub earned-append : (r : ℕ) (xs ys : List (Effect K S P)) → earned r (xs ++ ys) ≡ earned r xs + earned r ys
  earned-append r xs ys = ap length (filter-append (accounts_for r) xs ys) ∙ length-append (account r xs) (account r ys)

  pub earned-one : (r : ℕ) (x : Effect K S P) → earned r (x ∷ []) ≡ mark (accounts_for r x)
  earned-one r x = at (accounts_for r x)
    where
      at : (b : Bool) → length (cond b (x ∷ []) []) ≡ mark b
      at true = refl
      at false = refl

  -- how many of these deliveries pass
  abbrev pub tally : (Open K S P → Bool) → List (ℕ × Open K S P) → ℕ
  tally test [] = 0
  tally test (d ∷ ds) = mark (test d.1) + tally test ds

  removed-at : (test : Open K S P → Bool) (at : ℕ → Bool) (h : Open K S P) (d : ℕ × Open K S P) (ds : List (ℕ × Open K S P)) (b : Bool)
      → cond b (Some d.1) (lookup at ds) ≡ Some h
      → (lookup at ds ≡ Some h → tally test ds ≡ mark (test h) + tally test (remove_entry at ds))
      → tally test (d ∷ ds) ≡ mark (test h) + tally test (cond b ds (d ∷ remove_entry at ds))
  removed-at test at h d ds true found rest = let same : d.1 ≡ h = cc in ap (λ o. mark (test o) + tally test ds) same
  removed-at test at h d ds false found rest = let e : tally test ds ≡ mark (test h) + tally test (remove_entry at ds) = rest found in omega (arith, e)

  pub tally-removed : (test : Open K S P → Bool) (at : ℕ → Bool) (h : Open K S P) (ds : List (ℕ × Open K S P))
      → lookup at ds ≡ Some h → tally test ds ≡ mark (test h) + tally test (remove_entry at ds)
  tally-removed test at h [] found = cc
  tally-removed test at h (d ∷ ds) found = removed-at test at h d ds (at d.0) found (tally-removed test at h ds)

  inserted-at : (test : Open K S P → Bool) (n : ℕ) (h : Open K S P) (d : ℕ × Open K S P) (ds : List (ℕ × Open K S P)) (o : Ordering)
      → tally test (insert_entry nat_cmp ds n h) ≤ mark (test h) + tally test ds
      → tally test (match_ordering o ((n, h) ∷ d ∷ ds) ((d.0, h) ∷ ds) (d ∷ insert_entry nat_cmp ds n h)) ≤ mark (test h) + tally test (d ∷ ds)
  inserted-at test n h d ds Less rest = omega arith
  inserted-at test n h d ds Equal rest = omega arith
  inserted-at test n h d ds Greater rest = omega arith

  pub tally-inserted : (test : Open K S P → Bool) (n : ℕ) (h : Open K S P) (ds : List (ℕ × Open K S P))
      → tally test (insert_entry nat_cmp ds n h) ≤ mark (test h) + tally test ds
  tally-inserted test n h [] = omega arith
  tally-inserted test n h (d ∷ ds) = inserted-at test n h d ds (nat_cmp n d.0) (tally-inserted test n h ds)

  -- a delivery of this response, and one that may still earn something
  abbrev pub is_of : ℕ → Open K S P → Bool
  is_of r h = h.handed.response == r

  abbrev pub may_earn : ℕ → Open K S P → Bool
  may_earn r h = h.handed.response == r && not h.accepted

  tally-may : (r : ℕ) (ds : List (ℕ × Open K S P)) → tally (may_earn r) ds ≤ tally (is_of r) ds
  tally-may r [] = omega arith
  tally-may r (d ∷ ds) = omega (arith, tally-may r ds, may-is (d.1.handed.response == r) d.1.accepted)

  -- What was earned so far and what may be earned are at most one a response, and none for responses to come.
  abbrev pub Once : (next : ℕ) → List (ℕ × Open K S P) → (ℕ → ℕ) → Type 0
  Once next ds so_far = (r : ℕ) → (so_far r + tally (may_earn r) ds ≤ 1) × (next ≤ r → so_far r + tally (is_of r) ds ≡ 0)

  abbrev pub OnceIn : Machine K S P → (ℕ → ℕ) → Type 0
  OnceIn m so_far = Once m.next_delivery m.deliveries so_far

  -- after a part of a step
  abbrev pub OnceAfter : (ℕ → ℕ) → Done K S P → Type 0
  OnceAfter so_far d = OnceIn d.machine (λ r. so_far r + earned r d.effects)

  abbrev pub OnceIfDone : (ℕ → ℕ) → Option (Done K S P) → Type 0
  OnceIfDone so_far None = ⊤
  OnceIfDone so_far (Some d) = OnceAfter so_far d

  -- where nothing that counts is new
  pub once-still : (next : ℕ) (ds : List (ℕ × Open K S P)) (so_far : ℕ → ℕ) (effects : List (Effect K S P))
      → Once next ds so_far → ((r : ℕ) → earned r effects ≡ 0) → Once next ds (λ r. so_far r + earned r effects)
  once-still next ds so_far effects once nothing r =
      let now : _ = once r in
      let none : earned r effects ≡ 0 = nothing r in
      (omega (arith, now.0, none), λ later. let e : so_far r + tally (is_of r) ds ≡ 0 = now.1 later in omega (arith, e, none))

  -- a delivery is closed, and what it earns is no more than it may
  pub once-closed : (m : Machine K S P) (at : ℕ → Bool) (h : Open K S P) (so_far : ℕ → ℕ) (effects : List (Effect K S P))
      → OnceIn m so_far → lookup at m.deliveries ≡ Some h
      → ((r : ℕ) → earned r effects ≤ mark (may_earn r h))
      → Once m.next_delivery (remove_entry at m.deliveries) (λ r. so_far r + earned r effects)
  once-closed m at h so_far effects once found earns r =
      let now : _ = once r in
      let e : _ = tally-removed (may_earn r) at h m.deliveries found in
      let f : _ = tally-removed (is_of r) at h m.deliveries found in
      let g : _ = earns r in
      let i : _ = may-is (h.handed.response == r) h.accepted in
      (omega (arith, now.0, e, g), λ later. let z : so_far r + tally (is_of r) m.deliveries ≡ 0 = now.1 later in omega (arith, z, f, g, i))

  -- and handed out again
  pub once-again : (m : Machine K S P) (at : ℕ → Bool) (h new : Open K S P) (so_far : ℕ → ℕ) (effects : List (Effect K S P))
      → OnceIn m so_far → lookup at m.deliveries ≡ Some h
      → new.handed.response ≡ h.handed.response
      → ((r : ℕ) → earned r effects + mark (may_earn r new) ≤ mark (may_earn r h))
      → (n : Machine K S P) → n.deliveries ≡ remove_entry at m.deliveries → n.next_delivery ≡ m.next_delivery
      → Once (n.next_delivery + 1) (insert_entry nat_cmp n.deliveries n.next_delivery new) (λ r. so_far r + earned r effects)
  once-again m at h new so_far effects once found same earns n are is r = rw (are, is) (
      let now : _ = once r in
      let e : _ = tally-removed (may_earn r) at h m.deliveries found in
      let f : _ = tally-removed (is_of r) at h m.deliveries found in
      let g : _ = earns r in
      let i : _ = may-is (h.handed.response == r) h.accepted in
      let j : _ = tally-inserted (may_earn r) m.next_delivery new (remove_entry at m.deliveries) in
      let k : _ = tally-inserted (is_of r) m.next_delivery new (remove_entry at m.deliveries) in
      let l : mark (is_of r new) ≡ mark (is_of r h) = ap (λ x. mark (x == r)) same in
      (omega (arith, now.0, e, g, j), λ later. let z : so_far r + tally (is_of r) m.deliveries ≡ 0 = now.1 (omega (arith, later)) in omega (arith, z, f, g, i, k, l)))

  -- a response of its own
  pub once-new : (m : Machine K S P) (new : Open K S P) (so_far : ℕ → ℕ) (effects : List (Effect K S P))
      → OnceIn m so_far → new.handed.response ≡ m.next_delivery
      → ((r : ℕ) → earned r effects ≡ 0)
      → Once (m.next_delivery + 1) (insert_entry nat_cmp m.deliveries m.next_delivery new) (λ r. so_far r + earned r effects)
  once-new m new so_far effects once fresh nothing r = at (new.handed.response == r) refl
    where
      at : (b : Bool) → (new.handed.response == r) ≡ b
          → (so_far r + earned r effects + tally (may_earn r) (insert_entry nat_cmp m.deliveries m.next_delivery new) ≤ 1)
          × (m.next_delivery + 1 ≤ r → so_far r + earned r effects + tally (is_of r) (insert_entry nat_cmp m.deliveries m.next_delivery new) ≡ 0)
      at true is =
          let here : new.handed.response ≡ r = eqb-true new.handed.response r is in
          let now : _ = once r in
          let z : so_far r + tally (is_of r) m.deliveries ≡ 0 = now.1 (omega (arith, here, fresh)) in
          let i : _ = may-is (new.handed.response == r) new.accepted in
          let j : _ = tally-inserted (may_earn r) m.next_delivery new m.deliveries in
          let l : mark (new.handed.response == r) ≡ 1 = ap mark is in
          let n : _ = nothing r in
          (omega (arith, z, i, j, l, n, tally-may r m.deliveries), λ later. absurd (omega (arith, later, here, fresh)))
      at false is =
          let now : _ = once r in
          let i : _ = may-is (new.handed.response == r) new.accepted in
          let j : _ = tally-inserted (may_earn r) m.next_delivery new m.deliveries in
          let k : _ = tally-inserted (is_of r) m.next_delivery new m.deliveries in
          let l : mark (new.handed.response == r) ≡ 0 = ap mark is in
          let n : _ = nothing r in
          (omega (arith, now.0, i, j, l, n), λ later. let z : so_far r + tally (is_of r) m.deliveries ≡ 0 = now.1 (omega (arith, later)) in omega (arith, z, k, l, n))

  -- fewer deliveries
  pub once-none : (next : ℕ) (ds : List (ℕ × Open K S P)) (so_far : ℕ → ℕ) → Once next ds so_far → Once next [] so_far
  once-none next ds so_far once r =
      let now : _ = once r in
      (omega (arith, now.0), λ later. let z : so_far r + tally (is_of r) ds ≡ 0 = now.1 later in omega (arith, z))

  -- more effects that earn nothing
  pub once-more : (next : ℕ) (ds : List (ℕ × Open K S P)) (so_far : ℕ → ℕ) (xs ys : List (Effect K S P))
      → Once next ds (λ r. so_far r + earned r xs) → ((r : ℕ) → earned r ys ≡ 0)
      → Once next ds (λ r. so_far r + earned r (xs ++ ys))
  once-more next ds so_far xs ys once nothing r =
      let e : earned r (xs ++ ys) ≡ earned r xs = earned-append r xs ys ∙ ap (λ y. earned r xs + y) (nothing r) ∙ add-zero (earned r xs) in
      rw e (once r)

  cancels-earn : (r : ℕ) (rows : List (K × Row K S P)) → earned r (cancels rows) ≡ 0
  cancels-earn r [] = refl
  cancels-earn r (row ∷ rows) = at row.1.phase (cancels-earn r rows)
    where
      at : (phase : Phase K P) → earned r (cancels rows) ≡ 0 → earned r (cons_option (cancel_in phase) (cancels rows)) ≡ 0
      at (Waits place) rest = rest
      at (Asked id request) rest = rest
      at (Judged j) rest = rest

  ask-earns : (m : Machine K S P) (r : ℕ) (q : Option (Question K P)) → earned r (option_to_list (option_map Ask q)) ≡ 0
  ask-earns m r None = refl
  ask-earns m r (Some q) = refl

  -- its deliveries are those of the other
  abbrev pub Keeps : Machine K S P → Machine K S P → Type 0
  Keeps m n = (n.deliveries ≡ m.deliveries) × (n.next_delivery ≡ m.next_delivery)

  keeps-if : (m : Machine K S P) (b : Bool) (x y : Machine K S P) → Keeps m x → Keeps m y → Keeps m (if b then x else y)
  keeps-if m true x y k l = k
  keeps-if m false x y k l = l

  once-if : (so_far : ℕ → ℕ) (b : Bool) (d : Done K S P) → OnceAfter so_far d → OnceIfDone so_far (if b then Some d else None)
  once-if so_far true d once = once
  once-if so_far false d once = tt

  once-kept : (m n : Machine K S P) (so_far : ℕ → ℕ) (effects : List (Effect K S P))
      → OnceIn m so_far → Keeps m n → ((r : ℕ) → earned r effects ≡ 0)
      → OnceAfter so_far (record { machine = n; effects = effects })
  once-kept m n so_far effects once kept nothing = rw (kept.0, kept.1) (once-still m.next_delivery m.deliveries so_far effects once nothing)

module _ {K S P : Type 0} (a : Parties K S P) where
  fetch_one-keeps : (m : Machine K S P) (now : ℕ) (item : Item K S P) (row : Option (Row K S P)) → Keeps m (fetch_one a m now item row)
  fetch_one-keeps m now item None = (refl, refl)
  fetch_one-keeps m now item (Some row) = (refl, refl)

  fetch-keeps : (m : Machine K S P) (now : ℕ) (items : List (Item K S P)) → Keeps m (fetch a m now items)
  fetch-keeps m now [] = (refl, refl)
  fetch-keeps m now (item ∷ items) =
      let one : _ = fetch_one-keeps m now item (row_of a m item.key) in
      let rest : _ = fetch-keeps (fetch_one a m now item (row_of a m item.key)) now items in
      (rest.0 ∙ one.0, rest.1 ∙ one.1)

  times_out-keeps : (m : Machine K S P) (now : ℕ) (r : Option (ℕ × Request K P)) → Keeps m (times_out a m now r)
  times_out-keeps m now None = (refl, refl)
  times_out-keeps m now (Some r) = (refl, refl)

  misses-keeps : (m : Machine K S P) (now : ℕ) (r : Option (Request K P)) → Keeps m (misses a m now r)
  misses-keeps m now None = (refl, refl)
  misses-keeps m now (Some r) = (refl, refl)

  served-once : (m : Machine K S P) (serve : ℕ) (bytes : Option (List ℕ)) (s : Option (Serve P)) (so_far : ℕ → ℕ)
      → OnceIn m so_far → OnceAfter so_far (served_by m serve bytes s)
  served-once m serve bytes None so_far once = once-kept m m so_far [] once (refl, refl) (λ r. refl)
  served-once m serve bytes (Some s) so_far once = once-still m.next_delivery m.deliveries so_far (served_by m serve bytes (Some s)).effects once (λ r. refl)

  -- a verdict earns its response no more than it may earn
  account-earns : (m : Machine K S P) (h : Open K S P) (r : ℕ) (accepted : Bool) (outcome : Option Outcome)
      → earned r (account_for a m h accepted outcome).effects ≤ mark (h.handed.response == r && not accepted)
  account-earns m h r true outcome = omega arith
  account-earns m h r false None = omega arith
  account-earns m h r false (Some (Resolved resolution)) = let credit : Effect K S P = Credit h.handed.response h.source in rw (earned-one r credit) (and-le (h.handed.response == r))
  account-earns m h r false (Some Invalid) = let block : Effect K S P = Block h.handed.response h.source.peer in rw (earned-one r block) (and-le (h.handed.response == r))
  account-earns m h r false (Some Unresolved) = omega arith
  account-earns m h r false (Some Ignored) = omega arith

  -- and where the response is handed out again, both together
  account-again : (m : Machine K S P) (h : Open K S P) (r : ℕ) (accepted : Bool) (outcome : Option Outcome) (again : Bool)
      → ruling accepted outcome ≡ rulings.Serve again
      → earned r (account_for a m h accepted outcome).effects + mark (h.handed.response == r && not again) ≤ mark (h.handed.response == r && not accepted)
  account-again m h r true None again is = let same : true ≡ again = cc in rw (← same) (omega arith)
  account-again m h r false None again is = let same : false ≡ again = cc in rw (← same) (omega arith)
  account-again m h r true (Some (Resolved Complete)) again is = let same : true ≡ again = cc in rw (← same) (omega arith)
  account-again m h r false (Some (Resolved Complete)) again is =
      let same : true ≡ again = cc in let credit : Effect K S P = Credit h.handed.response h.source in rw (← same, earned-one r credit) (and-once (h.handed.response == r))
  account-again m h r true (Some (Resolved Partial)) again is = cc
  account-again m h r false (Some (Resolved Partial)) again is = cc
  account-again m h r true (Some Invalid) again is = cc
  account-again m h r false (Some Invalid) again is = cc
  account-again m h r true (Some Unresolved) again is = cc
  account-again m h r false (Some Unresolved) again is = cc
  account-again m h r true (Some Ignored) again is = cc
  account-again m h r false (Some Ignored) again is = cc

  account-keeps : (m : Machine K S P) (h : Open K S P) (accepted : Bool) (outcome : Option Outcome) → Keeps m (account_for a m h accepted outcome).machine
  account-keeps m h true outcome = (refl, refl)
  account-keeps m h false None = (refl, refl)
  account-keeps m h false (Some (Resolved resolution)) = (refl, refl)
  account-keeps m h false (Some Invalid) = (refl, refl)
  account-keeps m h false (Some Unresolved) = (refl, refl)
  account-keeps m h false (Some Ignored) = (refl, refl)

  -- a verdict on an open delivery h, with what was earned first
  module _ (m : Machine K S P) (so_far : ℕ → ℕ) (once : OnceIn m so_far) (at : ℕ → Bool) (h : Open K S P) (found : lookup at m.deliveries ≡ Some h)
      (n : Machine K S P) (are : n.deliveries ≡ remove_entry at m.deliveries) (is : n.next_delivery ≡ m.next_delivery)
      (effects : List (Effect K S P)) (earns : (r : ℕ) → earned r effects ≤ mark (may_earn r h)) where
    -- after what was earned first
    And : Option (Done K S P) → Type 0
    And o = OnceIfDone so_far (option_map (λ e. record { machine = e.machine; effects = effects ++ e.effects }) o)

    quiet-once : (k : Machine K S P) → Keeps n k → And (Some (quiet k))
    unfolding And
    quiet-once k kept = rw (kept.0, kept.1, are, is) (once-more m.next_delivery (remove_entry at m.deliveries) so_far effects [] (once-closed m at h so_far effects once found earns) (λ r. refl))

    and-if : (b : Bool) (d : Done K S P) → And (Some d) → And (if b then Some d else None)
    unfolding And
    and-if true d here = here
    and-if false d here = tt

    rest-once : (value : List ℕ) (again : Bool) (rest : List (S × ℕ))
        → ((r : ℕ) → earned r effects + mark (h.handed.response == r && not again) ≤ mark (may_earn r h))
        → And (serves_rest a n h value again rest)
    unfolding And
    rest-once value again [] agrees = quiet-once (without_row a n h.handed.key) (refl, refl)
    rest-once value again (s ∷ rest) agrees =
        let new : Open K S P = record { handed = record { response = h.handed.response; key = h.handed.key; subscribers = s ∷ rest }; source = h.source; accepted = again } in
        and-if (nat_lt n.next_delivery (2 ^ 64)) _ (once-more (n.next_delivery + 1) (insert_entry nat_cmp n.deliveries n.next_delivery new) so_far effects _
        (once-again m at h new so_far effects once found refl agrees n are is) (λ r. refl))

    -- where the ruling is to serve, the response may be handed out again
    Agrees : Ruling → Type 0
    Agrees rule = (again : Bool) → rule ≡ rulings.Serve again → (r : ℕ) → earned r effects + mark (h.handed.response == r && not again) ≤ mark (may_earn r h)

    ruled-once : (now : ℕ) (row : Row K S P) (value : List ℕ) (rule : Ruling) → Agrees rule → And (ruled a n now h row value rule)
    unfolding And Agrees
    ruled-once now row value (rulings.Serve again) agrees = rest-once value again (without a.subscriber h.handed.subscribers row.subscribers) (agrees again refl)
    ruled-once now row value rulings.Retry agrees = quiet-once (retry a n now h.handed.key) (refl, refl)
    ruled-once now row value rulings.Retire agrees = quiet-once (without_row a n h.handed.key) (refl, refl)

    either : (b : Bool) (o : Option (Done K S P)) → And o → And (if b then o else Some (quiet n))
    unfolding And
    either true o here = here
    either false o here = quiet-once n (refl, refl)

    in-once : (now number : ℕ) (outcome : Option Outcome) (row : Row K S P) (phase : Phase K P) → Agrees (ruling h.accepted outcome) → And (ruled_in a n now number h outcome row phase)
    unfolding And
    in-once now number outcome row (Waits place) agrees = quiet-once n (refl, refl)
    in-once now number outcome row (Asked id request) agrees = quiet-once n (refl, refl)
    in-once now number outcome row (Judged j) agrees = either (number == j.number) (ruled a n now h row j.value (ruling h.accepted outcome)) (ruled-once now row j.value (ruling h.accepted outcome) agrees)

    at-once : (now number : ℕ) (outcome : Option Outcome) (row : Option (Row K S P)) → Agrees (ruling h.accepted outcome) → And (ruled_at a n now number h outcome row)
    unfolding And
    at-once now number outcome None agrees = quiet-once n (refl, refl)
    at-once now number outcome (Some row) agrees = in-once now number outcome row row.phase agrees

  verdict-once : (m : Machine K S P) (now number : ℕ) (outcome : Option Outcome) (so_far : ℕ → ℕ) → OnceIn m so_far
      → (o : Option (Open K S P)) → lookup (λ n. number == n) m.deliveries ≡ o → OnceIfDone so_far (verdict_on a m now number outcome o)
  unfolding And Agrees
  verdict-once m now number outcome so_far once None found = once-kept m m so_far [] once (refl, refl) (λ r. refl)
  verdict-once m now number outcome so_far once (Some h) found =
      let d : Done K S P = account_for a (closed m number) h h.accepted outcome in
      let kept : _ = account-keeps (closed m number) h h.accepted outcome in
      at-once m so_far once (λ n. number == n) h found d.machine kept.0 kept.1 d.effects (λ r. account-earns (closed m number) h r h.accepted outcome)
      now number outcome (row_of a d.machine h.handed.key) (λ again is r. account-again (closed m number) h r h.accepted outcome again is)

  responds-once : (m : Machine K S P) (now : ℕ) (value : List ℕ) (r : Option (Request K P)) (row : Option (Row K S P)) (so_far : ℕ → ℕ) → OnceIn m so_far
      → OnceIfDone so_far (responds a m now value r row)
  responds-once m now value None row so_far once = once-kept m m so_far [] once (refl, refl) (λ r. refl)
  responds-once m now value (Some q) None so_far once = once-kept m m so_far [] once (refl, refl) (λ r. refl)
  responds-once m now value (Some q) (Some row) so_far once =
      let new : Open K S P = record {
        handed = record { response = m.next_delivery; key = q.key; subscribers = row.subscribers };
        source = record { peer = q.peer; elapsed = elapsed_since q.start now; bytes = length value };
        accepted = false;
      } in
      once-if so_far (nat_lt m.next_delivery (2 ^ 64)) _ (once-new m new so_far (Deliver m.next_delivery new.handed value ∷ []) once refl (λ r. refl))

  receive-once : (m : Machine K S P) (now : ℕ) (peer : P) (id : ℕ) (payload : Payload K) (so_far : ℕ → ℕ) → OnceIn m so_far
      → OnceIfDone so_far (receive a m now peer id payload)
  receive-once m now peer id (payloads.Request key) so_far once = once-if so_far (nat_lt m.next_serve (2 ^ 64)) _ (once-still m.next_delivery m.deliveries so_far (Produce m.next_serve key ∷ []) once (λ r. refl))
  receive-once m now peer id (payloads.Response value) so_far once = responds-once m now value (answered a m peer id) (option_and_then (λ r. row_of a m r.key) (answered a m peer id)) so_far once
  receive-once m now peer id payloads.Error so_far once = once-kept m (misses a m now (answered a m peer id)) so_far [] once (misses-keeps m now (answered a m peer id)) (λ r. refl)

  does-once : (m : Machine K S P) (now : ℕ) (event : Event K S P) (so_far : ℕ → ℕ) → OnceIn m so_far → OnceIfDone so_far (does a m now event)
  does-once m now (Fetch items) so_far once = once-kept m (fetch a m now items) so_far [] once (fetch-keeps m now items) (λ r. refl)
  does-once m now (Retain keep) so_far once = once-still m.next_delivery m.deliveries so_far (retain m keep).effects once (λ r. cancels-earn r (filter (λ r. not (has_subscribers r)) (map (pruned keep) m.rows)))
  does-once m now (PeerSet index peers) so_far once =
      once-kept m (peer_set a m index peers) so_far [] once (keeps-if m (is_newer m.last_index index) _ m (refl, refl) (refl, refl)) (λ r. refl)
  does-once m now (Blocked peers) so_far once = once-kept m (block a m peers) so_far [] once (refl, refl) (λ r. refl)
  does-once m now ActiveDue so_far once = once-kept m (times_out a m now (overdue (snapshot a m).asked now)) so_far [] once (times_out-keeps m now (overdue (snapshot a m).asked now)) (λ r. refl)
  does-once m now PendingDue so_far once = once-kept m m so_far [] once (refl, refl) (λ r. refl)
  does-once m now (Verdict number outcome) so_far once = verdict-once m now number outcome so_far once (lookup (λ n. number == n) m.deliveries) refl
  does-once m now (Served serve bytes) so_far once = served-once m serve bytes (lookup (λ n. serve == n) m.serves) so_far once
  does-once m now (Net peer None) so_far once = once-kept m m so_far [] once (refl, refl) (λ r. refl)
  does-once m now (Net peer (Some message)) so_far once = receive-once m now peer message.id message.payload so_far once
  does-once m now End so_far once = once-still m.next_delivery [] so_far (cancels m.rows) (once-none m.next_delivery m.deliveries so_far once) (λ r. cancels-earn r m.rows)

  with_sent-keeps : (m : Machine K S P) (sent : Option (ℕ × Request K P)) → Keeps m (with_sent a m sent)
  with_sent-keeps m None = (refl, refl)
  with_sent-keeps m (Some r) = (refl, refl)

  scanned-keeps : (b : Bool) (m : Machine K S P) (now : ℕ) → Keeps m (scanned_if a b m now).machine
  scanned-keeps true m now = with_sent-keeps m (scans.begins (orders_of a) (snapshot a m) now).sent
  scanned-keeps false m now = (refl, refl)

  scanned-earns : (b : Bool) (m : Machine K S P) (now r : ℕ) → earned r (scanned_if a b m now).effects ≡ 0
  scanned-earns true m now r =
      let n : Machine K S P = turned a m (scans.begins (orders_of a) (snapshot a m) now) in ask-earns n r (question a n)
  scanned-earns false m now r = refl

  -- what an answer earns
  abbrev OnceStep : (ℕ → ℕ) → Result (List (Effect K S P)) Fault × Machine K S P → Type 0
  OnceStep so_far answer = OnceIn answer.1 (λ r. so_far r + earned r (effects_of answer.0))

  once-same : (m : Machine K S P) (so_far : ℕ → ℕ) → OnceIn m so_far → OnceIn m (λ r. so_far r + 0)
  once-same m so_far once = once-still m.next_delivery m.deliveries so_far [] once (λ r. refl)

  happened-once : (o : Option (Done K S P)) (m : Machine K S P) (now : ℕ) (so_far : ℕ → ℕ) → OnceIn m so_far → OnceIfDone so_far o
      → OnceStep so_far (step_of a (option_and_then (λ d. and_then d (λ n. Some (scanned a n now))) o) m)
  happened-once None m now so_far once here = once-same m so_far once
  happened-once (Some d) m now so_far once here =
      let b : Bool = is_due now (wake_up a d.machine) in
      let kept : _ = scanned-keeps b d.machine now in
      rw (kept.0, kept.1) (once-more d.machine.next_delivery d.machine.deliveries so_far d.effects (scanned_if a b d.machine now).effects here (scanned-earns b d.machine now))

  answered-once : (t : Result (Turn K P) Fault) (m : Machine K S P) (so_far : ℕ → ℕ) → OnceIn m so_far → OnceStep so_far (answer_of a t m)
  answered-once (Err fault) m so_far once = once-same m so_far once
  answered-once (Ok t) m so_far once =
      let kept : _ = with_sent-keeps m t.sent in
      rw (kept.0, kept.1) (once-still m.next_delivery m.deliveries so_far (asking a (turned a m t)).effects once (λ r. ask-earns m r (question a (turned a m t))))

  running-once : (over : Bool) (m : Machine K S P) (now : ℕ) (input : Input K S P) (so_far : ℕ → ℕ) → OnceIn m so_far → OnceStep so_far (step_running a over m now input)
  running-once true m now (Happens event) so_far once =
      happened-once (does a (record m { moment = now }) now event) m now so_far once (does-once (record m { moment = now }) now event so_far once)
  running-once false m now (Happens event) so_far once = once-same m so_far once
  running-once over m now (Answers answer) so_far once = answered-once (scans.takes (orders_of a) (snapshot a m) m.scan answer) m so_far once

  in-once-status : (status : Status) (m : Machine K S P) (now : ℕ) (input : Input K S P) (so_far : ℕ → ℕ) → OnceIn m so_far → OnceStep so_far (step_in a status m now input)
  in-once-status Failed m now input so_far once = once-same m so_far once
  in-once-status Ended m now input so_far once = once-same m so_far once
  in-once-status Running m now input so_far once = running-once (is_over m.scan) m now input so_far once

  pub step-once : (m : Machine K S P) (now : ℕ) (input : Input K S P) (so_far : ℕ → ℕ) → OnceIn m so_far → OnceStep so_far (step a m now input)
  step-once m now input so_far once = in-once-status m.status m now input so_far once

  pub run-once : (m : Machine K S P) (inputs : List (Fed K S P)) (so_far : ℕ → ℕ) → OnceIn m so_far
      → (r : ℕ) → so_far r + earned r (all_effects (answers a m inputs)) ≤ 1
  run-once m [] so_far once r = let now : _ = once r in omega (arith, now.0)
  run-once m (i ∷ is) so_far once r =
      let here : Result (List (Effect K S P)) Fault × Machine K S P = step a m i.now i.input in
      let rest : so_far r + earned r (effects_of here.0) + earned r (all_effects (answers a here.1 is)) ≤ 1
      = run-once here.1 is (λ q. so_far q + earned q (effects_of here.0)) (step-once m i.now i.input so_far once) r in
      let both : _ = earned-append r (effects_of here.0) (all_effects (answers a here.1 is)) in
      omega (arith, rest, both)

  -- each response earns at most one credit or one block
  pub earns_once : EarnsOnce a
  earns_once configuration replies_first inputs response =
      let e : 0 + earned response (all_effects (answers a (opening configuration replies_first) inputs)) ≤ 1
      = run-once (opening configuration replies_first) inputs (λ r. 0) (λ r. (omega arith, λ later. refl)) response in omega (arith, e)
