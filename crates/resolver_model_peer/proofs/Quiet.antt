-- A waiter that holds back no pair that can be tried, and what ends a scan so.
use Rattle.std.proofs.Common.{◌≡◌, refl, ap, sym, ◌∙◌, subst, ◌⊎◌, inl, inr, ℕ, ◌+◌, ◌<◌, ◌≤◌, ◌^◌, min, Bool, true, false, not, ◌||◌, List, [], ◌∷◌, ◌++◌, Option, None, Some, Result, Ok, Err, if◌then◌else◌, arith}
use Rattle.std.proofs.lemmas.Bool.Decides.{nat_tests}
use Rattle.std.proofs.lemmas.Grind.{common_steps}
use Rattle.std.specs.Prelude.{nat_le, nat_lt, unwrap_or, ⊤}
use Rattle.resolver_base.specs.declared.check.Check.TheVariants.{Clear, Until}
use Rattle.resolver_base.specs.declared.fault.Fault.{Fault}
use Rattle.resolver_base.specs.declared.fault.Fault.TheVariants.{OutOfRange}
use Rattle.resolver_sampling.specs.Times.{never}
use Rattle.resolver_fetch_scan.specs.declared.scan.Answer.{Answer}
use Rattle.resolver_fetch_scan.specs.declared.scan.Answer.TheVariants.{Drawn, Checked, Sent}
use Rattle.resolver_fetch_scan.specs.declared.trail.Expected.{Expected}
use Rattle.resolver_fetch_scan.specs.declared.trail.Expected.TheVariants.{Mode, ByWeight, ByPlace, Checking, FirstId, Sending}
use Rattle.resolver_fetch_scan.specs.declared.trail.Reason.TheVariants.{Limited, Refused}
use Rattle.resolver_fetch_scan.specs.Waiting.{Waiting}
use Rattle.resolver_fetch_scan.specs.Snapshot.{Snapshot, eligible}
use Rattle.resolver_fetch_scan.specs.Scan as scans
use Rattle.resolver_fetch_scan.specs.Scan.{Scan, Turn, answered, asks_for, begins, by_place, by_weight, clears, draws, ends, goes_on, goes_on_with, least, left, next, next_due, sends, takes, takes_for, trail_moment, waiter_of, was_tried}
use Rattle.resolver_fetch_scan.specs.FetcherLaws.{AllAre, HasTriedAll, IsAmong, IsInVain, IsLaterIfAny}
use Rattle.resolver_fetch_scan.proofs.InVain.{goes-on, takes-in-vain}
use Rattle.resolver_fetch_scan.proofs.OneOf.{IsOneOf}
use Rattle.resolver_fetch_scan.proofs.TriesAll.{tries_all}
use Rattle.resolver_model_peer.specs.Parties.{Parties, orders_of}
use Rattle.resolver_model_peer.specs.Peer.{Machine, is_due, snapshot, turned}
use Rattle.resolver_model_peer.specs.PeerAwake.{can_be_tried}

pub all-among : {X : Type 0} (Q : X → Type 0) (x : X) (xs : List X) → AllAre Q xs → IsAmong x xs → Q x
all-among Q x [] all i = absurd i
all-among Q x (y ∷ xs) all (inl e) = subst Q (sym e) all.0
all-among Q x (y ∷ xs) all (inr i) = all-among Q x xs all.1 i

-- Moments after t.
module _ (t : ℕ) where
  split-least : (x y : Option ℕ) → IsLaterIfAny t (least x y) → IsLaterIfAny t x × IsLaterIfAny t y
  split-least None y later = (tt, later)
  split-least (Some m) None later = (later, tt)
  split-least (Some m) (Some n) later = (omega (arith, later), omega (arith, later))

  below-waiter : (x : Option ℕ) → t < min never (unwrap_or x never) → IsLaterIfAny t x
  below-waiter None less = tt
  below-waiter (Some m) less = omega (arith, less)

  pub not-due : (x : Option ℕ) → IsLaterIfAny t x → is_due t x ≡ false
  not-due None later = refl
  not-due (Some m) later = grind (arith, nat_tests, common_steps, later)

  module _ {K P : Type 0} (now : ℕ) where
    behind-next : (w v : K × Waiting P) (vs : List (K × Waiting P)) → scans.is_due now w ≡ false → (b : Bool) → scans.is_due now v ≡ b
        → (IsLaterIfAny t (next_due now vs) → IsAmong w vs → t < w.1.place.due)
        → IsLaterIfAny t (least (if b then None else Some v.1.place.due) (next_due now vs)) → IsAmong w (v ∷ vs) → t < w.1.place.due
    behind-next w v vs is true here rest later (inl e) = let clash : true ≡ false = sym here ∙ ap (scans.is_due now) (sym e) ∙ is in absurd cc
    behind-next w v vs is true here rest later (inr i) = rest later i
    behind-next w v vs is false here rest later (inl e) =
        subst (λ (x : K × Waiting P). t < x.1.place.due) (sym e) (split-least (Some v.1.place.due) (next_due now vs) later).0
    behind-next w v vs is false here rest later (inr i) = rest (split-least (Some v.1.place.due) (next_due now vs) later).1 i

    -- a key that isn't due at a scan's moment is due no sooner than the next
    pub next-due-later : (w : K × Waiting P) (ws : List (K × Waiting P)) → scans.is_due now w ≡ false → IsLaterIfAny t (next_due now ws) → IsAmong w ws → t < w.1.place.due
    next-due-later w [] is later i = absurd i
    next-due-later w (v ∷ vs) is later i = behind-next w v vs is (scans.is_due now v) refl (next-due-later w vs is) later i

tried-not : (b c : Bool) → b ≡ true → c ≡ false → (not b || c) ≡ false
tried-not true c is late = late
tried-not false c is late = absurd cc

late-not-due : (t due : ℕ) → t < due → nat_le due t ≡ false
late-not-due t due less = grind (arith, nat_tests, common_steps, less)

module _ {K S P : Type 0} (a : Parties K S P) where
  -- While the waiter is later than t, no key that is due at t has a peer to try.
  abbrev pub IsQuiet : Machine K S P → Type 0
  IsQuiet m = (t : ℕ) → m.moment ≤ t → t < unwrap_or m.waiter 0
      → (w : K × Waiting P) → IsAmong w (snapshot a m).waiting → nat_le w.1.place.due t ≡ true
      → (p : P) → IsOneOf p (eligible (orders_of a) (snapshot a m) w.1.targets) → can_be_tried a m t w.0 p ≡ false

  -- a machine with a clear waiter
  pub clear-quiet : (m : Machine K S P) → m.waiter ≡ None → IsQuiet m
  clear-quiet m clear t from less = absurd (subst (λ (x : Option ℕ). t < unwrap_or x 0 → ⊥) (sym clear) (λ l. omega (arith, l)) less)

  -- a scan that ends in vain
  ends-quiet : (m : Machine K S P) (scan : Scan K P) → HasTriedAll (orders_of a) (snapshot a m) scan → IsQuiet (turned a m (ends (orders_of a) (snapshot a m) scan))
  ends-quiet m scan all t from less w i due p j =
      at (scans.is_due scan.moment w) refl where
        later : IsLaterIfAny t (next_due scan.moment (snapshot a m).waiting) × IsLaterIfAny t (trail_moment m.configuration.retry_delay scan.moment scan.trail)
        later = split-least t (next_due scan.moment (snapshot a m).waiting) (trail_moment m.configuration.retry_delay scan.moment scan.trail)
            (below-waiter t (least (next_due scan.moment (snapshot a m).waiting) (trail_moment m.configuration.retry_delay scan.moment scan.trail)) less)

        at : (b : Bool) → scans.is_due scan.moment w ≡ b → can_be_tried a (turned a m (ends (orders_of a) (snapshot a m) scan)) t w.0 p ≡ false
        at true is =
            let tried : was_tried (orders_of a) scan.trail w.0 p ≡ true =
            all-among (λ q. was_tried (orders_of a) scan.trail w.0 q.0 ≡ true) (p, j.0) (eligible (orders_of a) (snapshot a m) w.1.targets)
            (all-among (λ v. scans.is_due scan.moment v ≡ true → AllAre (λ q. was_tried (orders_of a) scan.trail v.0 q.0 ≡ true) (eligible (orders_of a) (snapshot a m) v.1.targets)) w (snapshot a m).waiting all i is) j.1 in
            tried-not (was_tried (orders_of a) scan.trail w.0 p) (is_due t (trail_moment m.configuration.retry_delay scan.moment scan.trail)) tried
            (not-due t (trail_moment m.configuration.retry_delay scan.moment scan.trail) later.1)
        at false is =
            let late : t < w.1.place.due = next-due-later t scan.moment w (snapshot a m).waiting is later.0 i in
            let clash : true ≡ false = sym due ∙ late-not-due t w.1.place.due late in absurd cc

  -- Its turn clears the waiter, or it ends in vain.
  abbrev ClearsOrEnds : Turn K P → Type 0
  ClearsOrEnds t = (t.waiter ≡ None) ⊎ IsInVain (orders_of a) t

  abbrev ClearsOrEndsAfter : Result (Turn K P) Fault → Type 0
  ClearsOrEndsAfter (Ok t) = ClearsOrEnds t
  ClearsOrEndsAfter (Err fault) = ⊤

  module _ (s : Snapshot K P) where
    goes-clear : (scan : Scan K P) (w : Option (K × Waiting P)) → ClearsOrEnds (goes_on_with (orders_of a) s scan w)
    goes-clear scan None = inr (refl, refl)
    goes-clear scan (Some w) = inl refl

    draws-clear : (scan : Scan K P) (peer : Option P) → ClearsOrEndsAfter (draws (orders_of a) s scan peer)
    draws-clear scan None = tt
    draws-clear scan (Some peer) = inl refl

    if-clear : (b : Bool) (t : Turn K P) → t.waiter ≡ None → ClearsOrEndsAfter (if b then Ok t else Err OutOfRange)
    if-clear true t is = inl is
    if-clear false t is = tt

    clears-clear : (scan : Scan K P) (peer : P) (last : Option ℕ) → ClearsOrEnds (clears (orders_of a) s scan peer last)
    clears-clear scan peer None = inl refl
    clears-clear scan peer (Some last) = inl refl

    answered-clear : (scan : Scan K P) (w : K × Waiting P) (expected : Expected P) (answer : Answer) → ClearsOrEndsAfter (answered (orders_of a) s scan w expected answer)
    answered-clear scan w Mode (Drawn n) = if-clear (nat_lt n (w.1.retries + 4)) (asks_for (orders_of a) s scan (scans.mode_of n)) refl
    answered-clear scan w Mode (Checked check) = tt
    answered-clear scan w Mode (Sent accepted) = tt
    answered-clear scan w ByWeight (Drawn n) = draws-clear scan (by_weight (left (orders_of a) s scan.trail w) n)
    answered-clear scan w ByWeight (Checked check) = tt
    answered-clear scan w ByWeight (Sent accepted) = tt
    answered-clear scan w ByPlace (Drawn n) = draws-clear scan (by_place (left (orders_of a) s scan.trail w) n)
    answered-clear scan w ByPlace (Checked check) = tt
    answered-clear scan w ByPlace (Sent accepted) = tt
    answered-clear scan w (Checking peer) (Drawn n) = tt
    answered-clear scan w (Checking peer) (Checked Clear) = clears-clear scan peer s.last_id
    answered-clear scan w (Checking peer) (Checked (Until moment)) =
        let more : Scan K P = record scan { trail = scan.trail ++ record { key = w.0; peer = peer; reason = Limited moment } ∷ [] } in
        goes-clear more (next (orders_of a) s more)
    answered-clear scan w (Checking peer) (Sent accepted) = tt
    answered-clear scan w (FirstId peer) (Drawn n) = if-clear (nat_lt n (2 ^ 64)) (sends (orders_of a) s scan peer n) refl
    answered-clear scan w (FirstId peer) (Checked check) = tt
    answered-clear scan w (FirstId peer) (Sent accepted) = tt
    answered-clear scan w (Sending peer id) (Drawn n) = tt
    answered-clear scan w (Sending peer id) (Checked check) = tt
    answered-clear scan w (Sending peer id) (Sent true) = inl refl
    answered-clear scan w (Sending peer id) (Sent false) =
        let more : Scan K P = record scan { trail = scan.trail ++ record { key = w.0; peer = peer; reason = Refused } ∷ [] } in
        goes-clear more (next (orders_of a) s more)

    for-clear : (scan : Scan K P) (w : Option (K × Waiting P)) (expected : Option (Expected P)) (answer : Answer) → ClearsOrEndsAfter (takes_for (orders_of a) s scan w expected answer)
    for-clear scan None expected answer = tt
    for-clear scan (Some w) None answer = tt
    for-clear scan (Some w) (Some expected) answer = answered-clear scan w expected answer

  -- the machine after a turn
  abbrev Ends : Machine K S P → Turn K P → Type 0
  Ends m t = HasTriedAll (orders_of a) (snapshot a m) t.scan → IsQuiet (turned a m t)

  begins-quiet-at : (m : Machine K S P) (now : ℕ) → ClearsOrEnds (begins (orders_of a) (snapshot a m) now) → IsQuiet (turned a m (begins (orders_of a) (snapshot a m) now))
  begins-quiet-at m now (inl clear) = clear-quiet (turned a m (begins (orders_of a) (snapshot a m) now)) clear
  begins-quiet-at m now (inr vain) =
      goes-on (orders_of a) (snapshot a m) (Ends m) (λ scan none all. ends-quiet m scan all) (record { moment = now; trail = []; expects = None }) vain
      ((tries_all (orders_of a)).at_once (snapshot a m) now vain)

  pub begins-quiet : (m : Machine K S P) (now : ℕ) → IsQuiet (turned a m (begins (orders_of a) (snapshot a m) now))
  begins-quiet m now =
      let opened : Scan K P = record { moment = now; trail = []; expects = None } in
      begins-quiet-at m now (goes-clear (snapshot a m) opened (next (orders_of a) (snapshot a m) opened))

  takes-quiet-at : (m : Machine K S P) (answer : Answer) (t : Turn K P) → takes (orders_of a) (snapshot a m) m.scan answer ≡ Ok t → ClearsOrEnds t → IsQuiet (turned a m t)
  takes-quiet-at m answer t e (inl clear) = clear-quiet (turned a m t) clear
  takes-quiet-at m answer t e (inr vain) =
      takes-in-vain (orders_of a) (snapshot a m) (Ends m) (λ scan none all. ends-quiet m scan all) m.scan answer t e vain
      ((tries_all (orders_of a)).later (snapshot a m) m.scan answer t e vain)

  pub takes-quiet : (m : Machine K S P) (answer : Answer) (t : Turn K P) → takes (orders_of a) (snapshot a m) m.scan answer ≡ Ok t → IsQuiet (turned a m t)
  takes-quiet m answer t e =
      takes-quiet-at m answer t e (subst ClearsOrEndsAfter e (for-clear (snapshot a m) m.scan (next (orders_of a) (snapshot a m) m.scan) m.scan.expects answer))
