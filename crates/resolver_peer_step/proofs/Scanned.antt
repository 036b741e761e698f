-- What a scan does to the parts, from its beginning and from an answer.
use Rattle.std.proofs.Common.{◌≡◌, ◌≢◌, refl, ap, sym, ◌∙◌, subst, ℕ, ◌≤◌, false, true, List, [], ◌∷◌, ◌++◌, length, map, Option, None, Some, Result, Ok, Err, append-nil, arith}
use Rattle.std.proofs.lemmas.Bool.Decides.{nat_tests}
use Rattle.std.specs.Option.{option_map, option_to_list}
use Rattle.std.specs.Prelude.{is_err, nat_le}
use Rattle.std.specs.Result.{IfErr, OnOk}
use Rattle.std.specs.Cmp.{IsTotalOrder}
use Rattle.resolver_base.specs.declared.fault.Fault.{Fault}
use Rattle.resolver_base.specs.declared.fault.Fault.TheVariants.{OutOfMemory, Unasked}
use Rattle.resolver_fetch_scan.specs.declared.scan.Answer.{Answer}
use Rattle.resolver_fetch_scan.specs.declared.scan.Ask.{Ask}
use Rattle.resolver_fetch_scan.specs.declared.trail.Expected.{Expected}
use Rattle.resolver_fetch_scan.specs.declared.trail.Expected.TheVariants.{Mode}
use Rattle.resolver_fetch_scan.specs.Fetcher as fetchers
use Rattle.resolver_fetch_scan.specs.Fetcher.{AsksNewId, Fetcher, unless_over}
use Rattle.resolver_fetch_scan.specs.Scan.{Scan, Turn, begins, goes_on_with, next, question_of, takes, takes_for}
use Rattle.resolver_fetch_scan.specs.Snapshot.{Snapshot}
use Rattle.resolver_fetch_scan.specs.Waiting as waits
use Rattle.resolver_fetch_scan.specs.Waiting.{Waiting}
use Rattle.resolver_fetch_scan.specs.declared.place.Place.{Place}
use Rattle.resolver_model_peer.specs.Parties.{Parties, orders_of}
use Rattle.resolver_model_peer.specs.Peer.{Effect, Machine, asking, is_due, scanned, snapshot, turned, wake_up}
use Rattle.resolver_model_peer.specs.Peer as machines
use Rattle.resolver_model_peer.specs.declared.effects.Effect.{Effect as Told}
use Rattle.resolver_model_peer.specs.declared.effects.Effect.TheVariants as told
use Rattle.resolver_peer_step.specs.declared.parts.Parts.{Parts}
use Rattle.resolver_peer_step.specs.ScanAnswers.{Answered, Turned}
use Rattle.resolver_peer_step.specs.Going.{Went}
use Rattle.resolver_peer_step.specs.Said.{Codec, written}
use Rattle.resolver_peer_step.specs.Tied.{Agrees, fetcher_of}
use Rattle.resolver_peer_step.proofs.Agreeing.{agrees-fetched, like-itself}
use Rattle.resolver_peer_step.proofs.Sent.{IsTurned, open-scan, turned-agrees}
use Rattle.resolver_peer_step.proofs.Snapshots.{snapshot-same, wake-same}
use Rattle.resolver_peer_step.proofs.Turns.{IsFitIfOk, begins-fit, takes-fit}

-- a wake-up that is not later than now
pub due-now : (due now : ℕ) (wakes : Option ℕ) → Some due ≡ wakes → due ≤ now → is_due now wakes ≡ true
due-now due now wakes is early = ap (λ wakes. is_due now wakes) (sym is) ∙ at
  where
    at : nat_le due now ≡ true
    at = grind (arith, nat_tests)

-- no wake-up where no key waits
pub none-wakes : {K P : Type 0} (f : Fetcher K P) → length f.waiting ≡ 0 → fetchers.pending_deadline f ≡ None
none-wakes {K = K} f none = at f.waiting none
  where
    at : (waiting : List (Place × K)) → length waiting ≡ 0 → waits.wake_up (λ w. w.0.due) waiting f.waiter ≡ None
    at [] none = refl
    at (w ∷ ws) none = absurd (omega (arith, none))

module _ {K S P : Type 0} (a : Parties K S P) (o : IsTotalOrder a.key) where
  -- the wake-up of the parts is the machine's
  pub wakes-same : (e : Parts K P S) (m : Machine K S P) → Agrees a e m → fetchers.pending_deadline e.fetcher ≡ wake_up a m
  wakes-same e m is = ap fetchers.pending_deadline is.fetcher ∙ wake-same a o m is.sound.ordered

  -- a scan that goes on with another key, or is over, asks for no request
  begun-new : (f g : Fetcher K P) (s : Snapshot K P) (scan : Scan K P) (w : Option (K × Waiting P))
      → AsksNewId (orders_of a) f (fetchers.asked_by (orders_of a) g (unless_over (goes_on_with (orders_of a) s scan w).scan))
  begun-new f g s scan None = tt
  begun-new f g s scan (Some w) = at (next (orders_of a) (fetchers.snapshot (orders_of a) g) (record scan { expects = Some Mode }))
    where
      at : (v : Option (K × Waiting P)) → AsksNewId (orders_of a) f (question_of (orders_of a) (fetchers.snapshot (orders_of a) g) (record scan { expects = Some Mode }) v (Some Mode))
      at None = tt
      at (Some v) = tt

  taken-over : (s : Snapshot K P) (scan : Scan K P) (w : Option (K × Waiting P)) (answer : Answer) → takes_for (orders_of a) s scan w None answer ≡ Err Unasked
  taken-over s scan None answer = refl
  taken-over s scan (Some w) answer = refl

  -- what an answer makes of the scan
  takes-same : (e : Parts K P S) (m : Machine K S P) → Agrees a e m → (answer : Answer)
      → fetchers.scan_answer (orders_of a) answer e.fetcher ≡ fetchers.scan_taken (orders_of a) (fetcher_of a m) (takes (orders_of a) (snapshot a m) m.scan answer)
  takes-same e m is answer = ap (fetchers.scan_answer (orders_of a) answer) is.fetcher ∙ at m.scan.expects refl
    where
      at : (expects : Option (Expected P)) → m.scan.expects ≡ expects
          → fetchers.scan_answer (orders_of a) answer (fetcher_of a m) ≡ fetchers.scan_taken (orders_of a) (fetcher_of a m) (takes (orders_of a) (snapshot a m) m.scan answer)
      at None over = rw (over, taken-over (snapshot a m) m.scan (next (orders_of a) (snapshot a m) m.scan) answer) refl
      at (Some expected) opens =
          ap (fetchers.answered (orders_of a) (fetcher_of a m) answer) (open-scan a o m.scan expected opens)
          ∙ ap (λ s. fetchers.scan_taken (orders_of a) (fetcher_of a m) (takes (orders_of a) s m.scan answer)) (snapshot-same a o m is.sound.ordered)

  abbrev Word : Type 0
  Word = Result (Unit {0}) Fault

  ok-err : (fault : Fault) (r s : Word) → r ≡ Ok tt → s ≡ Err fault → r ≡ s → ⊥
  ok-err fault r s ok err is = cc

  err-err : (fault other : Fault) (r s : Word) → r ≡ Err fault → s ≡ Err other → r ≡ s → fault ≡ other
  err-err fault other r s left right is = cc

  refused-taken : (fault : Fault) (f g : Fetcher K P) → fetchers.scan_taken (orders_of a) f (Err fault) ≡ (Ok tt, g) → ⊥
  refused-taken fault f g is = ok-err fault (Ok tt) (Err fault) refl refl (sym (ap (λ r. r.0) is))

  refused-in : (taken : Result (Turn K P) Fault) (fault : Fault) (f g : Fetcher K P) → fetchers.scan_taken (orders_of a) f taken ≡ (Err fault, g) → taken ≡ Err fault
  refused-in (Ok t) fault f g is = absurd (ok-err fault (Ok tt) (Err fault) refl refl (ap (λ r. r.0) is))
  refused-in (Err other) fault f g is = ap Err (err-err other fault (Err other) (Err fault) refl refl (ap (λ r. r.0) is))

  taken-in : (taken : Result (Turn K P) Fault) (f : Fetcher K P) → (fetchers.scan_taken (orders_of a) f taken).0 ≡ Ok tt → is_err taken ≡ false
  taken-in (Ok t) f is = refl
  taken-in (Err fault) f is = absurd (ok-err fault (Ok tt) (Err fault) refl refl (sym is))

  module _ (c : Codec K) where
    -- what asking has for effects
    abbrev effects-of : Option (Ask K P) → List (Effect K S P)
    effects-of ask = option_to_list (option_map machines.Ask ask)

    asked-effects : (ask : Option (Ask K P)) → option_to_list (option_map told.Ask ask) ≡ map (written c) (effects-of ask)
    asked-effects None = refl
    asked-effects (Some ask) = refl

    -- a turn of the scan, with what it asks
    turned-went : (f : Parts K P S) (m : Machine K S P) (ask : Option (Ask K P)) (before after : List (Told K P S)) → IsTurned a o f m ask
        → after ≡ before ++ option_to_list (option_map told.Ask ask) → Went a c (Some (asking a m)) before after f
    turned-went f m ask before after is grown = record {
      done = asking a m;
      is = refl;
      told = grown ∙ ap (λ effects. before ++ effects) (asked-effects ask ∙ ap (λ ask. map (written c) (effects-of ask)) is.asks);
      agrees = is.agrees;
    }

    -- a scan that may do nothing so far
    pub not-due : (e : Parts K P S) (m : Machine K S P) (now : ℕ) (before : List (Told K P S)) → Agrees a e m → is_due now (wake_up a m) ≡ false → Went a c (Some (scanned a m now)) before before e
    not-due e m now before is none =
        record { done = machines.quiet m; is = ap (λ b. Some (machines.scanned_if a b m now)) none; told = sym (append-nil before); agrees = is }

    abbrev from : (now : ℕ) → Scan K P
    from now = record { moment = now; trail = []; expects = None }

    -- a scan that begins
    pub begun : (e f : Parts K P S) (m : Machine K S P) (now : ℕ) (ask : Option (Ask K P)) (before after : List (Told K P S)) → Agrees a e m → is_due now (wake_up a m) ≡ true
        → f ≡ record e { fetcher = f.fetcher } → f.fetcher ≡ fetchers.scan_begin (orders_of a) now e.fetcher → ask ≡ fetchers.question (orders_of a) f.fetcher
        → after ≡ before ++ option_to_list (option_map told.Ask ask) → Went a c (Some (scanned a m now)) before after f
    begun e f m now ask before after is due same moved asks grown =
        let t = begins (orders_of a) (snapshot a m) now in
        let here : f.fetcher ≡ fetchers.turned (orders_of a) t (fetcher_of a m) =
        moved ∙ ap (fetchers.scan_begin (orders_of a) now) is.fetcher ∙ ap (λ s. fetchers.turned (orders_of a) (begins (orders_of a) s now) (fetcher_of a m)) (snapshot-same a o m is.sound.ordered) in
        let new = subst (AsksNewId (orders_of a) f.fetcher) (sym (asks ∙ ap (fetchers.question (orders_of a)) here))
        (begun-new f.fetcher (fetchers.turned (orders_of a) t (fetcher_of a m)) (snapshot a m) (from now) (next (orders_of a) (snapshot a m) (from now))) in
        let turned = turned-agrees a o e f m t ask is (begins-fit a m is.sound.ids now) same here asks new in
        subst (λ b. Went a c (Some (machines.scanned_if a b m now)) before after f) (sym due) (turned-went f (machines.turned a m t) ask before after turned grown)

    -- the scan takes the answer, and what it asks then is told, unless memory is wanting
    pub answer-taken : (e f : Parts K P S) (m : Machine K S P) (answer : Answer) (ask : Option (Ask K P)) (before after : List (Told K P S)) → Agrees a e m → f ≡ record e { fetcher = f.fetcher }
        → fetchers.scan_answer (orders_of a) answer e.fetcher ≡ (Ok tt, f.fetcher) → ask ≡ fetchers.question (orders_of a) f.fetcher → AsksNewId (orders_of a) f.fetcher ask
        → (r : Result (Unit {0}) Fault) → OnOk r (after ≡ before ++ option_to_list (option_map told.Ask ask)) → IfErr r (λ fault. fault ≡ OutOfMemory) → Answered a c m answer before after f r
    answer-taken e f m answer ask before after is same moved asks new =
        at (takes (orders_of a) (snapshot a m) m.scan answer) (takes-fit a m is.sound.ids is.sound.new_id answer) (sym (takes-same e m is answer) ∙ moved)
      where
        at : (taken : Result (Turn K P) Fault) → IsFitIfOk a m taken → fetchers.scan_taken (orders_of a) (fetcher_of a m) taken ≡ (Ok tt, f.fetcher)
            → (r : Result (Unit {0}) Fault) → OnOk r (after ≡ before ++ option_to_list (option_map told.Ask ask)) → IfErr r (λ fault. fault ≡ OutOfMemory) → Turned a c m taken before after f r
        at (Err fault) fit took r grown only = absurd (refused-taken fault (fetcher_of a m) f.fetcher took)
        at (Ok t) fit took (Ok _) grown only =
            (t, refl, turned-went f (turned a m t) ask before after (turned-agrees a o e f m t ask is fit same (sym (ap (λ p. p.1) took)) asks new) grown)
        at (Ok t) fit took (Err fault) grown only = subst (λ fault. Turned a c m (Ok t) before after f (Err fault)) (sym only) refl

    -- the scan refuses the answer, or memory is wanting where it would take it
    pub answer-refused : (e f : Parts K P S) (m : Machine K S P) (answer : Answer) (before : List (Told K P S)) → Agrees a e m → f ≡ record e { fetcher = f.fetcher } → f.fetcher ≡ e.fetcher
        → (fault : Fault) → (fault ≢ OutOfMemory → fetchers.scan_answer (orders_of a) answer e.fetcher ≡ (Err fault, e.fetcher))
        → (fault ≡ OutOfMemory → (fetchers.scan_answer (orders_of a) answer e.fetcher).0 ≡ Ok tt) → Answered a c m answer before before f (Err fault)
    answer-refused e f m answer before is same kept fault refused wanting =
        at fault (λ other. refused-in (takes (orders_of a) (snapshot a m) m.scan answer) fault (fetcher_of a m) e.fetcher (sym (takes-same e m is answer) ∙ refused other))
        (λ memory. taken-in (takes (orders_of a) (snapshot a m) m.scan answer) (fetcher_of a m) (ap (λ r. r.0) (sym (takes-same e m is answer)) ∙ wanting memory))
      where
        agrees : Agrees a f m
        agrees = agrees-fetched a e f m m is same (kept ∙ is.fetcher) (like-itself m) is.sound

        at : (fault : Fault) → (fault ≢ OutOfMemory → takes (orders_of a) (snapshot a m) m.scan answer ≡ Err fault) → (fault ≡ OutOfMemory → is_err (takes (orders_of a) (snapshot a m) m.scan answer) ≡ false)
            → Answered a c m answer before before f (Err fault)
        at OutOfMemory refused wanting = wanting refl
        at fault refused wanting = (refused (λ same. cc), refl, agrees)
