-- A scan in vain wakes later, and leaves every weight.
use Rattle.std.proofs.Common.{◌≡◌, refl, sym, subst, ℕ, ◌+◌, ◌<◌, min, Bool, true, false, List, [], ◌∷◌, Option, None, Some, if◌then◌else◌, arith}
use Rattle.std.proofs.lemmas.Bool.{leb-false}
use Rattle.std.specs.Prelude.{unwrap_or}
use Rattle.resolver_sampling.specs.Times.{never}
use Rattle.resolver_fetch_scan.specs.declared.place.Place.{Place}
use Rattle.resolver_fetch_scan.specs.declared.trail.Reason.{Reason}
use Rattle.resolver_fetch_scan.specs.declared.trail.Reason.TheVariants.{Limited, Refused}
use Rattle.resolver_fetch_scan.specs.declared.trail.Try.{Try}
use Rattle.resolver_fetch_scan.specs.Orders.{Orders}
use Rattle.resolver_fetch_scan.specs.Waiting.{Waiting, wake_up}
use Rattle.resolver_fetch_scan.specs.Snapshot.{Snapshot}
use Rattle.resolver_fetch_scan.specs.Scan.{Scan, Turn, begins, ends, goes_on_with, is_due, least, least_until, limit_of, next, next_due, trail_moment, waiter_of}
use Rattle.resolver_fetch_scan.specs.Fetcher.{Fetcher, pending_deadline, snapshot, turned}
use Rattle.resolver_fetch_scan.specs.FetcherLaws.{AllAre, IsInVain, IsLaterIfAny, IsLaterLimit, WakesLater}
use Rattle.resolver_fetch_scan.proofs.InVain.{goes-on, takes-in-vain}

module _ (now : ℕ) where
  later-least : (a b : Option ℕ) → IsLaterIfAny now a → IsLaterIfAny now b → IsLaterIfAny now (least a b)
  later-least None b first second = second
  later-least (Some m) None first second = first
  later-least (Some m) (Some n) first second = omega (arith, first, second)

  later-limit : (reason : Reason) → IsLaterLimit now reason → IsLaterIfAny now (limit_of reason)
  later-limit (Limited until) later = later
  later-limit Refused later = tt

  later-after : (delay : ℕ) → 0 < delay → (until : Option ℕ) → IsLaterIfAny now until → now < unwrap_or until (now + delay)
  later-after delay waits None later = omega (arith, waits)
  later-after delay waits (Some until) later = later

  later-waiter : now < never → (moment : Option ℕ) → IsLaterIfAny now moment → now < min never (unwrap_or moment never)
  later-waiter fits None later = omega (arith, fits)
  later-waiter fits (Some moment) later = omega (arith, fits, later)

  pub later-wake : {X : Type 0} (due_of : X → ℕ) (ws : List X) (waiter : ℕ) → now < waiter → IsLaterIfAny now (wake_up due_of ws (Some waiter))
  later-wake due_of [] waiter later = tt
  later-wake due_of (w ∷ ws) waiter later = omega (arith, later)

  module _ {K P : Type 0} where
    later-due : (ws : List (K × Waiting P)) → IsLaterIfAny now (next_due now ws)
    later-due [] = tt
    later-due (w ∷ ws) = later-least (if is_due now w then None else Some w.1.place.due) (next_due now ws) (at (is_due now w) refl) (later-due ws) where
      at : (b : Bool) → is_due now w ≡ b → IsLaterIfAny now (if b then None else Some w.1.place.due)
      at true is = tt
      at false is = leb-false w.1.place.due now is

    later-until : (trail : List (Try K P)) → AllAre (λ y. IsLaterLimit now y.reason) trail → IsLaterIfAny now (least_until trail)
    later-until [] limits = tt
    later-until (t ∷ trail) limits = later-least (limit_of t.reason) (least_until trail) (later-limit t.reason limits.0) (later-until trail limits.1)

    later-tried : (delay : ℕ) → 0 < delay → (trail : List (Try K P)) → AllAre (λ y. IsLaterLimit now y.reason) trail → IsLaterIfAny now (trail_moment delay now trail)
    later-tried delay waits [] limits = tt
    later-tried delay waits (t ∷ trail) limits = later-after delay waits (least_until (t ∷ trail)) (later-until (t ∷ trail) limits)

module _ {K P : Type 0} (o : Orders K P) where
  -- of a scan that met no limit at or before its moment
  pub waiter-later : (s : Snapshot K P) → 0 < s.configuration.retry_delay → (scan : Scan K P) → scan.moment < never
      → AllAre (λ y. IsLaterLimit scan.moment y.reason) scan.trail → scan.moment < waiter_of o s scan
  waiter-later s waits scan fits limits =
      let due = later-due scan.moment s.waiting in
      let tried = later-tried scan.moment s.configuration.retry_delay waits scan.trail limits in
      let moment = later-least scan.moment (next_due scan.moment s.waiting) (trail_moment s.configuration.retry_delay scan.moment scan.trail) due tried in
      later-waiter scan.moment fits (least (next_due scan.moment s.waiting) (trail_moment s.configuration.retry_delay scan.moment scan.trail)) moment

  module _ (f : Fetcher K P) (waits : 0 < f.configuration.retry_delay) where
    -- of an end in vain
    abbrev IsLater : Turn K P → Type 0
    IsLater t = t.scan.moment < never → AllAre (λ y. IsLaterLimit t.scan.moment y.reason) t.scan.trail
        → IsLaterIfAny t.scan.moment (pending_deadline (turned o t f))

    ends-later : (scan : Scan K P) → next o (snapshot o f) scan ≡ None → IsLater (ends o (snapshot o f) scan)
    ends-later scan none fits limits =
        later-wake scan.moment (λ (w : Place × K). w.0.due) f.waiting (waiter_of o (snapshot o f) scan) (waiter-later (snapshot o f) waits scan fits limits)

  abbrev opened : (now : ℕ) → Scan K P
  opened now = record { moment = now; trail = []; expects = None }

  begun-moment : (s : Snapshot K P) (now : ℕ) (w : Option (K × Waiting P)) → (goes_on_with o s (opened now) w).scan.moment ≡ now
  begun-moment s now None = refl
  begun-moment s now (Some w) = refl

  begun-trail : (s : Snapshot K P) (now : ℕ) (w : Option (K × Waiting P)) → (goes_on_with o s (opened now) w).scan.trail ≡ []
  begun-trail s now None = refl
  begun-trail s now (Some w) = refl

  begins-later : (f : Fetcher K P) (now : ℕ) (waits : 0 < f.configuration.retry_delay) → now < never → IsInVain o (begins o (snapshot o f) now)
      → IsLaterIfAny now (pending_deadline (turned o (begins o (snapshot o f) now) f))
  begins-later f now waits fits vain =
      let t : Turn K P = begins o (snapshot o f) now in
      let moment : t.scan.moment ≡ now = begun-moment (snapshot o f) now (next o (snapshot o f) (opened now)) in
      let trail : t.scan.trail ≡ [] = begun-trail (snapshot o f) now (next o (snapshot o f) (opened now)) in
      let limits = subst (λ (ts : List (Try K P)). AllAre (λ y. IsLaterLimit t.scan.moment y.reason) ts) (sym trail) tt in
      subst (λ (m : ℕ). IsLaterIfAny m (pending_deadline (turned o t f))) moment
      (goes-on o (snapshot o f) (IsLater f waits) (ends-later f waits) (opened now) vain (subst (λ (m : ℕ). m < never) (sym moment) fits) limits)

  pub wakes_later : WakesLater o
  wakes_later = record {
    at_once = λ f now waits fits. begins-later f now waits fits;
    later = λ f scan answer t e waits fits limits vain. takes-in-vain o (snapshot o f) (IsLater f waits) (ends-later f waits) scan answer t e vain fits limits;
  }
