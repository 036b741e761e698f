-- What a scan does next.
use Rattle.std.proofs.Common.{◌≡◌, refl, ap, ◌∙◌, ℕ, List, Option, None, Some, option_map}
use Rattle.std.specs.Prelude.{min, unwrap_or}
use Rattle.resolver_fetch_scan.specs.declared.trail.Expected.TheVariants.{Mode}
use Rattle.resolver_fetch_scan.specs.declared.trail.Try.{Try}
use Rattle.resolver_fetch_scan.specs.declared.trying.Next.TheVariants.{Try as Tries, Wait}
use Rattle.resolver_sampling.specs.Times.{never}
use Rattle.resolver_fetch_scan.specs.Fetcher.{Fetcher, snapshot, turned}
use Rattle.resolver_fetch_scan.specs.Orders.{Orders}
use Rattle.resolver_fetch_waiting.specs.Pending.{waits_until}
use Rattle.resolver_fetch_scan.specs.Scan.{goes_on_with, least, next}
use Rattle.resolver_fetch.specs.Seeking.{next_for, next_of, scan_at, tried_again, tried_next}
use Rattle.resolver_fetch.specs.Stepping.{after_all}
use Rattle.resolver_fetch_scan.specs.Trying.{Trying, trying_for}
use Rattle.resolver_fetch_scan.specs.Waiting.{Waiting}
use Rattle.resolver_fetch.proofs.Dues.{next-due}

module _ {K P : Type 0} (o : Orders K P) (f : Fetcher K P) (moment : ℕ) (trail : List (Try K P)) where
  for-try : (t : Trying K P) (w : Option ℕ) (found : Option (Trying K P)) → next_for o found w ≡ Tries t → found ≡ Some t
  for-try t w None is = absurd cc
  for-try t w (Some u) is = cc

  -- it tries what is tried next
  pub next-tries : (t : Trying K P) → next_of o f moment trail ≡ Tries t → tried_next o f moment trail ≡ Some t
  next-tries t is = for-try t _ (tried_next o f moment trail) is

  -- what is tried next it tries
  pub tries-next : (t : Trying K P) → tried_next o f moment trail ≡ Some t → next_of o f moment trail ≡ Tries t
  tries-next t is = ap (λ found. next_for o found (tried_again o f (scan_at moment trail))) is

  tries-for : (t : Trying K P) (found : Option (K × Waiting P)) → option_map (trying_for o (snapshot o f) trail) found ≡ Some t
      → turned o (goes_on_with o (snapshot o f) (scan_at moment trail) found) f ≡ record f { scan = Some (record { moment = moment; trail = trail; expects = Some Mode }); waiter = None }
  tries-for t None is = absurd cc
  tries-for t (Some w) is = refl

  -- a scan that tries something is open, and expects how the peer is drawn
  pub tries-after : (t : Trying K P) → next_of o f moment trail ≡ Tries t
      → after_all o moment trail f ≡ record f { scan = Some (record { moment = moment; trail = trail; expects = Some Mode }); waiter = None }
  tries-after t is = tries-for t (next o (snapshot o f) (scan_at moment trail)) (next-tries t is)

  ends-for : (found : Option (K × Waiting P)) (w : Option ℕ) → next_for o (option_map (trying_for o (snapshot o f) trail) found) (tried_again o f (scan_at moment trail)) ≡ Wait w
      → turned o (goes_on_with o (snapshot o f) (scan_at moment trail) found) f ≡ record f { scan = None; waiter = Some (waits_until moment w f.waiting) }
  ends-for (Some x) w is = absurd cc
  ends-for None w is =
      let again : tried_again o f (scan_at moment trail) ≡ w = cc in
      ap (λ due. record f { scan = None; waiter = Some (min never (unwrap_or (least due (tried_again o f (scan_at moment trail))) never)) }) (next-due o f moment f.waiting)
      ∙ ap (λ other. record f { scan = None; waiter = Some (waits_until moment other f.waiting) }) again

  -- a scan that waits is over, and the waiter is when a key becomes due, or when what was tried may be tried again
  pub waits-after : (w : Option ℕ) → next_of o f moment trail ≡ Wait w → after_all o moment trail f ≡ record f { scan = None; waiter = Some (waits_until moment w f.waiting) }
  waits-after w is = ends-for (next o (snapshot o f) (scan_at moment trail)) w is
