-- A scan needs no more of its trail than which pairs were tried, and the least limit.
use Rattle.std.proofs.Common.{◌≡◌, refl, subst, ap, ◌∙◌, sym, ℕ, ◌+◌, ◌^◌, Bool, true, false, not, ◌&&◌, ◌||◌, List, [], ◌∷◌, ◌++◌, length, Option, None, Some, Ok, Err, filter, if◌then◌else◌, arith, min}
use Rattle.std.specs.Prelude.{nat_lt, unwrap_or, find, sum}
use Rattle.std.specs.List.{list_any}
use Rattle.resolver_base.specs.declared.check.Check.TheVariants.{Clear, Until}
use Rattle.resolver_base.specs.declared.fault.Fault.TheVariants.{OutOfRange}
use Rattle.resolver_sampling.specs.declared.score.Averages.{Averages}
use Rattle.resolver_fetch_scan.specs.declared.scan.Answer.{Answer}
use Rattle.resolver_fetch_scan.specs.declared.scan.Answer.TheVariants.{Drawn, Checked, Sent}
use Rattle.resolver_fetch_scan.specs.declared.scan.Ask.TheVariants.{Draw}
use Rattle.resolver_fetch_scan.specs.Orders.{Orders, same_key, same_peer}
use Rattle.resolver_sampling.specs.Times.{never}
use Rattle.resolver_fetch_scan.specs.Waiting.{Waiting}
use Rattle.resolver_fetch_scan.specs.Snapshot.{Snapshot, eligible}
use Rattle.resolver_fetch_scan.specs.declared.trail.Expected.{Expected}
use Rattle.resolver_fetch_scan.specs.declared.trail.Expected.TheVariants.{Mode, ByWeight, ByPlace, Checking, FirstId, Sending}
use Rattle.resolver_fetch_scan.specs.declared.trail.Reason.{Reason}
use Rattle.resolver_fetch_scan.specs.declared.trail.Reason.TheVariants.{Limited, Refused}
use Rattle.resolver_fetch_scan.specs.declared.trail.Try.{Try}
use Rattle.resolver_fetch_scan.specs.Scan.{Scan, Turn, next, left, was_tried, is_due, mode_of, weights, by_weight, by_place, takes, takes_for, draws, goes_on_with, goes_on, clears, sends, asks_for, fails, answered, least, least_until, limit_of, trail_moment, next_due, question_of}
use Rattle.resolver_fetch_scan.specs.FetcherLaws.{is_empty, IsLikeTrail, IsLikeTurn, IsLikeResult, NeedsPairs}

least-assoc : (a b c : Option ℕ) → least a (least b c) ≡ least (least a b) c
least-assoc None b c = refl
least-assoc (Some a) None c = refl
least-assoc (Some a) (Some b) None = refl
least-assoc (Some a) (Some b) (Some c) = let e : min a (min b c) ≡ min (min a b) c = omega arith in ap Some e

least-none : (a : Option ℕ) → least a None ≡ a
least-none None = refl
least-none (Some a) = refl

or-assoc : (a b c : Bool) → (a || (b || c)) ≡ ((a || b) || c)
or-assoc true b c = refl
or-assoc false b c = refl

module _ {K P : Type 0} where
  least_until-append : (x : List (Try K P)) (t : Try K P) → least_until (x ++ t ∷ []) ≡ least (least_until x) (limit_of t.reason)
  least_until-append [] t = least-none (limit_of t.reason)
  least_until-append (u ∷ x) t = ap (least (limit_of u.reason)) (least_until-append x t) ∙ least-assoc (limit_of u.reason) (least_until x) (limit_of t.reason)

  empty-append : (x : List (Try K P)) (t : Try K P) → is_empty (x ++ t ∷ []) ≡ false
  empty-append [] t = refl
  empty-append (u ∷ x) t = refl

  pub any-append : (f : Try K P → Bool) (x : List (Try K P)) (t : Try K P) → list_any f (x ++ t ∷ []) ≡ (list_any f x || (f t || false))
  any-append f [] t = refl
  any-append f (u ∷ x) t = ap (λ b. f u || b) (any-append f x t) ∙ or-assoc (f u) (list_any f x) (f t || false)

  moment-like : (delay now : ℕ) (x y : List (Try K P)) → least_until x ≡ least_until y → is_empty x ≡ is_empty y → trail_moment delay now x ≡ trail_moment delay now y
  moment-like delay now [] [] e f = refl
  moment-like delay now [] (t ∷ y) e f = cc
  moment-like delay now (t ∷ x) [] e f = cc
  moment-like delay now (t ∷ x) (u ∷ y) e f = ap (λ l. Some (unwrap_or l (now + delay))) e

module _ {K P : Type 0} (o : Orders K P) where
  like-append : (x y : List (Try K P)) (t : Try K P) → IsLikeTrail o x y → IsLikeTrail o (x ++ t ∷ []) (y ++ t ∷ [])
  like-append x y t like = (
    λ key peer. any-append (λ u. same_key o key u.key && same_peer o peer u.peer) x t
        ∙ ap (λ b. b || ((same_key o key t.key && same_peer o peer t.peer) || false)) (like.0 key peer)
        ∙ sym (any-append (λ u. same_key o key u.key && same_peer o peer u.peer) y t),
    least_until-append x t ∙ ap (λ l. least l (limit_of t.reason)) like.1 ∙ sym (least_until-append y t),
    empty-append x t ∙ sym (empty-append y t),
  )

  -- which pairs were tried, as a function
  abbrev Tried : Type 0
  Tried = K → P → Bool

  tried-like : (x y : List (Try K P)) → IsLikeTrail o x y → ◌≡◌ {A = Tried} (was_tried o x) (was_tried o y)
  tried-like x y like = λ i key peer. like.0 key peer i

  left-like : (s : Snapshot K P) (x y : List (Try K P)) (w : K × Waiting P) → IsLikeTrail o x y → left o s x w ≡ left o s y w
  left-like s x y w like = ap (λ tried. filter (λ p. not (tried w.0 p.0)) (eligible o s w.1.targets)) (tried-like x y like)

  next-like : (s : Snapshot K P) (scan : Scan K P) (y : List (Try K P)) → IsLikeTrail o scan.trail y → next o s scan ≡ next o s (record scan { trail = y })
  next-like s scan y like =
      ap (λ tried. find (λ w. is_due scan.moment w && nat_lt 0 (length (filter (λ p. not (tried w.0 p.0)) (eligible o s w.1.targets)))) s.waiting) (tried-like scan.trail y like)

  question-like : (s : Snapshot K P) (scan : Scan K P) (y : List (Try K P)) → IsLikeTrail o scan.trail y
      → (w : Option (K × Waiting P)) (expected : Option (Expected P)) → question_of o s scan w expected ≡ question_of o s (record scan { trail = y }) w expected
  question-like s scan y like None expected = refl
  question-like s scan y like (Some w) None = refl
  question-like s scan y like (Some w) (Some Mode) = refl
  question-like s scan y like (Some w) (Some ByWeight) = ap (λ ps. Some (Draw (sum (weights ps)))) (left-like s scan.trail y w like)
  question-like s scan y like (Some w) (Some ByPlace) = ap (λ ps. Some (Draw (length ps))) (left-like s scan.trail y w like)
  question-like s scan y like (Some w) (Some (Checking peer)) = refl
  question-like s scan y like (Some w) (Some (FirstId peer)) = refl
  question-like s scan y like (Some w) (Some (Sending peer id)) = refl

  goes-like : (s : Snapshot K P) (scan : Scan K P) (y : List (Try K P)) → IsLikeTrail o scan.trail y
      → (w : Option (K × Waiting P)) → IsLikeTurn o (goes_on_with o s scan w) (goes_on_with o s (record scan { trail = y }) w)
  goes-like s scan y like None =
      (refl, refl, like, refl, ap (λ l. Some (min never (unwrap_or (least (next_due scan.moment s.waiting) l) never))) (moment-like s.configuration.retry_delay scan.moment scan.trail y like.1 like.2), refl)
  goes-like s scan y like (Some w) = (refl, refl, like, refl, refl, refl)

  goes_on-like : (s : Snapshot K P) (scan : Scan K P) (y : List (Try K P)) → IsLikeTrail o scan.trail y
      → IsLikeTurn o (goes_on o s scan) (goes_on o s (record scan { trail = y }))
  goes_on-like s scan y like =
      let Q : Option (K × Waiting P) → Type 0 = λ w. IsLikeTurn o (goes_on o s scan) (goes_on_with o s (record scan { trail = y }) w) in
      subst Q (next-like s scan y like) (goes-like s scan y like (next o s scan))

  fails-like : (s : Snapshot K P) (scan : Scan K P) (y : List (Try K P)) → IsLikeTrail o scan.trail y → (key : K) (peer : P) (reason : Reason)
      → IsLikeTurn o (fails o s scan key peer reason) (fails o s (record scan { trail = y }) key peer reason)
  fails-like s scan y like key peer reason =
      let t : Try K P = record { key = key; peer = peer; reason = reason } in
      goes_on-like s (record scan { trail = scan.trail ++ t ∷ [] }) (y ++ t ∷ []) (like-append scan.trail y t like)

  draws-like : (s : Snapshot K P) (scan : Scan K P) (y : List (Try K P)) → IsLikeTrail o scan.trail y → (peer : Option P)
      → IsLikeResult o (draws o s scan peer) (draws o s (record scan { trail = y }) peer)
  draws-like s scan y like None = refl
  draws-like s scan y like (Some peer) = (refl, refl, like, refl, refl, refl)

  if-like : (b : Bool) (t u : Turn K P) → IsLikeTurn o t u → IsLikeResult o (if b then Ok t else Err OutOfRange) (if b then Ok u else Err OutOfRange)
  if-like true t u like = like
  if-like false t u like = refl

  clears-like : (s : Snapshot K P) (scan : Scan K P) (y : List (Try K P)) → IsLikeTrail o scan.trail y → (peer : P) (last : Option ℕ)
      → IsLikeTurn o (clears o s scan peer last) (clears o s (record scan { trail = y }) peer last)
  clears-like s scan y like peer None = (refl, refl, like, refl, refl, refl)
  clears-like s scan y like peer (Some last) = (refl, refl, like, refl, refl, refl)

  answered-like : (s : Snapshot K P) (scan : Scan K P) (y : List (Try K P)) → IsLikeTrail o scan.trail y → (w : K × Waiting P) (expected : Expected P) (answer : Answer)
      → IsLikeResult o (answered o s scan w expected answer) (answered o s (record scan { trail = y }) w expected answer)
  answered-like s scan y like w Mode (Drawn n) =
      if-like (nat_lt n (w.1.retries + 4)) (asks_for o s scan (mode_of n)) (asks_for o s (record scan { trail = y }) (mode_of n)) (refl, refl, like, refl, refl, refl)
  answered-like s scan y like w Mode (Checked check) = refl
  answered-like s scan y like w Mode (Sent accepted) = refl
  answered-like s scan y like w ByWeight (Drawn n) =
      let Q : List (P × Averages) → Type 0 = λ ps. IsLikeResult o (answered o s scan w ByWeight (Drawn n)) (draws o s (record scan { trail = y }) (by_weight ps n)) in
      subst Q (left-like s scan.trail y w like) (draws-like s scan y like (by_weight (left o s scan.trail w) n))
  answered-like s scan y like w ByWeight (Checked check) = refl
  answered-like s scan y like w ByWeight (Sent accepted) = refl
  answered-like s scan y like w ByPlace (Drawn n) =
      let Q : List (P × Averages) → Type 0 = λ ps. IsLikeResult o (answered o s scan w ByPlace (Drawn n)) (draws o s (record scan { trail = y }) (by_place ps n)) in
      subst Q (left-like s scan.trail y w like) (draws-like s scan y like (by_place (left o s scan.trail w) n))
  answered-like s scan y like w ByPlace (Checked check) = refl
  answered-like s scan y like w ByPlace (Sent accepted) = refl
  answered-like s scan y like w (Checking peer) (Drawn n) = refl
  answered-like s scan y like w (Checking peer) (Checked Clear) = clears-like s scan y like peer s.last_id
  answered-like s scan y like w (Checking peer) (Checked (Until moment)) = fails-like s scan y like w.0 peer (Limited moment)
  answered-like s scan y like w (Checking peer) (Sent accepted) = refl
  answered-like s scan y like w (FirstId peer) (Drawn n) = if-like (nat_lt n (2 ^ 64)) (sends o s scan peer n) (sends o s (record scan { trail = y }) peer n) (refl, refl, like, refl, refl, refl)
  answered-like s scan y like w (FirstId peer) (Checked check) = refl
  answered-like s scan y like w (FirstId peer) (Sent accepted) = refl
  answered-like s scan y like w (Sending peer id) (Drawn n) = refl
  answered-like s scan y like w (Sending peer id) (Checked check) = refl
  answered-like s scan y like w (Sending peer id) (Sent true) = (refl, refl, like, refl, refl, refl)
  answered-like s scan y like w (Sending peer id) (Sent false) = fails-like s scan y like w.0 peer Refused

  takes-like : (s : Snapshot K P) (scan : Scan K P) (y : List (Try K P)) → IsLikeTrail o scan.trail y → (w : Option (K × Waiting P)) (expected : Option (Expected P)) (answer : Answer)
      → IsLikeResult o (takes_for o s scan w expected answer) (takes_for o s (record scan { trail = y }) w expected answer)
  takes-like s scan y like None expected answer = refl
  takes-like s scan y like (Some w) None answer = refl
  takes-like s scan y like (Some w) (Some expected) answer = answered-like s scan y like w expected answer

  pub needs_pairs : NeedsPairs o
  needs_pairs s scan y like = (
    question-like s scan y like (next o s scan) scan.expects ∙ ap (λ w. question_of o s (record scan { trail = y }) w scan.expects) (next-like s scan y like),
    λ answer.
        let Q : Option (K × Waiting P) → Type 0 = λ w. IsLikeResult o (takes o s scan answer) (takes_for o s (record scan { trail = y }) w scan.expects answer) in
        subst Q (next-like s scan y like) (takes-like s scan y like (next o s scan) scan.expects answer),
  )
