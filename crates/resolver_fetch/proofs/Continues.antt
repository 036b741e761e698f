-- A scan goes on with the key that it tries, where it has a peer left.
use Rattle.std.proofs.Common.{◌≡◌, refl, ap, ◌∙◌, sym, ℕ, ◌<◌, Bool, true, false, not, ◌&&◌, ◌||◌, List, [], ◌∷◌, ◌++◌, length, filter, Option, Some, option_map, cond, arith}
use Rattle.std.proofs.lemmas.Bool.{lt-ltb, le-ltb, ltb-false}
use Rattle.std.proofs.lemmas.Cmp.{tied_itself}
use Rattle.std.proofs.lemmas.Grind.{common_steps}
use Rattle.std.proofs.lemmas.List.{length-map}
use Rattle.std.specs.Cmp.{IsTotalOrder}
use Rattle.std.specs.Ordering.{is_eq}
use Rattle.std.specs.Prelude.{find, nat_lt}
use Rattle.resolver_sampling.specs.declared.score.Averages.{Averages}
use Rattle.resolver_fetch_scan.specs.declared.trail.Try.{Try}
use Rattle.resolver_fetch_scan.specs.Orders.{Orders, same_key, same_peer}
use Rattle.resolver_sampling.specs.Scores.{weight_of}
use Rattle.resolver_fetch.specs.Seeking.{scan_at}
use Rattle.resolver_fetch_scan.specs.Snapshot.{Snapshot, eligible}
use Rattle.resolver_fetch_scan.specs.Scan.{can_be_tried, is_due, left, was_tried}
use Rattle.resolver_fetch_scan.specs.Trying.{Trying, apart_from, trying, trying_for, weighed}
use Rattle.resolver_fetch_scan.specs.Waiting.{Waiting}
use Rattle.resolver_fetch_scan.proofs.NeedsPairs.{any-append}
use Rattle.resolver_fetch.proofs.Seeking.{weighed-filter}

-- Who passes two tests passes the one and then the other.
filter-twice : {X : Type 0} (whole first second : X → Bool) (xs : List X) → ((x : X) → whole x ≡ (first x || (second x || false)))
    → filter (λ x. not (whole x)) xs ≡ filter (λ x. not (second x)) (filter (λ x. not (first x)) xs)
filter-twice whole first second [] both = refl
filter-twice whole first second (x ∷ xs) both =
    let rest = filter-twice whole first second xs both in
    let here = both x in
    grind (arith, common_steps, rest, here)

module _ {K P : Type 0} (o : Orders K P) (s : Snapshot K P) (moment : ℕ) (trail : List (Try K P)) (t : Try K P) where
  -- who is left for a key, once a try more is noted
  pub left-after : (w : K × Waiting P) → left o s (trail ++ t ∷ []) w ≡ filter (λ p. not (same_key o w.0 t.key && same_peer o p.0 t.peer)) (left o s trail w)
  left-after w =
      filter-twice (λ p. was_tried o (trail ++ t ∷ []) w.0 p.0) (λ p. was_tried o trail w.0 p.0) (λ p. same_key o w.0 t.key && same_peer o p.0 t.peer) (eligible o s w.1.targets)
      (λ p. any-append (λ u. same_key o w.0 u.key && same_peer o p.0 u.peer) trail t)

  -- for the key itself, all but the peer
  pub left-same : (w : K × Waiting P) → same_key o w.0 t.key ≡ true → weighed (left o s (trail ++ t ∷ []) w) ≡ apart_from o.peer t.peer (weighed (left o s trail w))
  left-same w same =
      let after = left-after w in
      rw (after, same) (sym (weighed-filter (λ p. not (is_eq (o.peer p t.peer))) (left o s trail w)))

  none-left : (w : K × Waiting P) → length (left o s trail w) ≡ 0 → length (left o s (trail ++ t ∷ []) w) ≡ 0
  none-left w none = rw (left-after w) (empty (left o s trail w) none) where
    empty : (ps : List (P × Averages)) → length ps ≡ 0 → length (filter (λ p. not (same_key o w.0 t.key && same_peer o p.0 t.peer)) ps) ≡ 0
    empty [] none = refl
    empty (p ∷ ps) none = absurd (omega (arith, none))

  -- a key that could not be tried can't be after a try more
  pub never-again : (w : K × Waiting P) (due : Bool) → (due && nat_lt 0 (length (left o s trail w))) ≡ false → (due && nat_lt 0 (length (left o s (trail ++ t ∷ []) w))) ≡ false
  never-again w false before = refl
  never-again w true before = le-ltb 0 _ (omega (arith, none-left w (omega (arith, ltb-false 0 _ before))))

  some-same : {X : Type 0} (x y : X) → Some x ≡ Some y → x ≡ y
  some-same x y e = cc

  abbrev Tried : Trying K P → Option (K × Waiting P) → Type 0
  Tried now found = option_map (trying_for o s (trail ++ t ∷ [])) found ≡ Some (record now { left = apart_from o.peer t.peer now.left })

  module _ (total : IsTotalOrder o.key) (now : Trying K P) (is_key : t.key ≡ now.key) (some : 0 < length (apart_from o.peer t.peer now.left)) where
    found-here : (w : K × Waiting P) (ws : List (K × Waiting P)) → is_due moment w ≡ true → trying_for o s trail w ≡ now
        → Tried now (find (can_be_tried o s (scan_at moment (trail ++ t ∷ []))) (w ∷ ws))
    found-here w ws due is =
        let key : w.0 ≡ t.key = ap (λ (n : Trying K P). n.key) is ∙ sym is_key in
        let same : same_key o w.0 t.key ≡ true = rw key (ap is_eq (tied_itself total t.key)) in
        let kept : weighed (left o s (trail ++ t ∷ []) w) ≡ apart_from o.peer t.peer now.left = left-same w same ∙ ap (λ (n : Trying K P). apart_from o.peer t.peer n.left) is in
        let many : length (weighed (left o s (trail ++ t ∷ []) w)) ≡ length (left o s (trail ++ t ∷ []) w) = length-map (left o s (trail ++ t ∷ []) w) (λ p. (p.0, weight_of p.1)) in
        let count : length (weighed (left o s (trail ++ t ∷ []) w)) ≡ length (apart_from o.peer t.peer now.left) = ap length kept in
        let yes : nat_lt 0 (length (left o s (trail ++ t ∷ []) w)) ≡ true = lt-ltb 0 _ (omega (arith, many, count, some)) in
        rw (due, yes) (ap Some (ap (λ ps. record (trying_for o s trail w) { left = ps }) kept ∙ ap (λ (n : Trying K P). record n { left = apart_from o.peer t.peer now.left }) is))

    continues : (ws : List (K × Waiting P)) → option_map (trying_for o s trail) (find (can_be_tried o s (scan_at moment trail)) ws) ≡ Some now
        → Tried now (find (can_be_tried o s (scan_at moment (trail ++ t ∷ []))) ws)
    continues [] is = cc
    continues (w ∷ ws) is = at (is_due moment w) (nat_lt 0 (length (left o s trail w))) refl refl is (continues ws) where
      at : (due some_left : Bool) → is_due moment w ≡ due → nat_lt 0 (length (left o s trail w)) ≡ some_left
          → option_map (trying_for o s trail) (cond (due && some_left) (Some w) (find (can_be_tried o s (scan_at moment trail)) ws)) ≡ Some now
          → (option_map (trying_for o s trail) (find (can_be_tried o s (scan_at moment trail)) ws) ≡ Some now → Tried now (find (can_be_tried o s (scan_at moment (trail ++ t ∷ []))) ws))
          → Tried now (find (can_be_tried o s (scan_at moment (trail ++ t ∷ []))) (w ∷ ws))
      at true true is_due_now is_left is rest = found-here w ws is_due_now (some-same _ _ is)
      at true false is_due_now is_left is rest = rw (never-again w (is_due moment w) (rw (is_left, is_due_now) refl)) (rest is)
      at false some_left is_due_now is_left is rest = rw (never-again w (is_due moment w) (rw is_due_now refl)) (rest is)

    -- the scan goes on with its key, and the peers that are left
    pub goes-on-with-key : trying o s (scan_at moment trail) ≡ Some now → trying o s (scan_at moment (trail ++ t ∷ [])) ≡ Some (record now { left = apart_from o.peer t.peer now.left })
    goes-on-with-key is = continues s.waiting is
