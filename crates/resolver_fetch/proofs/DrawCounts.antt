-- Of the numbers that a scan asks for, as many as is right choose each peer left.
use Rattle.std.proofs.Common.{◌≡◌, refl, sym, ap, ◌∙◌, inl, inr, ℕ, zero, suc, ◌+◌, ◌<◌, Bool, true, false, ◌==◌, List, [], ◌∷◌, length, Option, None, Some, slice_index, if◌then◌else◌, subst, arith}
use Rattle.std.specs.Prelude.{not, sum}
use Rattle.std.specs.Cmp.{IsEquivalence}
use Rattle.std.specs.List.{AllByRecursion, IsDistinct}
use Rattle.std.specs.Map.{keys_of}
use Rattle.std.specs.Ordering.{eq_by_cmp}
use Rattle.std.proofs.lemmas.Bool.{cases_eq, eq-eqb, lt-ltb, ne_eqb}
use Rattle.std.proofs.lemmas.List.{length-map}
use Rattle.std.proofs.lemmas.Map.Keys.{IsDistinct-head, IsDistinct-tail}
use Rattle.std.proofs.lemmas.Map.Made.{IsDistinct-keys_filter}
use Rattle.resolver_sampling.specs.declared.score.Averages.{Averages}
use Rattle.resolver_sampling.specs.Choice.{chosen, count_below}
use Rattle.resolver_sampling.specs.Modes.{means_weighted}
use Rattle.resolver_sampling.specs.Scores.{weight_of}
use Rattle.resolver_sampling.proofs.ChoiceCounts.{chooses_by_weight}
use Rattle.resolver_sampling.proofs.Modes.{four_mean_weighted}
use Rattle.resolver_sampling.proofs.Counts.{count_from-same, count_from-one}
use Rattle.resolver_fetch_scan.specs.declared.scan.Answer.TheVariants.{Drawn}
use Rattle.resolver_fetch_scan.specs.declared.trail.Expected.TheVariants.{Mode, ByWeight, ByPlace}
use Rattle.resolver_fetch_scan.specs.declared.trail.Try.{Try}
use Rattle.resolver_fetch_scan.specs.Orders.{Orders}
use Rattle.resolver_fetch_scan.specs.Waiting.{Waiting}
use Rattle.resolver_fetch_scan.specs.Known.{is_eligible}
use Rattle.resolver_fetch_scan.specs.Snapshot.{Snapshot, eligible, known}
use Rattle.resolver_fetch_scan.specs.Scan.{Scan, weights, by_place, by_weight, left, was_tried, draws, answered}
use Rattle.resolver_fetch_scan.specs.FetcherLaws.{IsAmong, DrawCounts, leads_to, is_weighted, is_check}

eqb-suc : (m n : ℕ) → (suc m == suc n) ≡ (m == n)
eqb-suc m n =
    elim (cases_eq m n) [
      | inl same ↦ eq-eqb (suc m) (suc n) (omega (arith, same)) ∙ sym (eq-eqb m n same)
      | inr apart ↦ ne_eqb (suc m) (suc n) (λ e. apart (omega (arith, e))) ∙ sym (ne_eqb m n apart)
    ]

module _ {P : Type 0} (same : P → P → Bool) where
  -- whether this peer was drawn
  abbrev pub is_drawn : P → Option P → Bool
  is_drawn peer None = false
  is_drawn peer (Some other) = same peer other

  -- where a peer stands: at this place, and at no other
  record Stands (p : P × Averages) (ps : List (P × Averages)) : Type 0 where
    place : ℕ
    within : place < length ps
    weight : slice_index (weights ps) place ≡ weight_of p.1
    alone : (n : ℕ) → is_drawn p.0 (by_place ps n) ≡ (n == place)

module _ {P : Type 0} {same : P → P → Bool} (equal : IsEquivalence same) where
  -- a peer is not drawn from others
  none-drawn : (peer : P) (ps : List (P × Averages)) → AllByRecursion (λ other. same peer other ≡ false) (keys_of ps)
      → (n : ℕ) → is_drawn same peer (by_place ps n) ≡ false
  none-drawn peer [] all n = refl
  none-drawn peer (q ∷ ps) all zero = all.0
  none-drawn peer (q ∷ ps) all (suc n) = none-drawn peer ps all.1 n

  -- one of the others is not the peer
  other-apart : (peer : P) (p : P × Averages) (ps : List (P × Averages)) → AllByRecursion (λ other. same peer other ≡ false) (keys_of ps)
      → IsAmong p ps → same peer p.0 ≡ false
  other-apart peer p [] all among = absurd among
  other-apart peer p (q ∷ ps) all (inl is) = ap (λ (x : P × Averages). same peer x.0) is ∙ all.0
  other-apart peer p (q ∷ ps) all (inr later) = other-apart peer p ps all.1 later

  stands : (p : P × Averages) (ps : List (P × Averages)) → IsDistinct same (keys_of ps) → IsAmong p ps → Stands same p ps
  stands p [] distinct among = absurd among
  stands p (q ∷ ps) distinct (inl is) = record {
    place = 0;
    within = omega arith;
    weight = ap (λ (x : P × Averages). weight_of x.1) (sym is);
    alone = at;
  } where
    others : AllByRecursion (λ other. same p.0 other ≡ false) (keys_of ps)
    others = subst (λ (x : P × Averages). AllByRecursion (λ other. same x.0 other ≡ false) (keys_of ps)) (sym is) (IsDistinct-head same q.0 (keys_of ps) distinct)

    at : (n : ℕ) → is_drawn same p.0 (by_place (q ∷ ps) n) ≡ (n == 0)
    at zero = ap (λ (x : P × Averages). same p.0 x.0) (sym is) ∙ equal.refl p.0
    at (suc n) = none-drawn p.0 ps others n ∙ sym (ne_eqb (suc n) 0 (λ e. omega (arith, e)))
  stands p (q ∷ ps) distinct (inr later) = behind (stands p ps (IsDistinct-tail same q.0 (keys_of ps) distinct) later) where
    behind : Stands same p ps → Stands same p (q ∷ ps)
    behind rest = record {
      place = suc rest.place;
      within = omega (arith, rest.within);
      weight = rest.weight;
      alone = at;
    } where
      at : (n : ℕ) → is_drawn same p.0 (by_place (q ∷ ps) n) ≡ (n == suc rest.place)
      at zero =
          equal.symm p.0 q.0 ∙ other-apart q.0 p ps (IsDistinct-head same q.0 (keys_of ps) distinct) later
          ∙ sym (ne_eqb 0 (suc rest.place) (λ e. omega (arith, e)))
      at (suc n) = rest.alone n ∙ sym (eqb-suc n rest.place)

module _ {P : Type 0} {same : P → P → Bool} (equal : IsEquivalence same) (p : P × Averages) (ps : List (P × Averages))
    (distinct : IsDistinct same (keys_of ps)) (among : IsAmong p ps) where
  one-by-place : count_below (length ps) (λ n. is_drawn same p.0 (by_place ps n)) ≡ 1
  one-by-place =
      let stand : Stands same p ps = stands equal p ps distinct among in
      count_from-same 0 (length ps) (λ n. is_drawn same p.0 (by_place ps n)) (λ n. n == stand.place) (λ n _ _. stand.alone n)
      ∙ count_from-one 0 (length ps) stand.place (omega arith) (omega (arith, stand.within))

  as-many-by-weight : count_below (sum (weights ps)) (λ n. is_drawn same p.0 (by_weight ps n)) ≡ weight_of p.1
  as-many-by-weight =
      let stand : Stands same p ps = stands equal p ps distinct among in
      let many : length (weights ps) ≡ length ps = length-map ps (λ q. weight_of q.1) in
      count_from-same 0 (sum (weights ps)) (λ n. is_drawn same p.0 (by_weight ps n)) (λ n. chosen (weights ps) n == stand.place)
      (λ n _ below. rw (lt-ltb n (sum (weights ps)) (omega (arith, below))) (stand.alone (chosen (weights ps) n)))
      ∙ chooses_by_weight (weights ps) stand.place (omega (arith, many, stand.within)) ∙ stand.weight

module _ {K P : Type 0} (o : Orders K P) (s : Snapshot K P) where
  -- an answer leads to the word on the peer that it draws
  drawn : (scan : Scan K P) (peer : P) (found : Option P) → leads_to (is_check o peer) (draws o s scan found) ≡ is_drawn (eq_by_cmp o.peer) peer found
  drawn scan peer None = refl
  drawn scan peer (Some other) = refl

  way : (b : Bool) → is_weighted {P = P} (Some (if b then ByWeight else ByPlace)) ≡ b
  way true = refl
  way false = refl

  mode : (scan : Scan K P) (w : K × Waiting P) → count_below (w.1.retries + 4) (λ n. leads_to is_weighted (answered o s scan w Mode (Drawn n))) ≡ 4
  mode scan w =
      count_from-same 0 (w.1.retries + 4) (λ n. leads_to is_weighted (answered o s scan w Mode (Drawn n))) means_weighted
      (λ n _ below. rw (lt-ltb n (w.1.retries + 4) (omega (arith, below))) (way (means_weighted n)))
      ∙ four_mean_weighted w.1.retries

  module _ (equal : IsEquivalence (eq_by_cmp o.peer)) (distinct : IsDistinct (eq_by_cmp o.peer) (keys_of s.peers)) where
    left-distinct : (trail : List (Try K P)) (w : K × Waiting P) → IsDistinct (eq_by_cmp o.peer) (keys_of (left o s trail w))
    left-distinct trail w =
        IsDistinct-keys_filter (eq_by_cmp o.peer) (λ p. not (was_tried o trail w.0 p.0)) (eligible o s w.1.targets)
        (IsDistinct-keys_filter (eq_by_cmp o.peer) (λ p. is_eligible o.peer (known o s) w.1.targets p.0) s.peers distinct)

    pub draw_counts : DrawCounts o s
    draw_counts = record {
      mode = mode;
      weighted = λ scan w p among.
          let ps : List (P × Averages) = left o s scan.trail w in
          count_from-same 0 (sum (weights ps)) (λ n. leads_to (is_check o p.0) (answered o s scan w ByWeight (Drawn n))) (λ n. is_drawn (eq_by_cmp o.peer) p.0 (by_weight ps n))
          (λ n _ _. drawn scan p.0 (by_weight ps n))
          ∙ as-many-by-weight equal p ps (left-distinct scan.trail w) among;
      uniform = λ scan w p among.
          let ps : List (P × Averages) = left o s scan.trail w in
          count_from-same 0 (length ps) (λ n. leads_to (is_check o p.0) (answered o s scan w ByPlace (Drawn n))) (λ n. is_drawn (eq_by_cmp o.peer) p.0 (by_place ps n))
          (λ n _ _. drawn scan p.0 (by_place ps n))
          ∙ one-by-place equal p ps (left-distinct scan.trail w) among;
    }
