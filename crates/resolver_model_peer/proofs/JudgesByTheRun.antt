-- What the peer machine's table of open deliveries means by the account of the run.
use Rattle.std.proofs.Common.{◌≡◌, refl, ap, sym, ◌∙◌, subst, ℕ, eq-eqb, ne_eqb, Bool, true, false, ◌==◌, List, Option, None, Some}
use Rattle.std.specs.Option.{option_map}
use Rattle.std.specs.Map.{lookup}
use Rattle.std.specs.BTreeMap.{is_at}
use Rattle.std.specs.Ordering.{nat_cmp}
use Rattle.std.specs.Cmp.{IsEquivalence, IsTotalOrder}
use Rattle.std.proofs.lemmas.Map.Made.{lookup-map_values}
use Rattle.resolver_types.specs.Names.{same_key, same_subscriber}
use Rattle.resolver_types.specs.Demand.{Pair}
use Rattle.resolver_model.specs.Account.{Account, Handed, Watched}
use Rattle.resolver_model.specs.Standing.{Judgment}
use Rattle.resolver_model.proofs.Bridge.{judgments_are_told}
use Rattle.resolver_model.proofs.Deliveries.{Each-found, Each-lookup}
use Rattle.resolver_model.proofs.Tallies.{Fits, FitsAs, judging_in, was_completed}
use Rattle.resolver_model_peer.specs.Parties.{Parties, names_of}
use Rattle.resolver_model_peer.specs.PeerRows.{Row, Phase, Waits, Asked, Judged}
use Rattle.resolver_model_peer.specs.Peer.{Machine, Open, is_key, row_of}
use Rattle.resolver_model_peer.specs.PeerLaws.{taken}
use Rattle.resolver_model_peer.specs.PeerPoints.{JudgesBy, JudgesByTheRun, handed_in, is_judged_as, is_live, is_live_as, is_watched_live, row_judged_as}
use Rattle.resolver_model_peer.specs.PeerStanding.{held_of, judgment_of, standing_of}
use Rattle.resolver_model_peer.specs.PeerSteps.{Runs}
use Rattle.resolver_model_peer.proofs.PeerDemand.{Stands, open-alike, run-stands}
use Rattle.resolver_model_peer.proofs.PeerKept.{taken-lawful}

number_in : Option Judgment → ℕ
number_in None = 0
number_in (Some j) = j.number

module _ {K P : Type 0} (number response : ℕ) (accepted : Bool) where
  -- a phase in which its key is judged under the number, or isn't
  phase-fits : (live : Bool) (phase : Phase K P) → FitsAs live number response accepted (judgment_of phase) → is_judged_as number phase ≡ live
  unfolding number_in
  phase-fits true (Waits place) fits = cc
  phase-fits true (Asked id request) fits = cc
  phase-fits true (Judged j) fits = eq-eqb number j.number (sym (ap number_in fits))
  phase-fits false (Waits place) fits = refl
  phase-fits false (Asked id request) fits = refl
  phase-fits false (Judged j) fits =
      ne_eqb number j.number (λ is. fits (record { number = j.number; response = j.response; accepted = j.accepted }) refl (sym is))

module _ {K S P : Type 0} (number response : ℕ) (accepted : Bool) where
  row-fits : (live : Bool) (row : Option (Row K S P)) → FitsAs live number response accepted (judging_in (option_map held_of row)) → row_judged_as number row ≡ live
  row-fits true None fits = cc
  row-fits false None fits = refl
  row-fits live (Some row) fits = phase-fits number response accepted live row.phase fits

module _ {K S P : Type 0} (a : Parties K S P) (m : Machine K S P) (c : Account K S (List (K × List (S × ℕ)))) (stands : Stands a m c) where
  live-alike : (number : ℕ) → is_live a m number ≡ is_watched_live (lookup (is_at (nat_cmp number)) c.deliveries)
  live-alike number = at (lookup (λ n. number == n) m.deliveries) (lookup (is_at (nat_cmp number)) c.deliveries) refl (open-alike a m c number stands)
    where
      fits : (w : Watched K S) → lookup (is_at (nat_cmp number)) c.deliveries ≡ Some w → row_judged_as number (row_of a m w.handed.key) ≡ w.live
      fits w found =
          row-fits number w.handed.response (was_completed c.completed w.handed.response) w.live (row_of a m w.handed.key)
          (subst (λ (o : Option (_)). FitsAs w.live number w.handed.response (was_completed c.completed w.handed.response) (judging_in o))
          (lookup-map_values held_of (is_key a w.handed.key) m.rows)
          (Each-lookup (Fits (names_of a) (standing_of m).rows c.completed) number c.deliveries w stands.tallies.fits found))

      at : (h : Option (Open K S P)) (w : Option (Watched K S)) → lookup (is_at (nat_cmp number)) c.deliveries ≡ w → option_map (λ o. o.handed) h ≡ option_map (λ w. w.handed) w
          → is_live_as a m number h ≡ is_watched_live w
      at None None found alike = refl
      at None (Some w) found alike = cc
      at (Some h) None found alike = cc
      at (Some h) (Some w) found alike =
          let same : h.handed ≡ w.handed = cc in
          ap (λ (x : Handed K S). row_judged_as number (row_of a m x.key)) same ∙ fits w found

  -- by an account that judges alike
  judges : (d : Account K S (List (Pair K S))) → c.deliveries ≡ d.deliveries → c.completed ≡ d.completed → JudgesBy a m d
  judges d deliveries completed = record {
    handed = stands.tallies.deliveries ∙ ap handed_in deliveries;
    live = λ number. live-alike number ∙ ap (λ ws. is_watched_live (lookup (is_at (nat_cmp number)) ws)) deliveries;
    accepted = λ number h found.
        Each-found (λ o. o.accepted ≡ was_completed c.completed o.handed.response) (λ n. number == n) m.deliveries h stands.flags found
        ∙ ap (λ done. was_completed done h.handed.response) completed;
  }

module _ {K S P : Type 0} (a : Parties K S P) (keys : IsEquivalence (same_key (names_of a))) (order : IsTotalOrder a.subscriber) (subscribers : IsEquivalence (same_subscriber (names_of a))) where
  pub judges_by_the_run : JudgesByTheRun a
  judges_by_the_run old inputs answers new lawful runs configuration priority_responses opens sound =
      let told = judgments_are_told (names_of a) keys order subscribers (taken inputs answers) (taken-lawful a keys order subscribers inputs answers lawful) in
      judges a new _ (run-stands a keys configuration priority_responses inputs answers new (subst (λ m. Runs a m inputs answers new) opens runs) sound) _ told.0 told.1
