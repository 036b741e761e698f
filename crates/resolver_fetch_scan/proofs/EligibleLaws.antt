-- Exactly the peers of the set that may be asked are eligible.
use Rattle.std.proofs.Common.{◌≡◌, refl, sym, ap, ◌∙◌, inl, inr, ℕ, ◌<◌, Bool, true, false, not, ◌&&◌, cond, List, [], ◌∷◌, Option, None, Some, option_map, filter, arith}
use Rattle.std.proofs.lemmas.Bool.{leb-false}
use Rattle.std.proofs.lemmas.Bool.Decides.{nat_tests}
use Rattle.std.proofs.lemmas.Grind.{common_steps}
use Rattle.std.specs.NonZero.{non_zero_u32_get}
use Rattle.std.specs.Prelude.{nat_le}
use Rattle.resolver_sampling.specs.declared.score.Averages.{Averages}
use Rattle.resolver_fetch_requests.specs.Loads.{is_full, load_of}
use Rattle.resolver_fetch_requests.specs.Requests.{requests_to}
use Rattle.resolver_fetch_scan.specs.EligibleLaws.{EligibleMeans, MayBeAsked}
use Rattle.resolver_fetch_scan.specs.FetcherLaws.{IsAmong}
use Rattle.resolver_fetch_scan.specs.Known.{is_eligible, is_local, is_target}
use Rattle.resolver_fetch_scan.specs.Orders.{Orders, is_one_of}
use Rattle.resolver_fetch_scan.specs.Snapshot.{Snapshot, eligible, known}
use Rattle.resolver_fetch_scan.proofs.OneOf.{among-filter, tested}

-- whatever passes a filter is left by it
among-kept : {X : Type 0} (test : X → Bool) (x : X) (xs : List X) → test x ≡ true → IsAmong x xs → IsAmong x (filter test xs)
among-kept test x [] is i = absurd i
among-kept test x (y ∷ ys) is i = at (test y) refl i (among-kept test x ys is) where
  at : (b : Bool) → test y ≡ b → IsAmong x (y ∷ ys) → (IsAmong x ys → IsAmong x (filter test ys)) → IsAmong x (cond b (y ∷ filter test ys) (filter test ys))
  at true there (inl e) rest = inl e
  at true there (inr j) rest = inr (rest j)
  at false there (inl e) rest = let clash : true ≡ false = sym is ∙ ap test e ∙ there in absurd cc
  at false there (inr j) rest = rest j

none-of : (a b c d : Bool) → ((not a && not b && not c) && d) ≡ true → (a ≡ false) × (b ≡ false) × (c ≡ false) × (d ≡ true)
none-of false false false true is = (refl, refl, refl, refl)
none-of false false false false is = cc
none-of true b c d is = cc
none-of false true c d is = cc
none-of false false true d is = cc

late : (most n : ℕ) → n < most → nat_le most n ≡ false
late most n less = grind (arith, nat_tests, common_steps, less)

module _ {K P : Type 0} (o : Orders K P) (s : Snapshot K P) (targets : Option (List P)) (peer : P) where
  abbrev limit : Option ℕ
  limit = option_map non_zero_u32_get s.configuration.peer_limit

  may-be : (x : Averages) → IsAmong (peer, x) (eligible o s targets) → MayBeAsked o s targets peer
  may-be x i =
      let test : P × Averages → Bool = λ p. is_eligible o.peer (known o s) targets p.0 in
      let is = none-of (is_local o.peer s.configuration.me peer) (is_one_of o.peer s.blocked peer) (is_full (load_of o.peer limit s.asked) peer) (is_target o.peer targets peer)
      (tested test (peer, x) s.peers i) in
      record {
        in_set = (x, among-filter test (peer, x) s.peers i);
        not_local = λ local e. sym (ap (λ (m : Option P). is_local o.peer m peer) e) ∙ is.0;
        not_blocked = is.1;
        not_full = λ most e. leb-false most (requests_to o.peer s.asked peer) (sym (ap (λ (l : Option ℕ). is_full (load_of o.peer l s.asked) peer) e) ∙ is.2);
        target = λ names e. sym (ap (λ (names : Option (List P)). is_target o.peer names peer) e) ∙ is.3;
      }

  module _ (may : MayBeAsked o s targets peer) where
    not-local : (me : Option P) → s.configuration.me ≡ me → is_local o.peer me peer ≡ false
    not-local None e = refl
    not-local (Some local) e = may.not_local local e

    not-full : (most : Option ℕ) → limit ≡ most → is_full (load_of o.peer most s.asked) peer ≡ false
    not-full None e = refl
    not-full (Some most) e = late most (requests_to o.peer s.asked peer) (may.not_full most e)

    is-target : (names : Option (List P)) → targets ≡ names → is_target o.peer names peer ≡ true
    is-target None e = refl
    is-target (Some names) e = may.target names e

    is-eligible : is_eligible o.peer (known o s) targets peer ≡ true
    is-eligible = rw (not-local s.configuration.me refl, may.not_blocked, not-full limit refl, is-target targets refl) refl

module _ {K P : Type 0} (o : Orders K P) where
  pub eligible_means : EligibleMeans o
  eligible_means = record {
    alone = λ s targets peer x i. may-be o s targets peer x i;
    all = λ s targets peer x i may. among-kept (λ p. is_eligible o.peer (known o s) targets p.0) (peer, x) s.peers (is-eligible o s targets peer may) i;
  }
