-- What a set of peers does to the parts.
use Rattle.std.proofs.Common.{◌≡◌, ap, sym, ◌∙◌, subst, ℕ, ◌<◌, true, false, List, map, Option, None, Some, if◌then◌else◌, arith}
use Rattle.std.proofs.lemmas.Bool.Decides.{nat_tests}
use Rattle.std.specs.Prelude.{is_some, nat_lt}
use Rattle.resolver_fetch_scan.specs.Fetcher as fetchers
use Rattle.resolver_model_peer.specs.Parties.{Parties, orders_of}
use Rattle.resolver_model_peer.specs.Peer.{Machine, is_newer, peer_set}
use Rattle.resolver_fetch_scan.specs.Peers.{replaced}
use Rattle.resolver_peer_step.specs.declared.parts.Parts.{Parts}
use Rattle.resolver_peer_step.specs.Tied.{Agrees, fetcher_of, held_of, open_of}
use Rattle.resolver_peer_step.proofs.Agreeing.{closed-over}
use Rattle.resolver_peer_step.proofs.Places.{none-asked}

pub newer-than : (last : Option ℕ) (had index : ℕ) → last ≡ Some had → had < index → is_newer last index ≡ true
newer-than last had index is later = ap (λ last. is_newer last index) is ∙ at
  where
    at : nat_lt had index ≡ true
    at = grind (arith, nat_tests)

pub newer-first : (last : Option ℕ) (index : ℕ) → last ≡ None → is_newer last index ≡ true
newer-first last index is = ap (λ last. is_newer last index) is

module _ {K S P : Type 0} (a : Parties K S P) where
  -- a set that is newer
  abbrev supplied : Machine K S P → (index : ℕ) → List P → Machine K S P
  supplied m index peers = record m { peers = replaced a.peer m.peers peers; last_index = Some index; waiter = None }

  pub newer-set : (e f : Parts K P S) (m : Machine K S P) (index : ℕ) (peers : List P) → Agrees a e m → is_some e.fetcher.scan ≡ false → is_newer e.last_index index ≡ true
      → f ≡ record e { fetcher = f.fetcher; last_index = Some index } → f.fetcher ≡ fetchers.reconcile (orders_of a) peers e.fetcher → Agrees a f (peer_set a m index peers)
  newer-set e f m index peers is closed newer same moved =
      subst (Agrees a f) (sym (ap (λ b. if b then supplied m index peers else m) (ap (λ last. is_newer last index) (sym is.last_index) ∙ newer)))
      (record {
        sound = record {
          ordered = is.sound.ordered;
          ids = is.sound.ids;
          own = is.sound.own;
          below = is.sound.below;
          new_id = none-asked a (fetcher_of a (supplied m index peers)) (supplied m index peers) (closed-over a e m is closed);
        };
        demand = ap (λ (e : Parts K P S). e.demand) same ∙ is.demand;
        entries = ap (λ (e : Parts K P S). map (λ x. (x.0, held_of x.1)) e.entries.keys) same ∙ is.entries;
        deliveries = ap (λ (e : Parts K P S). map (λ x. (x.0, open_of x.1)) e.entries.going) same ∙ is.deliveries;
        next_delivery = ap (λ (e : Parts K P S). e.entries.next) same ∙ is.next_delivery;
        fetcher = moved ∙ ap (fetchers.reconcile (orders_of a) peers) is.fetcher;
        serves = ap (λ (e : Parts K P S). e.serves.entries) same ∙ is.serves;
        next_serve = ap (λ (e : Parts K P S). e.next_serve) same ∙ is.next_serve;
        last_index = ap (λ (e : Parts K P S). e.last_index) same;
        priority = ap (λ (e : Parts K P S). e.priority_responses) same ∙ is.priority;
      })
