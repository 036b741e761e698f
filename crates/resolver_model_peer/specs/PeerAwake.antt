-- Whether a machine that sleeps until its wake-up leaves a key behind that could be asked for.
use Rattle.std.specs.Prelude.{◌≡◌, ℕ, ◌≤◌, Bool, true, false, not, ◌&&◌, ◌||◌, nat_le}
use Rattle.std.specs.List.{list_any, list_all}
use Rattle.resolver_fetch_scan.specs.Snapshot.{eligible}
use Rattle.resolver_fetch_scan.specs.Scan.{trail_moment, was_tried}
use Rattle.resolver_model_peer.specs.Parties.{Parties, orders_of}
use Rattle.resolver_model_peer.specs.Peer.{Machine, snapshot, wake_up, is_due}

module _ {K S P : Type 0} (a : Parties K S P) where
  -- the last scan did not try the pair, or what it tried may be tried again
  abbrev pub can_be_tried : Machine K S P → (t : ℕ) → K → P → Bool
  can_be_tried m t key peer = not (was_tried (orders_of a) m.scan.trail key peer) || is_due t (trail_moment m.configuration.retry_delay m.scan.moment m.scan.trail)

  -- the machine sleeps at t, and a key is due that has a peer to try
  abbrev pub leaves_behind : Machine K S P → (t : ℕ) → Bool
  leaves_behind m t =
      not (is_due t (wake_up a m))
      && list_any (λ w. nat_le w.1.place.due t && list_any (λ p. can_be_tried m t w.0 p.0) (eligible (orders_of a) (snapshot a m) w.1.targets)) (snapshot a m).waiting

  abbrev pub IsAwake : Machine K S P → Type 0
  IsAwake m = ((t : ℕ) → m.moment ≤ t → leaves_behind m t ≡ false) × (list_all (λ w. w.1.place.is_retry || nat_le w.1.place.due m.moment) (snapshot a m).waiting ≡ true)
