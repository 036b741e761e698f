-- What the peer machine stands at.
use Rattle.std.specs.Prelude.{Option, None, Some, map}
use Rattle.resolver_model.specs.Standing.{Judgment, Held, Standing}
use Rattle.resolver_model_peer.specs.PeerRows.{Row, Phase, Waits, Asked, Judged}
use Rattle.resolver_model_peer.specs.Peer.{Machine}

abbrev pub judgment_of : {K P : Type 0} → Phase K P → Option Judgment
judgment_of (Waits place) = None
judgment_of (Asked id request) = None
judgment_of (Judged j) = Some (record { number = j.number; response = j.response; accepted = j.accepted })

abbrev pub held_of : {K S P : Type 0} → Row K S P → Held S
held_of row = record { subscribers = row.subscribers; judging = judgment_of row.phase }

abbrev pub standing_of : {K S P : Type 0} → Machine K S P → Standing K S
standing_of m = record {
  rows = map (λ r. (r.0, held_of r.1)) m.rows;
  deliveries = map (λ d. (d.0, d.1.handed)) m.deliveries;
  next_number = m.next_delivery;
}
