-- The machine's rows as the engine lists them.
use Rattle.std.specs.Prelude.{Option, option_map}
use Rattle.resolver_model_peer.specs.Parties.{Parties}
use Rattle.resolver_model_peer.specs.Peer.{Machine, row_of}
use Rattle.resolver_model_peer.specs.PeerRows.{Row, Phase, Waits, Asked, Judged}
use Rattle.resolver_core.specs.declared.p2p.rows.Phase.{Phase as ListedPhase}
use Rattle.resolver_core.specs.declared.p2p.rows.Phase.TheVariants as phases
use Rattle.resolver_core.specs.declared.p2p.rows.Row.{Row as ListedRow}

abbrev pub listed_phase : {K P : Type 0} → Phase K P → ListedPhase P
listed_phase (Waits place) = phases.Waiting place.is_retry place.due
listed_phase (Asked id request) = phases.Asked id request.peer request.deadline
listed_phase (Judged j) = phases.Judged j.number

abbrev pub listed : {K S P : Type 0} → K × Row K S P → ListedRow K S P
listed r = record { key = r.0; subscribers = r.1.subscribers; targets = r.1.targets; retries = r.1.retries; phase = listed_phase r.1.phase }

-- the row of one key, where it is demanded
abbrev pub listed_row : {K S P : Type 0} → Parties K S P → Machine K S P → K → Option (ListedRow K S P)
listed_row a m key = option_map (λ row. listed (key, row)) (row_of a m key)
