use Rattle.std.proofs.Common.{◌∙◌, ap, not, refl, sym, append-nil}
use Rattle.resolver_model_peer.specs.Parties.{parties}
use Rattle.resolver_model_peer.specs.Peer.{is_newer, quiet}
use Rattle.resolver_peer_step.specs.Said.{codec}
use Rattle.resolver_peer_step.proofs.Agreeing.{goes-quiet}
use Rattle.resolver_model_peer.proofs.Refusals.{done}
use Rattle.resolver_peer_step.proofs.parts.Parts.advance.Goals as goal

pub returns-in-Fetch-clause-goes : goal.returns-in-Fetch-clause-goes
returns-in-Fetch-clause-goes g c = λ m is.
    rw c.in-Fetch.is (goes-quiet (parties g.K.Ord.cmp g.S.Ord.cmp g.P.Ord.cmp) (codec g.K.Span.SIZE g.K.Span.bytes_of g.K.Span.read_from) c.args.effects.now.items c.fetch.new.self _ c.fetch.result (c.fetch.ensures.ok m is) c.fetch.ensures.only)

pub returns-in-Fetch-clause-memory : goal.returns-in-Fetch-clause-memory
returns-in-Fetch-clause-memory g c = λ wanting m is. rw c.in-Fetch.is refl

pub returns-in-PeerSet-clause-goes : goal.returns-in-PeerSet-clause-goes
returns-in-PeerSet-clause-goes g c = λ m is.
    rw c.in-PeerSet.is (goes-quiet (parties g.K.Ord.cmp g.S.Ord.cmp g.P.Ord.cmp) (codec g.K.Span.SIZE g.K.Span.bytes_of g.K.Span.read_from) c.args.effects.now.items c.peer_set.new.self _ c.peer_set.result (c.peer_set.ensures.ok m is) c.peer_set.ensures.only)

pub returns-in-PeerSet-clause-memory : goal.returns-in-PeerSet-clause-memory
returns-in-PeerSet-clause-memory g c = λ wanting m is. rw c.in-PeerSet.is (ap (λ last. not (is_newer last c.in-PeerSet.index)) (sym is.last_index) ∙ ap not (c.peer_set.ensures.memory wanting))

pub returns-in-Blocked-clause-goes : goal.returns-in-Blocked-clause-goes
returns-in-Blocked-clause-goes g c = λ m is.
    rw c.in-Blocked.is (goes-quiet (parties g.K.Ord.cmp g.S.Ord.cmp g.P.Ord.cmp) (codec g.K.Span.SIZE g.K.Span.bytes_of g.K.Span.read_from) c.args.effects.now.items c.block.new.self _ c.block.result (c.block.ensures.ok m is) c.block.ensures.only)

pub returns-in-Blocked-clause-memory : goal.returns-in-Blocked-clause-memory
returns-in-Blocked-clause-memory g c = λ wanting m is. rw c.in-Blocked.is refl

pub returns-in-ActiveDue-clause-goes : goal.returns-in-ActiveDue-clause-goes
returns-in-ActiveDue-clause-goes g c = λ m is.
    rw c.in-ActiveDue.is (goes-quiet (parties g.K.Ord.cmp g.S.Ord.cmp g.P.Ord.cmp) (codec g.K.Span.SIZE g.K.Span.bytes_of g.K.Span.read_from) c.args.effects.now.items c.time_out.new.self _ c.time_out.result (c.time_out.ensures.ok m is) c.time_out.ensures.only)

pub returns-in-ActiveDue-clause-memory : goal.returns-in-ActiveDue-clause-memory
returns-in-ActiveDue-clause-memory g c = λ wanting m is. rw c.in-ActiveDue.is (c.time_out.ensures.memory wanting m is)

pub returns-in-Retain-clause-goes : goal.returns-in-Retain-clause-goes
returns-in-Retain-clause-goes g c = λ m is. rw c.in-Retain.is (c.retain.ensures m is)

pub returns-in-Retain-clause-memory : goal.returns-in-Retain-clause-memory
returns-in-Retain-clause-memory g c = λ wanting m is. rw c.in-Retain.is refl

pub returns-in-Verdict-clause-goes : goal.returns-in-Verdict-clause-goes
returns-in-Verdict-clause-goes g c = λ m is. rw c.in-Verdict.is (c.verdict.ensures.goes (codec g.K.Span.SIZE g.K.Span.bytes_of g.K.Span.read_from) m is)

pub returns-in-Verdict-clause-memory : goal.returns-in-Verdict-clause-memory
returns-in-Verdict-clause-memory g c = λ wanting m is. rw c.in-Verdict.is (c.verdict.ensures.memory wanting m is)

pub returns-in-Served-clause-goes : goal.returns-in-Served-clause-goes
returns-in-Served-clause-goes g c = λ m is. rw c.in-Served.is (c.served.ensures.goes m is)

pub returns-in-Served-clause-memory : goal.returns-in-Served-clause-memory
returns-in-Served-clause-memory g c = λ wanting m is. rw c.in-Served.is (c.served.ensures.memory wanting m is)

pub returns-in-Net-clause-goes : goal.returns-in-Net-clause-goes
returns-in-Net-clause-goes g c = λ m is. rw c.in-Net.is (c.net.ensures.goes m is)

pub returns-in-Net-clause-memory : goal.returns-in-Net-clause-memory
returns-in-Net-clause-memory g c = λ wanting m is. rw c.in-Net.is (c.net.ensures.memory wanting m is)

pub returns-in-End-clause-goes : goal.returns-in-End-clause-goes
returns-in-End-clause-goes g c = λ m is. rw c.in-End.is (c.end.ensures m is)

pub returns-in-End-clause-memory : goal.returns-in-End-clause-memory
returns-in-End-clause-memory g c = λ wanting m is. rw c.in-End.is refl

pub returns-in-PendingDue-clause-goes : goal.returns-in-PendingDue-clause-goes
returns-in-PendingDue-clause-goes g c = λ m is. rw c.in-PendingDue.is (record { done = quiet m; is = refl; told = sym (append-nil c.args.effects.now.items); agrees = is })

pub returns-in-PendingDue-clause-memory : goal.returns-in-PendingDue-clause-memory
returns-in-PendingDue-clause-memory g c = λ wanting m is. absurd (done _ _ wanting)
