use Rattle.std.proofs.Common.{refl, ap, ◌∙◌}
use Rattle.resolver_fetch_scan.specs.Trying.{Trying}
use Rattle.resolver_fetch_scan.proofs.step.ask_for.Goals as goal

pub returns-in-Mode-clause-ok : goal.returns-in-Mode-clause-ok
returns-in-Mode-clause-ok g c =
    let retries = c.from.ensures ∙ ap (λ (t : Trying g.row.K.Denot g.row.P.Denot). t.retries) c.trying.view_is in
    rw (c.in-Mode.is, retries) refl

pub returns-in-ByWeight-clause-ok : goal.returns-in-ByWeight-clause-ok
returns-in-ByWeight-clause-ok g c = rw (c.in-ByWeight.is, c.total.ensures) refl

pub returns-in-ByPlace-clause-ok : goal.returns-in-ByPlace-clause-ok
returns-in-ByPlace-clause-ok g c = rw (c.in-ByPlace.is, c.count.ensures) refl

pub returns-in_ok-clone-in-Checking-clause-ok : goal.returns-in_ok-clone-in-Checking-clause-ok
returns-in_ok-clone-in-Checking-clause-ok g c =
    let peer = c.requires.peers_clone c.in-Checking.peer c.in_ok-clone-in-Checking.field-0 c.in_ok-clone-in-Checking.ensures.cases in
    rw (c.in-Checking.is, peer) refl

pub returns-in_ok-clone-in-Sending-2-clause-ok : goal.returns-in_ok-clone-in-Sending-2-clause-ok
returns-in_ok-clone-in-Sending-2-clause-ok g c =
    let peer = c.requires.peers_clone c.in-Sending.peer c.in_ok-clone-in-Sending.field-0 c.in_ok-clone-in-Sending.ensures.cases in
    let key =
    c.requires.keys_clone c.trying.inside.pair.1 c.in_ok-clone-in-Sending-2.field-0 c.in_ok-clone-in-Sending-2.ensures.cases
    ∙ ap (λ (t : Trying g.row.K.Denot g.row.P.Denot). t.key) c.trying.view_is in
    rw (c.in-Sending.is, peer, key) refl
