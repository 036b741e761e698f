use Rattle.resolver_fetch_scan.proofs.Searched.{found, not-found}
use Rattle.resolver_fetch_scan.proofs.pool.place_of.Goals as goal

pub returns-in-Ok : goal.returns-in-Ok
returns-in-Ok g c =
    found g.met.P.Ord.total c.args.peer.now c.args.names.now c.requires.ordered c.in-Ok.place c.in-Ok.ensures.bound c.in-Ok.ensures.position

pub returns-in-Err : goal.returns-in-Err
returns-in-Err g c =
    not-found g.met.P.Ord.total c.args.peer.now c.args.names.now c.requires.ordered _ c.in-Err.ensures.position
