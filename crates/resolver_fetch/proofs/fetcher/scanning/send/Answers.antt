use Rattle.std.proofs.Common.{ap, ◌∙◌, ◌+◌, ◌<◌, ◌^◌, length, option_map, arith}
use Rattle.resolver_fetch_requests.specs.Loads.{one_fewer}
use Rattle.resolver_fetch_scan.specs.Known.{known_by, with_load}
use Rattle.resolver_fetch.proofs.Kept.{room-with, undone}
use Rattle.resolver_fetch.proofs.fetcher.scanning.send.Goals as goal

pub sent-requires-clause-room : goal.sent-requires-clause-room
sent-requires-clause-room g c =
    let few : length c.args.requests.now + 1 < 2 ^ 64 = omega (arith, c.len-count.ensures.value, c.len-count.ensures.few) in
    room-with g.P.Ord.cmp c.args.peers.now.counts c.args.requests.now c.in_ok-name.name c.requires.loaded few

pub returns-in-Err-clause-err_peers : goal.returns-in-Err-clause-err_peers
returns-in-Err-clause-err_peers g c =
    let R = g.P.Ord.cmp in
    let name = c.in_ok-name.name in
    let old = known_by R c.args.peers.now in
    c.freed.ensures ∙ ap (with_load (option_map (one_fewer R name))) c.in_ok-fills.ensures.ok ∙ (λ i. record old { load = undone R name old.load i })
