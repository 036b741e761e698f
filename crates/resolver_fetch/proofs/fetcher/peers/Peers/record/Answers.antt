use Rattle.std.proofs.Common.{◌∙◌, refl, sym}
use Rattle.std.specs.Map.{lookup}
use Rattle.std.specs.BTreeMap.{is_at}
use Rattle.resolver_sampling.specs.Scores.{Observation, averaged}
use Rattle.resolver_fetch_scan.specs.Known.{Company, known_by, may_be_asked}
use Rattle.resolver_fetch_scan.specs.Peers.{averages_in}
use Rattle.resolver_fetch.proofs.Askable.{counts-same}
use Rattle.resolver_fetch.proofs.Refitting.{whole-revalued, whole-unseen}
use Rattle.resolver_fetch.proofs.fetcher.peers.Peers.record.Goals as goal

pub invariant_of-self : goal.invariant_of-self
invariant_of-self g c =
    let a = c.self.inside in
    let x = c.args.peer.now in
    let set = a.set.entries in
    let company : Company g.row.P.Denot = record { local = a.local; set = set; blocked = a.blocked.keys; counts = a.load } in
    let seen : Observation = record { elapsed = c.args.elapsed; bytes = c.args.bytes } in
    let then_is = averaged (averages_in g.P.Ord.cmp set x) seen in
    rw (c.revalue.ensures, c.observe.ensures.observed) (
      c.self.invariant.0 ∙ sym (counts-same (may_be_asked g.P.Ord.cmp (known_by g.P.Ord.cmp company)) (is_at (g.P.Ord.cmp x)) set then_is),
      whole-revalued g.met.P.Ord.total company x then_is seen (lookup (is_at (g.P.Ord.cmp x)) set) refl refl c.in-Some.value c.in-Some.ensures.weight a.pool c.self.invariant.1,
    )

pub invariant_of-self-in_default : goal.invariant_of-self-in_default
invariant_of-self-in_default g c =
    let a = c.self.inside in
    let x = c.args.peer.now in
    let set = a.set.entries in
    let company : Company g.row.P.Denot = record { local = a.local; set = set; blocked = a.blocked.keys; counts = a.load } in
    let seen : Observation = record { elapsed = c.args.elapsed; bytes = c.args.bytes } in
    let then_is = averaged (averages_in g.P.Ord.cmp set x) seen in
    rw (c.observe.ensures.observed) (
      c.self.invariant.0 ∙ sym (counts-same (may_be_asked g.P.Ord.cmp (known_by g.P.Ord.cmp company)) (is_at (g.P.Ord.cmp x)) set then_is),
      whole-unseen g.met.P.Ord.total company x then_is seen (lookup (is_at (g.P.Ord.cmp x)) set) refl c.in_default.ensures.weight a.pool c.self.invariant.1,
    )
