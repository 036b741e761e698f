use Rattle.std.proofs.Common.{◌≡◌, ◌∙◌, [], Some, None, rules}
use Rattle.std.specs.BTreeMap.{is_at}
use Rattle.std.specs.Map.{lookup}
use Rattle.resolver_fetch_scan.specs.Tried.{peers_tried}
use Rattle.resolver_fetch_scan.proofs.trail.Trail.tried.Goals as goal

pub returns-in-Some : goal.returns-in-Some
returns-in-Some g c =
    let there : lookup (is_at (g.K.Ord.cmp c.args.key.now)) c.self.inside.peers.entries ≡ Some c.in-Some.peers.now = search rules in
    let named : c.in-Some.peers.now.items ≡ peers_tried g.K.Ord.cmp c.self.inside.tries.items c.args.key.now = rw there at (c.self.invariant c.args.key.now) in
    rw (← c.self.view_is) (c.as_slice.ensures.value ∙ named)

pub returns-in-None : goal.returns-in-None
returns-in-None g c =
    let there : lookup (is_at (g.K.Ord.cmp c.args.key.now)) c.self.inside.peers.entries ≡ None = search rules in
    let named : [] ≡ peers_tried g.K.Ord.cmp c.self.inside.tries.items c.args.key.now = rw there at (c.self.invariant c.args.key.now) in
    rw (← c.self.view_is) named
