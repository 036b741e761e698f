use Rattle.std.proofs.Common.{◌≡◌, ◌∙◌}
use Rattle.std.proofs.lemmas.List.Elements.{same_from_all_zip}
use Rattle.resolver_fetch_scan.proofs.targets.Targets.copy.Goals as goal

pub invariant_of-result : goal.invariant_of-result
invariant_of-result g c = λ peer.
    let listed : c.in_ok-clone.field-0.items ≡ c.self.inside.listed.items = same_from_all_zip g.P.Clone.is_clone _ _ c.in_ok-clone.ensures.cases.0 c.requires.peers_clone in
    let names : c.in_ok-clone-2.field-0.keys ≡ c.self.inside.names.keys = same_from_all_zip g.P.Clone.is_clone _ _ c.in_ok-clone-2.ensures.cases c.requires.peers_clone in
    rw (listed, names) (c.self.invariant peer)

pub returns : goal.returns
returns g c = same_from_all_zip g.P.Clone.is_clone _ _ c.in_ok-clone.ensures.cases.0 c.requires.peers_clone ∙ c.self.view_is
