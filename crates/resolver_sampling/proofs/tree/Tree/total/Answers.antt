use Rattle.std.proofs.Common.{◌∙◌, sym}
use Rattle.resolver_sampling.proofs.SumTrees.{leaves-root}
use Rattle.resolver_sampling.proofs.tree.Tree.total.Goals as goal

pub returns-clause-total : goal.returns-clause-total
returns-clause-total c =
    rw (← c.self.view_is)
    (c.self.invariant.root ∙ sym (leaves-root c.self.inside.shape.depth c.self.inside.shape.leaves c.self.inside.nodes c.self.invariant.summed c.self.invariant.shape.power c.self.invariant.shape.room))
