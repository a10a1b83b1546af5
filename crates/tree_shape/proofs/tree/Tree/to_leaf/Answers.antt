use Rattle.tree_shape.proofs.Nodes.{around_few}
use Rattle.tree_shape.proofs.tree.Tree.to_leaf.Goals as goal

pub leaf_over_blocks-requires-clause-small : goal.leaf_over_blocks-requires-clause-small
leaf_over_blocks-requires-clause-small g c = rw c.deref-in-Node.ensures (around_few _ _ _ _ (rw (← c.self.view_is, c.in-Node.is) at c.requires))
