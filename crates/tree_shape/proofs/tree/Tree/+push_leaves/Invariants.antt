use Rattle.std.proofs.Common.{length}
use Rattle.tree_shape.proofs.tree.Tree.+push_leaves.Given as goal

abbrev pub decreases-push_leaves : goal.decreases-push_leaves
decreases-push_leaves g l = length l.from.now
