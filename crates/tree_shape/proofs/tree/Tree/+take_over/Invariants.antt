use Rattle.std.proofs.Common.{length}
use Rattle.tree_shape.proofs.tree.Tree.+take_over.Given as goal

abbrev pub decreases-take_over : goal.decreases-take_over
decreases-take_over g l = length l.from.now
