use Rattle.std.proofs.Common.{length}
use Rattle.tree_cut.proofs.splits.+split_in.Given as goal

abbrev pub decreases-split_in : goal.decreases-split_in
decreases-split_in g l = length l.part.tree.now.entries
