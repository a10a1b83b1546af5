use Rattle.std.proofs.Common.{length}
use Rattle.tree_many.proofs.sorted.+push_sorted.Given as goal

abbrev pub decreases-push_sorted : goal.decreases-push_sorted
decreases-push_sorted g l = length l.part.tree.now.entries
