use Rattle.std.proofs.Common.{length}
use Rattle.tree_join.proofs.joins.+join_beside.Given as goal

abbrev pub decreases-join_beside : goal.decreases-join_beside
decreases-join_beside g l = length l.heavy.tree.now.entries
