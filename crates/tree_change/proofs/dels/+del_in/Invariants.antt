use Rattle.std.proofs.Common.{length}
use Rattle.tree_change.proofs.dels.+del_in.Given as goal

abbrev pub decreases-del_in : goal.decreases-del_in
decreases-del_in g l = length l.part.tree.now.entries
