use Rattle.std.proofs.Common.{length}
use Rattle.tree_query.proofs.places.+rank_in.Given as goal

abbrev pub decreases-rank_in : goal.decreases-rank_in
decreases-rank_in g l = length l.part.tree.now.entries
