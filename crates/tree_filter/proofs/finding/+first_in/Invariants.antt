use Rattle.std.proofs.Common.{length}
use Rattle.tree_filter.proofs.finding.+first_in.Given as goal

abbrev pub decreases-first_in : goal.decreases-first_in
decreases-first_in g l = length l.part.tree.now.entries
