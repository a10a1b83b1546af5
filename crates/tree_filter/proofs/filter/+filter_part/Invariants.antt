use Rattle.std.proofs.Common.{length}
use Rattle.tree_filter.proofs.filter.+filter_part.Given as goal

abbrev pub decreases-filter_part : goal.decreases-filter_part
decreases-filter_part g l = length l.part.tree.now.entries
