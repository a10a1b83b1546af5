use Rattle.std.proofs.Common.{length}
use Rattle.tree_query.proofs.folds.+fold_span.Given as goal

abbrev pub decreases-fold_span : goal.decreases-fold_span
decreases-fold_span g l = length l.span.tree.now.entries
