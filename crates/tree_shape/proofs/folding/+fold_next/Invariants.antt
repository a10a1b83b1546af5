use Rattle.tree_shape.proofs.folding.+fold_next.Given as goal

abbrev pub decreases-fold_next : goal.decreases-fold_next
decreases-fold_next g l = l.count
