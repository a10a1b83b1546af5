use Rattle.std.proofs.Common.{length}
use Rattle.tree_walk.proofs.Ways.{LeadsTo}
use Rattle.tree_walk.proofs.lending.first_run.Given as goal

abbrev pub invariant-down : goal.invariant-down
invariant-down g l = LeadsTo l.part.entries l.ahead l.tree.entries l.follows

abbrev pub decreases-down : goal.decreases-down
decreases-down g l = length l.part.entries
