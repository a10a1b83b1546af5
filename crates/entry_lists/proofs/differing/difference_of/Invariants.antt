use Rattle.std.proofs.Common.{◌+◌, ◌≤◌, length}
use Rattle.map_model.specs.SetOperations.{difference}
use Rattle.entry_lists.proofs.MergeSteps.{Merging}
use Rattle.entry_lists.proofs.differing.difference_of.Given as goal

abbrev pub invariant-loop-near : goal.invariant-loop-near
invariant-loop-near g l = Merging g.K.Ord.cmp (difference g.K.Ord.cmp) l.out.items l.left l.right (difference g.K.Ord.cmp l.fn.a l.fn.b)
    × (l.steps + (length l.left + length l.right) ≤ l.initial.steps + (length l.fn.a + length l.fn.b))

abbrev pub decreases-loop-near : goal.decreases-loop-near
decreases-loop-near g l = length l.left + length l.right
