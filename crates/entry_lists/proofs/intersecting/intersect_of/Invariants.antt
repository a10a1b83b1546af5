use Rattle.std.proofs.Common.{◌+◌, ◌≤◌, length}
use Rattle.map_model.specs.SetOperations.{intersect}
use Rattle.entry_lists.proofs.MergeSteps.{Merging}
use Rattle.entry_lists.proofs.intersecting.intersect_of.Given as goal

abbrev pub invariant-loop-near : goal.invariant-loop-near
invariant-loop-near g l = Merging g.K.Ord.cmp (intersect g.K.Ord.cmp (g.R.Resolve.resolved l.how)) l.out.items l.left l.right (intersect g.K.Ord.cmp (g.R.Resolve.resolved l.how) l.fn.a l.fn.b)
    × (l.steps + (length l.left + length l.right) ≤ l.initial.steps + (length l.fn.a + length l.fn.b))

abbrev pub decreases-loop-near : goal.decreases-loop-near
decreases-loop-near g l = length l.left + length l.right
