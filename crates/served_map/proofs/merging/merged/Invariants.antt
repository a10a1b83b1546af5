use Rattle.std.proofs.Common.{◌+◌, length}
use Rattle.served_map.proofs.Merges.{Merging}
use Rattle.served_map.proofs.merging.merged.Given as goal

abbrev pub invariant-loop-near : goal.invariant-loop-near
invariant-loop-near l = Merging l.fn.outcomes l.fn.entries l.changed.items l.right l.left

abbrev pub decreases-loop-near : goal.decreases-loop-near
decreases-loop-near l = length l.left + length l.right
