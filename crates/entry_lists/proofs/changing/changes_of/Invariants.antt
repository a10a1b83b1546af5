use Rattle.std.proofs.Common.{◌+◌, length}
use Rattle.entry_lists.specs.Changes.{changes}
use Rattle.entry_lists.proofs.Changed.{Telling}
use Rattle.entry_lists.proofs.changing.changes_of.Given as goal

abbrev pub invariant-loop-before : goal.invariant-loop-before
invariant-loop-before g l = Telling g.K.Ord.cmp g.V.PartialEq.eq l.out.items l.left l.right (changes g.K.Ord.cmp g.V.PartialEq.eq l.fn.old l.fn.new)

abbrev pub decreases-loop-before : goal.decreases-loop-before
decreases-loop-before g l = length l.left + length l.right
