use Rattle.std.proofs.Common.{length}
use Rattle.entry_lists.proofs.Halves.{IsSeeking, StepsLeft}
use Rattle.entry_lists.proofs.slicing.place_in.Given as goal

abbrev pub invariant-loop-size : goal.invariant-loop-size
invariant-loop-size g l = IsSeeking g.K.Ord.cmp l.entries l.key l.place l.size × StepsLeft (length l.entries) l.size l.initial.steps l.steps

abbrev pub decreases-loop-size : goal.decreases-loop-size
decreases-loop-size g l = l.size
