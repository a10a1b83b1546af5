use Rattle.std.proofs.Common.{length}
use Rattle.seq_core.proofs.cuts.+skip.Given as goal

abbrev pub decreases-skip : goal.decreases-skip
decreases-skip g l = length l.part.tree.now.items
