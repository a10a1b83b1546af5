use Rattle.std.proofs.Common.{length}
use Rattle.seq_core.proofs.sets.+set_at.Given as goal

abbrev pub decreases-set_at : goal.decreases-set_at
decreases-set_at g l = length l.part.tree.now.items
