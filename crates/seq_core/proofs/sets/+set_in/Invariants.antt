use Rattle.std.proofs.Common.{length}
use Rattle.seq_core.proofs.sets.+set_in.Given as goal

abbrev pub decreases-set_in : goal.decreases-set_in
decreases-set_in g l = length l.part.tree.now.items
