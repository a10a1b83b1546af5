use Rattle.std.proofs.Common.{length}
use Rattle.seq_core.proofs.pushes.+push_in.Given as goal

abbrev pub decreases-push_in : goal.decreases-push_in
decreases-push_in g l = length l.part.tree.now.items
