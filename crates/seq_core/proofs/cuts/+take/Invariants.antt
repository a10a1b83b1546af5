use Rattle.std.proofs.Common.{length}
use Rattle.seq_core.proofs.cuts.+take.Given as goal

abbrev pub decreases-take : goal.decreases-take
decreases-take g l = length l.part.tree.now.items
