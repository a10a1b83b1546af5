use Rattle.std.proofs.Common.{length}
use Rattle.pac_seq.proofs.planting.+pushed.Given as goal

abbrev pub decreases-pushed : goal.decreases-pushed
decreases-pushed g l = length l.part.tree.now.items
