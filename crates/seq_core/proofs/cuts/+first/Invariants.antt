use Rattle.std.proofs.Common.{length}
use Rattle.seq_core.proofs.cuts.+first.Given as goal

abbrev pub decreases-first : goal.decreases-first
decreases-first g l = length l.part.tree.now.items
