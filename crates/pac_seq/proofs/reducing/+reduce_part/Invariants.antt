use Rattle.std.proofs.Common.{length}
use Rattle.pac_seq.proofs.reducing.+reduce_part.Given as goal

abbrev pub decreases-reduce_part : goal.decreases-reduce_part
decreases-reduce_part g l = length l.part.tree.now.items
