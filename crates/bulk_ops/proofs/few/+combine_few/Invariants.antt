use Rattle.std.proofs.Common.{length}
use Rattle.bulk_ops.proofs.few.+combine_few.Given as goal

abbrev pub decreases-combine_few : goal.decreases-combine_few
decreases-combine_few g l = length l.part.tree.now.entries
