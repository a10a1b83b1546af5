use Rattle.std.proofs.Common.{length}
use Rattle.tree_many.proofs.one.+answer_in.Given as goal

abbrev pub decreases-answer_in : goal.decreases-answer_in
decreases-answer_in g l = length l.part.tree.now.entries
