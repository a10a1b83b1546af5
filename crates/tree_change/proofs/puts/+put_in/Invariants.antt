use Rattle.std.proofs.Common.{length}
use Rattle.tree_change.proofs.puts.+put_in.Given as goal

abbrev pub decreases-put_in : goal.decreases-put_in
decreases-put_in g l = length l.part.tree.now.entries
