use Rattle.std.proofs.Common.{length}
use Rattle.bulk_passes.proofs.filtering.+filter_into.Given as goal

abbrev pub decreases-filter_into : goal.decreases-filter_into
decreases-filter_into g l = length l.part.tree.now.entries
