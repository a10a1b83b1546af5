use Rattle.std.proofs.Common.{length}
use Rattle.tree_query.proofs.parts.+keep_span.Given as goal

abbrev pub decreases-keep_span : goal.decreases-keep_span
decreases-keep_span g l = length l.span.tree.now.entries
