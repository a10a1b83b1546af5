use Rattle.std.proofs.Common.{length}
use Rattle.tree_query.proofs.project.+project_span.Given as goal

abbrev pub decreases-project_span : goal.decreases-project_span
decreases-project_span g l = length l.span.tree.now.entries
