use Rattle.std.proofs.Common.{◌≡◌, length}
use Rattle.graph_snap.specs.Batches.{ends}
use Rattle.graph_snap.proofs.Runs.{IsGrouping}
use Rattle.graph_snap.proofs.batch.grouped.Given as goal

abbrev pub invariant-loop-edge : goal.invariant-loop-edge
invariant-loop-edge l = IsGrouping l.edges l.sets.items l.rest × (l.rest_ends ≡ ends l.rest)

abbrev pub decreases-loop-edge : goal.decreases-loop-edge
decreases-loop-edge l = length l.rest
