use Rattle.std.proofs.Common.{length}
use Rattle.graph_snap.proofs.Renewals.{IsRenewing}
use Rattle.graph_snap.proofs.adding.renewed.Given as goal

abbrev pub invariant-loop-edge : goal.invariant-loop-edge
invariant-loop-edge l = IsRenewing l.vertices.entries l.edges l.sets.items l.rest

abbrev pub decreases-loop-edge : goal.decreases-loop-edge
decreases-loop-edge l = length l.rest
