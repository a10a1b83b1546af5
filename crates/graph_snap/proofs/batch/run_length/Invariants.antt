use Rattle.std.proofs.Common.{◌≡◌, ◌+◌, drop}
use Rattle.graph_snap.specs.Batches.{run}
use Rattle.graph_snap.proofs.batch.run_length.Given as goal

abbrev pub invariant-loop-at : goal.invariant-loop-at
invariant-loop-at l = l.at + run l.from (drop l.at l.edges) ≡ run l.from l.edges
