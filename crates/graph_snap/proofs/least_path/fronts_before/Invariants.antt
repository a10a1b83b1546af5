use Rattle.std.proofs.Common.{◌+◌, ◌-◌, length, map}
use Rattle.graph_snap.specs.Edges.{edges_of}
use Rattle.graph_snap.proofs.Paths.{IsBefore}
use Rattle.graph_snap.proofs.least_path.fronts_before.Given as goal

abbrev pub invariant-levels : goal.invariant-levels
invariant-levels l = IsBefore (edges_of l.vertices.entries) l.from l.to l.distance l.front.items l.found.entries (map (λ f. f.items) l.fronts.items)

abbrev pub decreases-levels : goal.decreases-levels
decreases-levels l = length (edges_of l.vertices.entries) + 1 - l.distance
