use Rattle.std.proofs.Common.{◌+◌, ◌-◌, length}
use Rattle.graph_snap.specs.Edges.{edges_of}
use Rattle.graph_snap.proofs.Fronts.{IsSearch}
use Rattle.graph_snap.proofs.search.search.Given as goal

abbrev pub invariant-levels : goal.invariant-levels
invariant-levels g l = IsSearch (edges_of l.vertices.entries) l.from l.distance l.front.items l.found.entries

abbrev pub decreases-levels : goal.decreases-levels
decreases-levels g l = length (edges_of l.vertices.entries) + 1 - l.distance
