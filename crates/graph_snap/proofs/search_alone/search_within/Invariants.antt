use Rattle.std.proofs.Common.{◌-◌, ◌≤◌}
use Rattle.graph_snap.specs.Edges.{edges_of}
use Rattle.graph_snap.proofs.Fronts.{IsSearch}
use Rattle.graph_snap.proofs.search_alone.search_within.Given as goal

abbrev pub invariant-levels : goal.invariant-levels
invariant-levels l = IsSearch (edges_of l.vertices.entries) l.from l.distance l.front.items l.found.entries × (l.distance ≤ l.most)

abbrev pub decreases-levels : goal.decreases-levels
decreases-levels l = l.most - l.distance
