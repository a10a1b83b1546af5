use Rattle.graph_snap.specs.Edges.{IsGraph}
use Rattle.graph_snap.proofs.Sets.{graph-edges_of}
use Rattle.std.proofs.Common.{subst}
use Rattle.graph_snap.proofs.graph.Graph.edges.Goals as goal

pub returns-clause-ordered : goal.returns-clause-ordered
returns-clause-ordered c = subst IsGraph c.self.view_is (graph-edges_of c.self.inside.vertices.entries c.self.invariant.0)
