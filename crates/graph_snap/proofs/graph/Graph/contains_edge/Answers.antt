use Rattle.graph_snap.proofs.Ordered.{edge_is}
use Rattle.graph_snap.proofs.graph.Graph.contains_edge.Goals as goal

pub returns : goal.returns
returns c = edge_is c.self.inside.vertices.entries c.args.self.now c.args.from c.args.to c.has_edge.result c.self.view_is c.self.invariant.0 c.has_edge.ensures
