use Rattle.graph_snap.proofs.Ordered.{out_is}
use Rattle.graph_snap.proofs.graph.Graph.out_degree.Goals as goal

pub returns : goal.returns
returns c = out_is c.self.inside.vertices.entries c.args.self.now c.args.vertex c.degree_at.result c.self.view_is c.self.invariant.0 c.degree_at.ensures
