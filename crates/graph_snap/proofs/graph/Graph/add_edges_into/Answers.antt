use Rattle.graph_snap.specs.Edges.{edges_of, pairs_of}
use Rattle.graph_snap.proofs.Batched.{added}
use Rattle.graph_snap.proofs.graph.Graph.add_edges_into.Goals as goal

pub returns : goal.returns
returns g c = added c.into_vertices.result.entries c.in_ok-changed.changed.items c.deref.result.now c.args.self (pairs_of c.args.list.now) (edges_of c.in_ok-vertices.vertices.entries) c.into_vertices.ensures.edges c.into_vertices.ensures.sets c.deref.ensures.value c.in_ok-changed.ensures.edges c.in_ok-vertices.ensures.edges
