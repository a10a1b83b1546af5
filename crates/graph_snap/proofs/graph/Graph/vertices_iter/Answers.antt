use Rattle.std.proofs.Common.{◌∙◌, ap, sym}
use Rattle.graph_snap.specs.Edges.{sources}
use Rattle.graph_snap.proofs.Counts.{sources-edges_of}
use Rattle.graph_snap.proofs.graph.Graph.vertices_iter.Goals as goal

pub returns : goal.returns
returns c = c.vertices_of.ensures ∙ sym (sources-edges_of c.self.inside.vertices.entries c.self.invariant.0) ∙ ap sources c.self.view_is
