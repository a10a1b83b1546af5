use Rattle.std.proofs.Common.{◌∙◌, ap, sym}
use Rattle.graph_snap.specs.Edges.{out_neighbours}
use Rattle.graph_snap.proofs.Counts.{out-edges_of}
use Rattle.graph_snap.proofs.graph.Graph.neighbours_iter.Goals as goal

pub returns : goal.returns
returns c = c.elements_at.ensures ∙ sym (out-edges_of c.self.inside.vertices.entries c.args.vertex c.self.invariant.0.increasing) ∙ ap (λ g. out_neighbours g c.args.vertex) c.self.view_is
