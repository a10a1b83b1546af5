use Rattle.std.proofs.Common.{◌∙◌, ap, length, sym}
use Rattle.graph_snap.specs.Edges.{sources}
use Rattle.graph_snap.proofs.Counts.{length-sources}
use Rattle.graph_snap.proofs.graph.Graph.vertices.Goals as goal

pub returns : goal.returns
returns c = c.size.ensures.value ∙ sym (length-sources c.self.inside.vertices.entries c.self.invariant.0) ∙ ap (λ g. length (sources g)) c.self.view_is
