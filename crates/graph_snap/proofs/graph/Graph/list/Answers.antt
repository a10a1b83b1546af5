use Rattle.std.proofs.Common.{◌∙◌, ap}
use Rattle.std.proofs.lemmas.Result.{IfOk-weaker}
use Rattle.graph_snap.specs.Edges.{pairs_of}
use Rattle.graph_snap.proofs.Listed.{pairs-listed}
use Rattle.graph_snap.proofs.graph.Graph.list.Goals as goal

pub returns : goal.returns
returns c = IfOk-weaker c.edge_list.result _ _ (λ list is. ap pairs_of is ∙ pairs-listed c.self.inside.vertices.entries ∙ c.self.view_is) c.edge_list.ensures
