use Rattle.std.proofs.lemmas.Result.{IfOk-weaker}
use Rattle.graph_snap.proofs.Ordered.{out_list}
use Rattle.graph_snap.proofs.graph.Graph.neighbours.Goals as goal

pub returns : goal.returns
returns c = IfOk-weaker c.neighbours_at.result _ _ (λ list is. out_list c.self.inside.vertices.entries c.args.self.now c.args.vertex list.items c.self.view_is c.self.invariant.0 is) c.neighbours_at.ensures
