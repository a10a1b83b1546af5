use Rattle.std.proofs.lemmas.Result.{IfOk-weaker}
use Rattle.graph_snap.specs.Edges.{edges_of}
use Rattle.graph_snap.proofs.Distances.{has_distances}
use Rattle.graph_snap.proofs.Within.{reach_all}
use Rattle.graph_snap.proofs.graph.Graph.bfs_alone.Goals as goal

pub returns-clause-value : goal.returns-clause-value
returns-clause-value c = IfOk-weaker c.search_within.result _ _ (λ found h. reach_all c.self.inside.edges (edges_of c.self.inside.vertices.entries) c.args.self.now c.args.from found.items c.self.view_is c.self.invariant.1 h) c.search_within.ensures

pub returns-clause-least : goal.returns-clause-least
returns-clause-least c = IfOk-weaker c.search_within.result _ _ (λ found h. has_distances c.args.self.now c.args.from found.items (reach_all c.self.inside.edges (edges_of c.self.inside.vertices.entries) c.args.self.now c.args.from found.items c.self.view_is c.self.invariant.1 h)) c.search_within.ensures
