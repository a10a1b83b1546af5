use Rattle.std.proofs.Common.{◌∙◌, ap}
use Rattle.std.proofs.lemmas.Result.{IfOk-weaker}
use Rattle.graph_snap.specs.Walks.{reach_within}
use Rattle.graph_snap.proofs.graph.Graph.within.Goals as goal

pub returns : goal.returns
returns c = IfOk-weaker c.search_within.result _ _ (λ found h. h ∙ ap (λ m. reach_within m c.args.from c.args.most) c.self.view_is) c.search_within.ensures
