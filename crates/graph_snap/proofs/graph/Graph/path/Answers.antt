use Rattle.std.proofs.Common.{subst}
use Rattle.std.proofs.lemmas.Result.{IfOk-weaker}
use Rattle.std.specs.Prelude.{MatchOption}
use Rattle.graph_snap.specs.Walks.{IsLeastPath, IsOutOfReach}
use Rattle.graph_snap.proofs.graph.Graph.path.Goals as goal

pub returns : goal.returns
returns c = IfOk-weaker c.least_path.result _ _ (λ found h. subst (λ g. MatchOption found (IsOutOfReach g c.args.from c.args.to) (λ path. IsLeastPath g c.args.from c.args.to path.items)) c.self.view_is h) c.least_path.ensures
