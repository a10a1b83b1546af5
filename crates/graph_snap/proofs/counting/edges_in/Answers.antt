use Rattle.std.proofs.lemmas.Result.{IfOk-weaker}
use Rattle.graph_snap.proofs.Counts.{total_is}
use Rattle.graph_snap.proofs.counting.edges_in.Goals as goal

pub returns-in-Some : goal.returns-in-Some
returns-in-Some c = IfOk-weaker c.exact.result _ _ (λ n h. total_is c.args.vertices.now.entries c.in-Some.total.now n c.in-Some.ensures.fold h) c.exact.ensures
