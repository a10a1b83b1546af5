use Rattle.std.proofs.Common.{arith}
use Rattle.std.proofs.lemmas.Result.{IfOk-weaker}
use Rattle.bulk_passes.proofs.filtering.FilteringDivideRefTreeOptionTuple2KeyValTree.close.Goals as goal

pub returns-clause-cost : goal.returns-clause-cost
returns-clause-cost g c = IfOk-weaker c.join_around.result _ _ (λ out is part front back put front_is back_is. omega arith) c.join_around.ensures
