use Rattle.std.proofs.Common.{arith}
use Rattle.std.proofs.lemmas.Result.{IfOk-weaker}
use Rattle.pac_seq.proofs.reversing.ReversingDivideRefSeqTreeItemSeqTree.close.Goals as goal

pub returns-clause-cost : goal.returns-clause-cost
returns-clause-cost g c = IfOk-weaker c.join.result _ _ (λ out is part front back divided near far. omega arith) c.join.ensures
