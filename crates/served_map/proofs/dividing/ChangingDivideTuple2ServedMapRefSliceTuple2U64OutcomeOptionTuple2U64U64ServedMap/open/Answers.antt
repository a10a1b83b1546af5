use Rattle.fork_join.proofs.Uncounted.{opening_uncounted}
use Rattle.served_map.proofs.dividing.ChangingDivideTuple2ServedMapRefSliceTuple2U64OutcomeOptionTuple2U64U64ServedMap.open.Goals as goal

pub returns-clause-cost : goal.returns-clause-cost
returns-clause-cost g c = opening_uncounted c.cut_in_middle.result c.args._steps.now
