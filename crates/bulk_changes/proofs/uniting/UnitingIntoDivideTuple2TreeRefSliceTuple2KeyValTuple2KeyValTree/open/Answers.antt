use Rattle.fork_join.proofs.Uncounted.{opening_uncounted}
use Rattle.bulk_changes.proofs.uniting.UnitingIntoDivideTuple2TreeRefSliceTuple2KeyValTuple2KeyValTree.open.Goals as goal

pub returns-clause-cost : goal.returns-clause-cost
returns-clause-cost g c = opening_uncounted c.open_alone.result c.args._steps.now
