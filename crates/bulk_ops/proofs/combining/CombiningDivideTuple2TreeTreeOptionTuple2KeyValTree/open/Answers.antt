use Rattle.bulk_ops.proofs.combining.CombiningDivideTuple2TreeTreeOptionTuple2KeyValTree.open.Goals as goal

pub returns-clause-cost : goal.returns-clause-cost
returns-clause-cost g c = c.open_sides.ensures.cost
