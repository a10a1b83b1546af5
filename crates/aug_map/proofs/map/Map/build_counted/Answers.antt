use Rattle.std.proofs.Common.{length, arith, ap}
use Rattle.aug_map.proofs.BatchCosts.{length-build_le}
use Rattle.aug_map.proofs.map.Map.build_counted.Goals as goal

pub returns-clause-cost : goal.returns-clause-cost
returns-clause-cost g c =
    omega (arith, c.tree_of_counted.ensures.cost, c.in_ok-entries.ensures.cost, ap length c.in_ok-entries.ensures.value, length-build_le g.met.M.Key.Ord.total g.met.M.Key.Key.exact c.args.pairs.now)
