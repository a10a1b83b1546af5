use Rattle.map_model.proofs.Keys.{IsIncreasing-around}
use Rattle.tree_join.proofs.joins.join.Goals as goal

pub join_beside-requires-clause-increasing : goal.join_beside-requires-clause-increasing
join_beside-requires-clause-increasing g c =
    let total = g.met.M.Key.Ord.total in
    IsIncreasing-around total c.args.left.now.entries c.args.key c.args.val c.args.right.now.entries (record { left = c.size.ensures.increasing; right = c.size-2.ensures.increasing; lower = c.requires.below; upper = c.requires.above })

pub join_beside-requires-else-size-clause-increasing : goal.join_beside-requires-else-size-clause-increasing
join_beside-requires-else-size-clause-increasing g c =
    let total = g.met.M.Key.Ord.total in
    IsIncreasing-around total c.args.left.now.entries c.args.key c.args.val c.args.right.now.entries (record { left = c.size.ensures.increasing; right = c.size-2.ensures.increasing; lower = c.requires.below; upper = c.requires.above })
