use Rattle.map_model.proofs.Keys.{IsIncreasing-around}
use Rattle.tree_join.proofs.joins.join_owned.Goals as goal

pub link_owned-requires-clause-increasing : goal.link_owned-requires-clause-increasing
link_owned-requires-clause-increasing g c =
    let total = g.met.M.Key.Ord.total in
    IsIncreasing-around total c.args.left.entries c.args.key c.args.val c.args.right.entries (record { left = c.size.ensures.increasing; right = c.size-2.ensures.increasing; lower = c.requires.below; upper = c.requires.above })

pub link_small-requires-clause-increasing : goal.link_small-requires-clause-increasing
link_small-requires-clause-increasing g c =
    let total = g.met.M.Key.Ord.total in
    IsIncreasing-around total c.args.left.entries c.args.key c.args.val c.args.right.entries (record { left = c.size.ensures.increasing; right = c.size-2.ensures.increasing; lower = c.requires.below; upper = c.requires.above })
