use Rattle.map_model.proofs.Keys.{around}
use Rattle.tree_tests.proofs.tests.calls.by_join_owned.Goals as goal

pub join_owned-requires-clause-below : goal.join_owned-requires-clause-below
join_owned-requires-clause-below g c = (around g.M.Key.Ord.cmp c.opened-sides.result.left.entries c.opened-sides.result.key c.opened-sides.result.val c.opened-sides.result.right.entries c.opened-sides.ensures.increasing).lower

pub join_owned-requires-clause-above : goal.join_owned-requires-clause-above
join_owned-requires-clause-above g c = (around g.M.Key.Ord.cmp c.opened-sides.result.left.entries c.opened-sides.result.key c.opened-sides.result.val c.opened-sides.result.right.entries c.opened-sides.ensures.increasing).upper
