use Rattle.map_model.proofs.Keys.{around}
use Rattle.tree_tests.proofs.tests.calls.by_join_lent.Goals as goal

pub join_lent-whole-requires-clause-below : goal.join_lent-whole-requires-clause-below
join_lent-whole-requires-clause-below g c = (around g.M.Key.Ord.cmp c.opened-sides.result.left.entries c.opened-sides.result.key c.opened-sides.result.val c.opened-sides.result.right.entries c.opened-sides.ensures.increasing).lower

pub join_lent-whole-requires-clause-above : goal.join_lent-whole-requires-clause-above
join_lent-whole-requires-clause-above g c = (around g.M.Key.Ord.cmp c.opened-sides.result.left.entries c.opened-sides.result.key c.opened-sides.result.val c.opened-sides.result.right.entries c.opened-sides.ensures.increasing).upper
