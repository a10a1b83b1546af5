use Rattle.std.specs.Ordering.{nat_cmp}
use Rattle.map_model.proofs.Keys.{around}
use Rattle.served_map.proofs.joining.joined.Goals as goal

pub join-requires-clause-below : goal.join-requires-clause-below
join-requires-clause-below g c = (around nat_cmp c.args.left.now.entries c.args.key c.args.val c.args.right.now.entries c.requires.increasing).lower

pub join-requires-clause-above : goal.join-requires-clause-above
join-requires-clause-above g c = (around nat_cmp c.args.left.now.entries c.args.key c.args.val c.args.right.now.entries c.requires.increasing).upper
