use Rattle.std.proofs.Common.{arith}
use Rattle.tree_shape.proofs.Nodes.{length-around}
use Rattle.tree_shape.proofs.tree.Tree.leaf_of_all.Goals as goal

pub concat3_owned-requires-clause-increasing : goal.concat3_owned-requires-clause-increasing
concat3_owned-requires-clause-increasing g c = rw (c.in_ok-front.ensures, c.in_ok-back.ensures) c.requires.increasing

pub concat3_owned-requires-clause-short : goal.concat3_owned-requires-clause-short
concat3_owned-requires-clause-short g c =
    rw (c.in_ok-front.ensures, c.in_ok-back.ensures, length-around c.args.left.now.entries (c.args.key, c.args.val) c.args.right.now.entries) (omega (arith, c.requires.small, g.M.Shape.lawful.1))

pub returns : goal.returns
returns g c = rw (c.in_ok-front.ensures, c.in_ok-back.ensures) at c.concat3_owned.ensures
