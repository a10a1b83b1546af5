use Rattle.std.proofs.Common.{arith}
use Rattle.tree_shape.proofs.Nodes.{length-around}
use Rattle.tree_shape.proofs.giving.leaf_of_node.Goals as goal

pub concat3_owned-requires-clause-increasing : goal.concat3_owned-requires-clause-increasing
concat3_owned-requires-clause-increasing g c = rw (c.in_ok-front-in-Ok.ensures, c.in_ok-back-in-Ok.ensures, c.in-Ok.ensures.ok) c.requires.lawful.increasing

pub concat3_owned-requires-clause-short : goal.concat3_owned-requires-clause-short
concat3_owned-requires-clause-short g c =
    let node = c.args.owner.value in
    rw (c.in_ok-front-in-Ok.ensures, c.in_ok-back-in-Ok.ensures, c.in-Ok.ensures.ok, length-around node.left.entries (node.key, node.val) node.right.entries) (omega (arith, c.requires.small, g.M.Shape.lawful.1))

pub leaf_over_blocks-requires-clause-small : goal.leaf_over_blocks-requires-clause-small
leaf_over_blocks-requires-clause-small g c = rw (c.deref.ensures, c.in-Err.ensures.err) c.requires.small

pub returns-in_ok-back-in-Ok : goal.returns-in_ok-back-in-Ok
returns-in_ok-back-in-Ok g c = rw (c.in_ok-front-in-Ok.ensures, c.in_ok-back-in-Ok.ensures, c.in-Ok.ensures.ok) at c.concat3_owned.ensures

pub returns-in-Err : goal.returns-in-Err
returns-in-Err g c = rw (c.deref.ensures, c.in-Err.ensures.err) at c.leaf_over_blocks.ensures
