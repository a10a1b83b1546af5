use Rattle.std.proofs.Common.{length, refl, sym, arith}
use Rattle.tree_change.proofs.nodes.way_of_put.Goals as goal

pub returns-in-Less-clause-way : goal.returns-in-Less-clause-way
returns-in-Less-clause-way g c =
    (sym c.in-Less.ensures.value, c.if-has_room.ensures refl (length c.args.node.now.right.entries) (omega (arith, c.requires.size)))

pub returns-in-Greater-clause-way : goal.returns-in-Greater-clause-way
returns-in-Greater-clause-way g c =
    (sym c.in-Greater.ensures.value, c.if-has_room-2.ensures refl (length c.args.node.now.left.entries) (omega (arith, c.requires.size)))
