use Rattle.std.proofs.Common.{rules, ◌<◌, length, arith}
use Rattle.seq_core.proofs.Nodes.{left_shorter, right_shorter}
use Rattle.seq_core.proofs.Parts.{take-around}
use Rattle.seq_core.proofs.cuts.+take.Goals as goal

pub returns-in_ok-share-in-Node : goal.returns-in_ok-share-in-Node
returns-in_ok-share-in-Node g t c =
    let past : length c.in-Node.left.now.items < c.args.count = omega (arith, c.if-count-before.false, c.in-Node.ensures.top.before_is) in
    rw (c.in-Node.ensures.top.items_are, take-around c.in-Node.left.now.items c.in-Node.item.now c.in-Node.right.now.items c.args.count past)
    (rw (c.in_ok-front-in-Node.ensures, c.in_ok-share-in-Node.ensures.value, c.in-Node.ensures.top.before_is) at c.join.ensures)

pub take-requires : goal.take-requires
take-requires g t c κs =
    let shorter : length c.in-Node.left.now.items < length c.args.part.tree.now.items = left_shorter _ _ _ _ c.in-Node.ensures.top.items_are in
    search rules

pub take-requires-in-Node : goal.take-requires-in-Node
take-requires-in-Node g t c κs =
    let shorter : length c.in-Node.right.now.items < length c.args.part.tree.now.items = right_shorter _ _ _ _ c.in-Node.ensures.top.items_are in
    search rules
