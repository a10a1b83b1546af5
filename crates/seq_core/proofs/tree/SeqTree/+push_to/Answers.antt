use Rattle.std.proofs.Common.{rules, ◌<◌, length}
use Rattle.seq_core.proofs.Nodes.{left_shorter, right_shorter}
use Rattle.seq_core.proofs.tree.SeqTree.+push_to.Goals as goal

pub push_to-requires : goal.push_to-requires
push_to-requires g t c κs =
    let shorter : length c.in-Node.left.now.items < length c.args.self.now.items = left_shorter _ _ _ _ c.in-Node.ensures.top.items_are in
    search rules

pub push_to-requires-in-Node : goal.push_to-requires-in-Node
push_to-requires-in-Node g t c κs =
    let shorter : length c.in-Node.right.now.items < length c.args.self.now.items = right_shorter _ _ _ _ c.in-Node.ensures.top.items_are in
    search rules
