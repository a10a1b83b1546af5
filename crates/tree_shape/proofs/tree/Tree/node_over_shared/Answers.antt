use Rattle.tree_shape.proofs.tree.Tree.node_over_shared.Goals as goal

pub node-requires-clause-increasing : goal.node-requires-clause-increasing
node-requires-clause-increasing g c = rw (c.in_ok-left.ensures.value, c.in_ok-right.ensures.value) c.requires.increasing

pub node-requires-clause-balanced : goal.node-requires-clause-balanced
node-requires-clause-balanced g c = rw (c.in_ok-left.ensures.value, c.in_ok-right.ensures.value) c.requires.balanced

pub node-requires-clause-filled : goal.node-requires-clause-filled
node-requires-clause-filled g c = rw (c.in_ok-left.ensures.value, c.in_ok-right.ensures.value) c.requires.filled

pub returns-clause-entries : goal.returns-clause-entries
returns-clause-entries g c = rw (c.in_ok-left.ensures.value, c.in_ok-right.ensures.value) at c.node.ensures.entries
