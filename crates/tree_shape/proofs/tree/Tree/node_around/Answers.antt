use Rattle.tree_shape.proofs.tree.Tree.node_around.Goals as goal

pub returns-clause-entries : goal.returns-clause-entries
returns-clause-entries g c = rw c.in_ok-key.ensures.value at c.node.ensures.entries

pub node-requires-clause-increasing : goal.node-requires-clause-increasing
node-requires-clause-increasing g c = rw c.in_ok-key.ensures.value c.requires.increasing

pub node-requires-clause-filled : goal.node-requires-clause-filled
node-requires-clause-filled g c = c.requires.filled
