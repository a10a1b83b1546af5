use denote.Param.Send.{sendable}
use Rattle.std.proofs.Crossing.{crosses as std_crosses}
use Rattle.tree_shape.proofs.tree.Tree.TheLaws.TheKnot.{both_send-Tree as tree_send}
use Rattle.tree_shape.proofs.tree.Block.TheSendSync as Block
use Rattle.aug_map.proofs.map.Map.intersect.Goals as goal

pub divide-requires-send-P : goal.divide-requires-send-P
divide-requires-send-P g c κs within = search (sendable, std_crosses, tree_send, Block.the_send, Block.the_sync) depth 20

pub divide-requires-send-O : goal.divide-requires-send-O
divide-requires-send-O g c κs within = search (sendable, std_crosses, tree_send, Block.the_send, Block.the_sync) depth 20
