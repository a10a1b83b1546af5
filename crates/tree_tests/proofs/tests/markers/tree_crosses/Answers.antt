use denote.Param.Send.{sendable}
use Rattle.std.proofs.Crossing.{crosses as std_crosses}
use Rattle.tree_shape.proofs.tree.Tree.TheLaws.TheKnot.{both_send-Tree as tree_send, both_sync-Tree as tree_sync}
use Rattle.tree_shape.proofs.tree.Block.TheSendSync as Block
use Rattle.tree_tests.proofs.tests.markers.tree_crosses.Goals as goal

pub crosses-requires-send-T : goal.crosses-requires-send-T
crosses-requires-send-T g c κs within = search (sendable, std_crosses, tree_send, Block.the_send, Block.the_sync) depth 20

pub crosses-requires-sync-T : goal.crosses-requires-sync-T
crosses-requires-sync-T g c κs within = search (sendable, std_crosses, tree_sync, Block.the_send, Block.the_sync) depth 20
