use denote.Param.Send.{sendable}
use Rattle.std.proofs.Common.{ap, ◌∙◌}
use Rattle.std.proofs.Crossing.{crosses as std_crosses}
use Rattle.std.specs.List.{filter as filtered}
use Rattle.tree_shape.proofs.tree.Tree.TheLaws.TheKnot.{both_send-Tree as tree_send, both_sync-Tree as tree_sync}
use Rattle.tree_shape.proofs.tree.Block.TheSendSync as Block
use Rattle.aug_map.proofs.map.Map.filter.Goals as goal

pub divide-requires-send-P : goal.divide-requires-send-P
divide-requires-send-P g c κs within = search (sendable, std_crosses, tree_sync, Block.the_send, Block.the_sync) depth 20

pub divide-requires-send-O : goal.divide-requires-send-O
divide-requires-send-O g c κs within = search (sendable, std_crosses, tree_send, Block.the_send, Block.the_sync) depth 20

pub returns : goal.returns
returns g c = c.in_ok-tree.ensures ∙ ap (λ m. filtered (λ e. g.T.Test.passes c.args.test.now e.0 e.1) m.entries) c.self.view_is
