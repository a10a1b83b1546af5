-- Maps of points cross threads, by the laws of their parts. An answer writes a fact anew as a record, since what a call asks is of the
-- same type in another writing.
use denote.Param.{param}
use denote.Param.Send.{IsSend, IsSync, param_send, sendable}
use Rattle.std.proofs.Crossing.{crosses as std_crosses}
use Rattle.tree_shape.proofs.tree.Tree.TheLaws.TheKnot.{both_send-Tree as tree_send, both_sync-Tree as tree_sync}
use Rattle.tree_shape.proofs.tree.Block.TheSendSync as Block
use Rattle.row_leaf.proofs.leaf.RowLeaf.TheSendSync as RowLeaf
use Rattle.range_tree.specs.contracts.rows.Rows as Rows

pub rows_send : IsSend Rows.the_row
rows_send = search (sendable, std_crosses, tree_send, Block.the_send, Block.the_sync, RowLeaf.the_send, RowLeaf.the_sync) depth 20

pub rows_sync : IsSync Rows.the_row
rows_sync = search (sendable, std_crosses, tree_sync, Block.the_send, Block.the_sync, RowLeaf.the_send, RowLeaf.the_sync) depth 20

-- what a call of a map asks of its folds
pub rows_sent : IsSend (param 3 Rows.the_row)
rows_sent = param_send 3 Rows.the_row rows_send

pub ruleset crosses = (rows_send, rows_sync, sendable, std_crosses, tree_send, tree_sync, Block.the_send, Block.the_sync, RowLeaf.the_send, RowLeaf.the_sync)
