-- Maps of sets cross threads, by the laws of their parts. An answer writes a fact anew as a record, since what a call asks is of the same
-- type in another writing.
use denote.Param.{param}
use denote.Param.Send.{IsSend, IsSync, param_send, sendable}
use denote.RattleType.{RattleType}
use denote.Struct.Field.{u64-field}
use Rattle.std.proofs.Crossing.{crosses as std_crosses}
use Rattle.std.specs.contracts.prelude.U64Ord.TheImpl as ordered
use Rattle.std.specs.contracts.prelude.U64PartialEq.TheImpl as equal
use Rattle.std.specs.contracts.prelude.U64PartialOrd.TheImpl as compared
use Rattle.aug_monoid.specs.contracts.share.U64Share.TheImpl as shared
use Rattle.tree_shape.proofs.tree.Tree.TheLaws.TheKnot.{both_send-Tree as tree_send, both_sync-Tree as tree_sync}
use Rattle.tree_shape.proofs.tree.Block.TheSendSync as Block
use Rattle.leaf_blocks.proofs.plain_leaf.PlainLeaf.TheSendSync as PlainLeafSent
use Rattle.leaf_blocks.specs.contracts.plain_leaf.PlainLeaf as PlainLeaf
use Rattle.diff_leaf.proofs.leaf.NumberLeaf.TheSendSync as NumberLeaf
use Rattle.graph_snap.specs.contracts.neighbours.Neighbours as Neighbours
use Rattle.graph_snap.specs.contracts.neighbours.NeighboursShare.TheImpl as set_shared

pub set_send : IsSend Neighbours.the_row
set_send = search (sendable, std_crosses, tree_send, Block.the_send, Block.the_sync, NumberLeaf.the_send, NumberLeaf.the_sync) depth 20

pub set_sync : IsSync Neighbours.the_row
set_sync = search (sendable, std_crosses, tree_sync, Block.the_send, Block.the_sync, NumberLeaf.the_send, NumberLeaf.the_sync) depth 20

-- a block of vertices with their sets
abbrev pub block : RattleType
block = PlainLeaf.the_row u64-field.row Neighbours.the_row shared.ghosts ordered.ghosts equal.ghosts compared.ghosts set_shared.ghosts

pub block_send : IsSend block
block_send = PlainLeafSent.the_send u64-field.row Neighbours.the_row shared.ghosts ordered.ghosts equal.ghosts compared.ghosts set_shared.ghosts (search sendable) set_send

pub block_sync : IsSync block
block_sync = PlainLeafSent.the_sync u64-field.row Neighbours.the_row shared.ghosts ordered.ghosts equal.ghosts compared.ghosts set_shared.ghosts (search sendable) set_sync

-- what a call of a map asks of its blocks, its last parameter, and of its values
pub block_sent : IsSend (param 5 block)
block_sent = param_send 5 block block_send

pub set_sent : IsSend (param 2 Neighbours.the_row)
set_sent = param_send 2 Neighbours.the_row set_send

pub ruleset crosses = (set_send, set_sync, sendable, std_crosses, tree_send, tree_sync, Block.the_send, Block.the_sync, PlainLeafSent.the_send, PlainLeafSent.the_sync)
