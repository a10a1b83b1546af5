use denote.Param.Send.{sendable}
use Rattle.range_tree.proofs.Crosses.{crosses, rows_send, rows_sync}
use Rattle.range_tree.proofs.cross.points_cross.Goals as goal

pub crosses-requires-send-T : goal.crosses-requires-send-T
crosses-requires-send-T c κs = search crosses depth 20

pub crosses-requires-sync-T : goal.crosses-requires-sync-T
crosses-requires-sync-T c κs = search crosses depth 20

pub crosses-requires-2-send-T : goal.crosses-requires-2-send-T
crosses-requires-2-send-T c κs = search (rows_send, sendable) depth 20

pub crosses-requires-2-sync-T : goal.crosses-requires-2-sync-T
crosses-requires-2-sync-T c κs = search (rows_sync, sendable) depth 20
