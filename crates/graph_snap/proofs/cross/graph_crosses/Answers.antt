use Rattle.graph_snap.proofs.Crosses.{crosses}
use Rattle.graph_snap.proofs.cross.graph_crosses.Goals as goal

pub crosses-requires-send-T : goal.crosses-requires-send-T
crosses-requires-send-T c κs = search crosses depth 20

pub crosses-requires-sync-T : goal.crosses-requires-sync-T
crosses-requires-sync-T c κs = search crosses depth 20
