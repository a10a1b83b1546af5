use Rattle.graph_snap.proofs.Crosses.{crosses}
use Rattle.check_tool.proofs.checking.check_gserve.Goals as goal

pub check-requires-send-S : goal.check-requires-send-S
check-requires-send-S g c κs within = search crosses depth 40

pub check-requires-sync-S : goal.check-requires-sync-S
check-requires-sync-S g c κs within = search crosses depth 40
