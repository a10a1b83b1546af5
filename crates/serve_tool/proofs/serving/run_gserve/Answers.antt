use Rattle.graph_snap.proofs.Crosses.{crosses}
use Rattle.serve_tool.proofs.serving.run_gserve.Goals as goal

pub run_served-requires-send-S : goal.run_served-requires-send-S
run_served-requires-send-S g c κs within = search crosses depth 40

pub run_served-requires-sync-S : goal.run_served-requires-sync-S
run_served-requires-sync-S g c κs within = search crosses depth 40
