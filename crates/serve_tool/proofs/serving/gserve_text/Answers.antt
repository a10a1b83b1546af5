use Rattle.graph_snap.proofs.Crosses.{crosses}
use Rattle.serve_tool.proofs.serving.gserve_text.Goals as goal

pub served_text-requires-send-S : goal.served_text-requires-send-S
served_text-requires-send-S g c κs within = search crosses depth 40

pub served_text-requires-sync-S : goal.served_text-requires-sync-S
served_text-requires-sync-S g c κs within = search crosses depth 40
