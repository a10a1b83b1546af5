use Rattle.graph_snap.proofs.Crosses.{crosses}
use Rattle.graph_snap.proofs.search.near_pairs.Goals as goal

pub set_of-requires-send-W : goal.set_of-requires-send-W
set_of-requires-send-W g c κs = search crosses depth 20

pub set_of-requires-sync-W : goal.set_of-requires-sync-W
set_of-requires-sync-W g c κs = search crosses depth 20
