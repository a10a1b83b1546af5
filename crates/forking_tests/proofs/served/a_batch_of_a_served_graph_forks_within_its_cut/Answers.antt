use Rattle.graph_snap.proofs.Crosses.{crosses}
use Rattle.forking_tests.proofs.served.a_batch_of_a_served_graph_forks_within_its_cut.Goals as goal

pub forks_by_cuts-requires-send-S : goal.forks_by_cuts-requires-send-S
forks_by_cuts-requires-send-S g c κs = search crosses depth 40

pub forks_by_cuts-requires-sync-S : goal.forks_by_cuts-requires-sync-S
forks_by_cuts-requires-sync-S g c κs = search crosses depth 40
