use Rattle.map_folds.specs.RunLists.{tells_runs}
use Rattle.map_folds.proofs.longest_run.folds_longest_runs.Goals as goal

pub returns : goal.returns
returns g c = tells_runs
