use Rattle.std.proofs.Common.{◌≡◌, take}
use Rattle.versions.specs.History.{after}
use Rattle.root_bench.specs.Sums.{sum_up}
use Rattle.root_bench.proofs.total.TotalState.change.Given as goal

abbrev pub invariant-loop-batch : goal.invariant-loop-batch
invariant-loop-batch g l = l.total ≡ after sum_up l.self (take l.batch-index l.batches)
