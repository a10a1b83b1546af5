use Rattle.std.proofs.Common.{◌≡◌, take}
use Rattle.versions.specs.History.{after}
use Rattle.serving_tests.specs.Sums.{sum_up}
use Rattle.serving_tests.proofs.guarded.GuardedState.change.Given as goal

abbrev pub invariant-loop-batch : goal.invariant-loop-batch
invariant-loop-batch g l = l.total ≡ after sum_up l.self (take l.batch-index l.batches)
