use Rattle.std.proofs.Common.{◌≡◌}
use Rattle.versions.specs.History.{batches_in}
use Rattle.run_check.specs.Placing.{entries_in}
use Rattle.run_check.proofs.placed.batches_of.Given as goal

abbrev pub invariant-loop-p : goal.invariant-loop-p
invariant-loop-p g l = l.batches.items ≡ batches_in (entries_in l.yielded)
