use Rattle.std.proofs.Common.{◌≡◌, take}
use Rattle.op_runs.specs.Steps.{step}
use Rattle.versions.specs.History.{after}
use Rattle.served_map.proofs.bulk.apply_each.Given as goal

abbrev pub invariant-loop-batch : goal.invariant-loop-batch
invariant-loop-batch g l = l.map.entries ≡ after step l.initial.map.entries (take l.batch-index l.batches)
