use Rattle.std.proofs.Common.{◌≡◌, take}
use Rattle.std.specs.List.{flat_map}
use Rattle.served_map.proofs.bulk.ops_of.Given as goal

abbrev pub invariant-loop-batch : goal.invariant-loop-batch
invariant-loop-batch l = l.ops.items ≡ flat_map (λ batch. batch) (take l.batch-index l.batches)
