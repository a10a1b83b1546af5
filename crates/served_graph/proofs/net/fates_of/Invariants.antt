use Rattle.std.proofs.Common.{◌≡◌, take}
use Rattle.std.specs.Prelude.{map}
use Rattle.std.specs.List.{flat_map}
use Rattle.served_graph.specs.Nets.{fate_of}
use Rattle.served_graph.proofs.net.fates_of.Given as goal

abbrev pub invariant-loop-batch : goal.invariant-loop-batch
invariant-loop-batch l = l.fates.items ≡ map fate_of (flat_map (λ batch. batch) (take l.batch-index l.batches))
