use Rattle.std.proofs.Common.{◌≡◌, length}
use Rattle.std.specs.Prelude.{fold}
use Rattle.op_runs.specs.Steps.{step}
use Rattle.served_map.proofs.bulk.apply_parts.Given as goal

abbrev pub invariant-loop-rest : goal.invariant-loop-rest
invariant-loop-rest g l = fold step l.map.entries l.rest ≡ fold step l.initial.map.entries l.ops

abbrev pub decreases-loop-rest : goal.decreases-loop-rest
decreases-loop-rest g l = length l.rest
