use Rattle.std.proofs.Common.{◌≡◌, take}
use Rattle.std.specs.Prelude.{fold}
use Rattle.op_runs.specs.Steps.{step}
use Rattle.served_map.proofs.applying.apply_all.Given as goal

abbrev pub invariant-loop-op : goal.invariant-loop-op
invariant-loop-op g l = l.map.entries ≡ fold step l.initial.map.entries (take l.op-index l.ops)
