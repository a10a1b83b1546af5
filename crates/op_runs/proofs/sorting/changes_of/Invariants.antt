use Rattle.std.proofs.Common.{◌≡◌, take}
use Rattle.std.specs.List.{filter_map}
use Rattle.op_runs.specs.Steps.{change_of}
use Rattle.op_runs.proofs.sorting.changes_of.Given as goal

abbrev pub invariant-loop-op : goal.invariant-loop-op
invariant-loop-op l = l.changes.items ≡ filter_map change_of (take l.op-index l.ops)
