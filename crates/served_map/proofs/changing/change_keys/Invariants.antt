use Rattle.std.proofs.Common.{take}
use Rattle.op_runs.specs.Runs.{IsChangedBy}
use Rattle.served_map.proofs.changing.change_keys.Given as goal

abbrev pub invariant-loop-key : goal.invariant-loop-key
invariant-loop-key g l = IsChangedBy (take l.key-index l.outcomes) l.initial.map.entries l.map.entries
