use Rattle.std.proofs.Common.{◌≡◌, ◌++◌, take}
use Rattle.std.specs.List.{flat_map}
use Rattle.index_tool.specs.Effects.{outcome_line}
use Rattle.index_tool.proofs.batch.outcome_lines.Given as goal

abbrev pub invariant-loop-outcome : goal.invariant-loop-outcome
invariant-loop-outcome l = l.text.items ≡ l.fn.text.items ++ flat_map outcome_line (take l.outcome-index l.outcomes)
