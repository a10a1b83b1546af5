use Rattle.std.proofs.Common.{◌≡◌, ◌++◌, take}
use Rattle.map_tool.specs.Runs.{ok_lines}
use Rattle.map_tool.proofs.runs.push_oks.Given as goal

abbrev pub invariant-loop-size : goal.invariant-loop-size
invariant-loop-size l = l.text.items ≡ l.initial.text.items ++ ok_lines (take l.size-index l.sizes)
