use Rattle.std.proofs.Common.{◌≡◌, ◌++◌, take}
use Rattle.map_tool.specs.Runs.{found_lines}
use Rattle.map_tool.proofs.gets.push_each_found.Given as goal

abbrev pub invariant-loop-val : goal.invariant-loop-val
invariant-loop-val l = l.text.items ≡ l.initial.text.items ++ found_lines (take l.val-index l.vals)
