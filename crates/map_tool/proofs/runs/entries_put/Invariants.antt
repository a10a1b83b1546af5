use Rattle.std.proofs.Common.{◌≡◌, take}
use Rattle.map_tool.specs.Runs.{puts_into}
use Rattle.map_tool.proofs.runs.entries_put.Given as goal

abbrev pub invariant-loop-command : goal.invariant-loop-command
invariant-loop-command l = take l.command-index l.commands ≡ puts_into l.number l.entries.items
