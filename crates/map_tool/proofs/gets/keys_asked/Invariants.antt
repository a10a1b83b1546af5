use Rattle.std.proofs.Common.{◌≡◌, take}
use Rattle.map_tool.specs.Runs.{gets_from}
use Rattle.map_tool.proofs.gets.keys_asked.Given as goal

abbrev pub invariant-loop-command : goal.invariant-loop-command
invariant-loop-command l = take l.command-index l.commands ≡ gets_from l.number l.keys.items
