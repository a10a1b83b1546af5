use Rattle.std.proofs.Common.{◌≡◌, ◌++◌, drop}
use Rattle.std.specs.List.{AllByRecursion}
use Rattle.map_records.specs.MapRecords.{HasRegisters}
use Rattle.map_tool.specs.Effects.{map_after, map_reply}
use Rattle.map_tool.specs.Registers.{maps_of}
use Rattle.map_tool.specs.Runs.{after_all}
use Rattle.script.specs.Replies.{replies}
use Rattle.map_tool.proofs.running.run_each.Given as goal

abbrev pub invariant-loop-command : goal.invariant-loop-command
invariant-loop-command g l = record {
  lawful : AllByRecursion HasRegisters (drop l.command-index l.commands);
  said : l.initial.run.text.items ++ replies map_reply map_after (maps_of l.initial.run.registers) l.commands ≡ l.run.text.items ++ replies map_reply map_after (maps_of l.run.registers) (drop l.command-index l.commands);
  done : after_all (maps_of l.initial.run.registers) l.commands ≡ after_all (maps_of l.run.registers) (drop l.command-index l.commands);
}
