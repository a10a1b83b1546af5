use Rattle.std.proofs.Common.{◌≡◌, ◌++◌, length}
use Rattle.std.specs.List.{AllByRecursion}
use Rattle.map_records.specs.MapRecords.{HasRegisters}
use Rattle.map_tool.specs.Effects.{map_after, map_reply}
use Rattle.map_tool.specs.Registers.{empty_registers, maps_of}
use Rattle.script.specs.Replies.{replies}
use Rattle.map_tool.proofs.running.run_all.Given as goal

abbrev pub invariant-loop-rest : goal.invariant-loop-rest
invariant-loop-rest g l = record {
  lawful : AllByRecursion HasRegisters l.rest;
  same : replies map_reply map_after empty_registers l.commands ≡ l.run.text.items ++ replies map_reply map_after (maps_of l.run.registers) l.rest;
}

abbrev pub decreases-loop-rest : goal.decreases-loop-rest
decreases-loop-rest g l = length l.rest
