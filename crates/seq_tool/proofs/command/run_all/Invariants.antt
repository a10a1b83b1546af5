use Rattle.std.proofs.Common.{◌≡◌, ◌++◌, drop, length}
use Rattle.std.specs.List.{AllByRecursion}
use Rattle.script.specs.Replies.{replies}
use Rattle.seq_tool.specs.SeqRecords.{NamesRegisters}
use Rattle.seq_tool.specs.Effects.{seq_after, seq_reply}
use Rattle.seq_tool.specs.Registers.{lists_of}
use Rattle.seq_tool.proofs.command.run_all.Given as goal

abbrev pub invariant-loop-command : goal.invariant-loop-command
invariant-loop-command g l = record {
  count : length l.registers ≡ 16;
  low : AllByRecursion NamesRegisters (drop l.command-index l.commands);
  same : replies seq_reply seq_after (lists_of l.fn.registers) l.commands ≡ l.text.items ++ replies seq_reply seq_after (lists_of l.registers) (drop l.command-index l.commands);
}
