use Rattle.std.proofs.Common.{◌≡◌, [], length, replicate}
use Rattle.seq_tool.specs.Registers.{lists_of}
use Rattle.seq_tool.proofs.registers.empty_registers.Given as goal

abbrev pub invariant-loop : goal.invariant-loop
invariant-loop l = (length l.registers.items ≡ l.counter) × (lists_of l.registers.items ≡ replicate l.counter [])
