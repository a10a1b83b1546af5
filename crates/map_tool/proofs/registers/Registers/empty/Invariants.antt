use Rattle.std.proofs.Common.{◌≡◌, [], length, replicate}
use Rattle.map_tool.specs.Registers.{maps_of}
use Rattle.map_tool.proofs.registers.Registers.empty.Given as goal

abbrev pub invariant-loop : goal.invariant-loop
invariant-loop l = (length l.maps.items ≡ l.counter) × (maps_of l.maps.items ≡ replicate l.counter [])
