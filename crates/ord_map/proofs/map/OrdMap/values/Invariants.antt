use Rattle.std.proofs.Common.{◌≡◌, ◌++◌}
use Rattle.std.specs.Map.{values_of}
use Rattle.ord_map.proofs.map.OrdMap.values.Given as goal

abbrev pub invariant-loop-entry : goal.invariant-loop-entry
invariant-loop-entry g l = values_of l.self ≡ l.vals.items ++ values_of l.entry-iterator
