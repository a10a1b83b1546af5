use Rattle.std.proofs.Common.{◌≡◌, ◌++◌}
use Rattle.std.specs.Map.{keys_of}
use Rattle.ord_map.proofs.map.OrdMap.keys.Given as goal

abbrev pub invariant-loop-entry : goal.invariant-loop-entry
invariant-loop-entry g l = keys_of l.self ≡ l.keys.items ++ keys_of l.entry-iterator
