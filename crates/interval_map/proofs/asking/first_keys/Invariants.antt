use Rattle.std.proofs.Common.{◌≡◌, ◌≤◌, ◌++◌, length}
use Rattle.std.specs.Map.{keys_of}
use Rattle.interval_map.proofs.asking.first_keys.Given as goal

abbrev pub invariant-loop-entry : goal.invariant-loop-entry
invariant-loop-entry l = (keys_of l.map ≡ l.keys.items ++ keys_of l.entry-iterator) × (length l.keys.items ≤ l.count)
