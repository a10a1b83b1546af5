use Rattle.std.proofs.Common.{◌≡◌, map, take}
use Rattle.std.specs.Map.{keys_of}
use Rattle.interval_map.specs.Numbers.{interval_of}
use Rattle.interval_map.proofs.sorting.entries_of.Given as goal

abbrev pub invariant-loop-number : goal.invariant-loop-number
invariant-loop-number l = keys_of l.entries.items ≡ map interval_of (take l.number-index l.numbers)
