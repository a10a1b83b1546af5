use Rattle.std.proofs.Common.{◌≡◌, map, take}
use Rattle.interval_map.specs.Numbers.{number_of}
use Rattle.interval_map.proofs.sorting.numbers_of.Given as goal

abbrev pub invariant-loop-interval : goal.invariant-loop-interval
invariant-loop-interval l = l.numbers.items ≡ map number_of (take l.interval-index l.intervals)
