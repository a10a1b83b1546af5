use Rattle.std.specs.Ordering.{nat_cmp}
use Rattle.interval_map.specs.IntervalMaps.{AreIntervals}
use Rattle.library_bench.proofs.spans.entries_of.Given as goal

abbrev pub invariant-loop-interval : goal.invariant-loop-interval
invariant-loop-interval l = AreIntervals nat_cmp l.entries.items
