use Rattle.std.specs.List.{AllByRecursion}
use Rattle.interval_map.specs.Intervals.{IsInterval}
use Rattle.library_bench.proofs.intervals.random_intervals.Given as goal

abbrev pub invariant-loop : goal.invariant-loop
invariant-loop l = AllByRecursion IsInterval l.intervals.items
