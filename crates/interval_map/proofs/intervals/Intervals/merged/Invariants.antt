use Rattle.std.proofs.Common.{◌≡◌, ◌++◌}
use Rattle.std.specs.Map.{keys_of}
use Rattle.interval_map.proofs.Joins.{all_joined, joined}
use Rattle.interval_map.proofs.intervals.Intervals.merged.Given as goal

abbrev pub invariant-loop-entry : goal.invariant-loop-entry
invariant-loop-entry l = all_joined l.self ≡ l.merged.items ++ joined l.last (keys_of l.entry-iterator)
