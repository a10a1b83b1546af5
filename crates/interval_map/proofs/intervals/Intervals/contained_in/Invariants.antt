use Rattle.std.proofs.Common.{◌≡◌, ◌++◌, nat_le}
use Rattle.std.specs.List.{filter}
use Rattle.std.specs.Map.{keys_of}
use Rattle.interval_map.specs.Intervals.{contained}
use Rattle.interval_map.proofs.intervals.Intervals.contained_in.Given as goal

abbrev pub invariant-loop-entry : goal.invariant-loop-entry
invariant-loop-entry l = contained l.self l.lo l.hi ≡ l.inside.items ++ filter (λ i. nat_le i.second l.hi) (keys_of l.entry-iterator)
