use Rattle.std.proofs.Common.{◌≡◌, ◌++◌}
use Rattle.std.specs.List.{filter}
use Rattle.std.specs.Ordering.{is_le}
use Rattle.interval_map.specs.IntervalMaps.{contained}
use Rattle.interval_map.proofs.valued.IntervalMap.contained_in.Given as goal

abbrev pub invariant-loop-entry : goal.invariant-loop-entry
invariant-loop-entry g l = contained g.E.Ord.cmp l.self l.lo l.hi ≡ l.inside.items ++ filter (λ e. is_le (g.E.Ord.cmp e.0.right l.hi)) l.entry-iterator
