use Rattle.std.proofs.Common.{subst}
use Rattle.interval_map.specs.Intervals.{IsIntervals}
use Rattle.interval_map.proofs.Keys.{keys_are}
use Rattle.interval_map.proofs.intervals.Intervals.size.Goals as goal

pub returns-clause-intervals : goal.returns-clause-intervals
returns-clause-intervals c = subst IsIntervals c.self.view_is (keys_are c.self.inside.map c.len.ensures.increasing c.self.invariant)
