use Rattle.std.proofs.Common.{subst}
use Rattle.interval_map.specs.IntervalMaps.{IsIntervalMap}
use Rattle.interval_map.proofs.valued.IntervalMap.len.Goals as goal

pub returns-clause-intervals : goal.returns-clause-intervals
returns-clause-intervals g c =
    let made : IsIntervalMap g.E.Ord.cmp c.self.inside.map = record { increasing = c.len.ensures.increasing; ends = c.self.invariant } in
    subst (IsIntervalMap g.E.Ord.cmp) c.self.view_is made
