use Rattle.std.proofs.Common.{is_none, subst, sym}
use Rattle.aug_monoid.specs.Spans.{span_cmp}
use Rattle.map_model.specs.Entries.{lookup}
use Rattle.map_model.proofs.Keys.{AllKeys-filter}
use Rattle.interval_map.specs.IntervalMaps.{AreIntervals, IsInterval}
use Rattle.interval_map.proofs.valued.IntervalMap.difference.Goals as goal

pub invariant_of-result : goal.invariant_of-result
invariant_of-result g c =
    let order = g.E.Ord.cmp in
    subst (AreIntervals order) (sym c.in_ok-map.ensures)
    (AllKeys-filter (IsInterval order) (λ e. is_none (lookup (span_cmp order) c.other.inside.map e.0)) c.self.inside.map c.self.invariant)
