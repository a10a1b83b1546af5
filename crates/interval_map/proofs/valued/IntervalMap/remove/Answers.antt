use Rattle.std.proofs.Common.{ap₂, ◌∙◌}
use Rattle.std.proofs.lemmas.Result.{IfOk-weaker}
use Rattle.std.specs.Ordering.{is_ne}
use Rattle.aug_monoid.specs.Spans.{span_cmp}
use Rattle.map_model.specs.Entries.{lookup}
use Rattle.map_model.proofs.Keys.{AllKeys-filter}
use Rattle.interval_map.specs.IntervalMaps.{AreIntervals, IsInterval}
use Rattle.interval_map.proofs.Kept.{left_by}
use Rattle.interval_map.proofs.valued.IntervalMap.remove.Goals as goal

pub invariant_of-self : goal.invariant_of-self
invariant_of-self g c =
    let order = g.E.Ord.cmp in
    left_by (AreIntervals order) c.remove.result c.remove.ensures.entries c.remove.ensures.kept
    (AllKeys-filter (IsInterval order) (λ e. is_ne (span_cmp order e.0 c.in_ok-ends.ends)) c.self.inside.map c.self.invariant)
    c.self.invariant

pub returns-clause-value : goal.returns-clause-value
returns-clause-value g c =
    IfOk-weaker c.remove.result _ _ (λ old is. is ∙ ap₂ (lookup (span_cmp g.E.Ord.cmp)) c.self.view_is c.in_ok-ends.ensures.value) c.remove.ensures.value
