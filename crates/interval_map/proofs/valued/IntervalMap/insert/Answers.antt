use Rattle.std.proofs.Common.{◌≡◌, IfOk, subst}
use Rattle.aug_monoid.specs.Spans.{span, span_cmp}
use Rattle.map_model.specs.Entries.{lookup}
use Rattle.map_model.proofs.Splits.{AllKeys-set}
use Rattle.interval_map.specs.IntervalMaps.{AreIntervals, IsInterval}
use Rattle.interval_map.proofs.Kept.{left_by}
use Rattle.interval_map.proofs.valued.IntervalMap.insert.Goals as goal

pub invariant_of-self : goal.invariant_of-self
invariant_of-self g c =
    let order = g.E.Ord.cmp in
    left_by (AreIntervals order) c.insert.result c.insert.ensures.entries c.insert.ensures.kept
    (AllKeys-set (span_cmp order) (IsInterval order) c.self.inside.map (span c.args.left c.args.right) c.args.val c.self.invariant c.requires)
    c.self.invariant

pub returns-clause-value : goal.returns-clause-value
returns-clause-value g c =
    subst (λ m. IfOk c.insert.result (λ old. old ≡ lookup (span_cmp g.E.Ord.cmp) m (span c.args.left c.args.right))) c.self.view_is c.insert.ensures.value
