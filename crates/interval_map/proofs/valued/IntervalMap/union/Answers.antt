use Rattle.std.proofs.Common.{ap₂, subst, sym, ◌∙◌}
use Rattle.aug_monoid.specs.Spans.{span_cmp}
use Rattle.map_model.specs.SetOperations.{union}
use Rattle.map_model.proofs.Unions.{AllKeys-union}
use Rattle.interval_map.specs.IntervalMaps.{AreIntervals, IsInterval}
use Rattle.interval_map.proofs.Reached.{ends_total}
use Rattle.interval_map.proofs.valued.IntervalMap.union.Goals as goal

pub invariant_of-result : goal.invariant_of-result
invariant_of-result g c =
    let order = g.E.Ord.cmp in
    subst (AreIntervals order) (sym c.in_ok-map.ensures)
    (AllKeys-union (ends_total g.met.E.Ord.total) (g.H.Resolve.resolved c.args.how.now) (IsInterval order) c.self.inside.map c.other.inside.map c.self.invariant c.other.invariant)

pub returns : goal.returns
returns g c =
    c.in_ok-map.ensures ∙ ap₂ (union (span_cmp g.E.Ord.cmp) (g.H.Resolve.resolved c.args.how.now)) c.self.view_is c.other.view_is
