use Rattle.std.proofs.Common.{ap, ◌∙◌}
use Rattle.std.specs.List.{slice_range}
use Rattle.ord_map.proofs.Between.{between}
use Rattle.ord_map.proofs.map.OrdMap.range_ref.Goals as goal

pub returns : goal.returns
returns g c =
    c.iter_ref_between.ensures
    ∙ ap (λ m. slice_range m c.start_place-from.result c.end_place-to.result) c.self.view_is
    ∙ between g.met.A.Key.Ord.total _ _ c.args.self.now c.start_place-from.result c.end_place-to.result c.len-number.ensures.increasing c.start_place-from.ensures c.end_place-to.ensures
