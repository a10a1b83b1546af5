use Rattle.std.proofs.Common.{◌≡◌, map, take}
use Rattle.map_model.specs.Fold.{range_fold}
use Rattle.ord_map.proofs.map.OrdMap.fold_many.Given as goal

abbrev pub invariant-loop-lo : goal.invariant-loop-lo
invariant-loop-lo g l = l.folds.items ≡ map (λ r. range_fold g.A.Key.Ord.cmp g.A.Augment.base_of g.A.Augment.unit_of g.A.Augment.combined l.self r.0 r.1) (take l.lo-index l.ranges)
