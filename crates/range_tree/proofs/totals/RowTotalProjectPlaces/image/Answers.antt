use Rattle.range_tree.proofs.Few.{rows_within}
use Rattle.range_tree.proofs.totals.RowTotalProjectPlaces.image.Goals as goal

pub returns-clause-cost : goal.returns-clause-cost
returns-clause-cost g c most cost = rows_within c.args.aug.now c.map-map.result.now.entries c.map-map.result.now.height most _ _ c.map-map.ensures c.height-height.ensures.law cost c.total_between.ensures.cost
