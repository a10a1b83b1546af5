use Rattle.std.proofs.Common.{◌≡◌, ◌^◌, ◌<◌, [], length, ap, ap₂, ◌∙◌, arith}
use Rattle.std.proofs.lemmas.Result.{IfOk-weaker}
use Rattle.aug_monoid.specs.Exact.{pair64_cmp}
use Rattle.map_model.specs.Fold.{range_fold}
use Rattle.range_tree.specs.Points.{inside, total_of}
use Rattle.range_tree.specs.Rows.{row_of, rows_of_both}
use Rattle.range_tree.specs.Totals.{rows_total}
use Rattle.range_tree.specs.Costs.{IsHighest, rows_cost}
use Rattle.range_tree.proofs.Few.{costs_of_parts, sum_within}
use Rattle.range_tree.proofs.Inside.{total_is_inside}
use Rattle.range_tree.proofs.tree.Points.sum_counted.Goals as goal

pub returns-clause-total : goal.returns-clause-total
returns-clause-total g c =
    let m = c.self.inside.map.entries in
    let rect = c.args.rect in
    let few : length m < 2 ^ 60 = omega (arith, c.size-number.ensures.value, c.size-number.ensures.fits) in
    let found : rows_total rect.y1 rect.y2 (range_fold pair64_cmp row_of [] rows_of_both m c.least_at-lo.result c.greatest_at-hi.result) ≡ total_of (inside rect m) = ap₂ (λ lo hi. rows_total rect.y1 rect.y2 (range_fold pair64_cmp row_of [] rows_of_both m lo hi)) c.least_at-lo.ensures c.greatest_at-hi.ensures ∙ total_is_inside rect m c.size-number.ensures.increasing c.self.invariant few in
    IfOk-weaker c.aug_project_in_steps.result _ _ (λ total h. h ∙ found ∙ ap (λ z. total_of (inside rect z)) c.self.view_is) c.aug_project_in_steps.ensures.value

pub returns-clause-cost : goal.returns-clause-cost
returns-clause-cost g c height highest =
    let m = c.self.inside.map.entries in
    let levels : IsHighest (length m) height = rw c.self.view_is highest in
    sum_within m c.self.inside.map.height height _ _ c.height-height.ensures.law levels (c.aug_project_in_steps.ensures.cost (rows_cost height) (costs_of_parts m height levels))
