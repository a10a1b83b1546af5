use Rattle.std.proofs.Common.{◌≡◌, [], map, ap, ap₂, ◌∙◌}
use Rattle.std.proofs.lemmas.Result.{IfOk-weaker}
use Rattle.aug_monoid.specs.Exact.{pair64_cmp}
use Rattle.map_model.specs.Fold.{range_fold}
use Rattle.range_tree.specs.Listings.{rows_points}
use Rattle.range_tree.specs.Points.{inside, point_of}
use Rattle.range_tree.specs.Rows.{row_of, rows_of_both}
use Rattle.range_tree.proofs.Inside.{points_are_inside}
use Rattle.range_tree.proofs.tree.Points.list.Goals as goal

pub returns : goal.returns
returns c =
    let m = c.self.inside.map.entries in
    let rect = c.args.rect in
    let found : rows_points rect.y1 rect.y2 (range_fold pair64_cmp row_of [] rows_of_both m c.least_at.result c.greatest_at.result) ≡ inside rect m = ap₂ (λ lo hi. rows_points rect.y1 rect.y2 (range_fold pair64_cmp row_of [] rows_of_both m lo hi)) c.least_at.ensures c.greatest_at.ensures ∙ points_are_inside rect m c.size-number.ensures.increasing c.self.invariant in
    let listed : c.entries.result.now ≡ inside rect c.args.self.now = c.entries.ensures ∙ c.in_ok-listed.ensures ∙ found ∙ ap (inside rect) c.self.view_is in
    IfOk-weaker c.points_of.result _ _ (λ list h. h ∙ ap (map point_of) listed) c.points_of.ensures
