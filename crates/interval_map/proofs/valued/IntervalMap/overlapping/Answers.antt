use Rattle.std.proofs.Common.{Some, ap, ◌∙◌}
use Rattle.std.proofs.lemmas.Result.{IfOk-weaker}
use Rattle.map_model.specs.Fold.{aug_filter}
use Rattle.interval_map.specs.IntervalMaps.{overlapping}
use Rattle.interval_map.specs.RightEnds.{end_reaches}
use Rattle.interval_map.proofs.Reached.{reach-begun}
use Rattle.interval_map.proofs.valued.IntervalMap.overlapping.Goals as goal

pub returns : goal.returns
returns g c =
    let order = g.E.Ord.cmp in
    let lo = c.args.lo.now in
    let hi = c.args.hi.now in
    IfOk-weaker c.to_vec.result _ _
    (λ hits same.
    same
    ∙ c.in_ok-hits.ensures
    ∙ ap (aug_filter (λ key _. Some key.right) (end_reaches order lo)) c.in_ok-begun.ensures
    ∙ reach-begun g.met.E.Ord.total c.self.inside.map lo hi
    ∙ ap (λ m. overlapping order m lo hi) c.self.view_is)
    c.to_vec.ensures
