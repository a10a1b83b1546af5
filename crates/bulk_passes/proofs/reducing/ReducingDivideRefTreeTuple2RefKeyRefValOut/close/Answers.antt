use Rattle.std.proofs.Common.{sym, ap, ◌∙◌}
use Rattle.std.proofs.lemmas.Result.{IfOk-weaker}
use Rattle.map_model.specs.Fold.{reduce}
use Rattle.map_model.proofs.Folds.{fold-around}
use Rattle.bulk_passes.proofs.reducing.ReducingDivideRefTreeTuple2RefKeyRefValOut.close.Goals as goal

pub returns-clause-answer : goal.returns-clause-answer
returns-clause-answer g c =
    let how = c.args.self.now.how.now in
    let laws = g.met.W.Reduce in
    IfOk-weaker c.combine_around.result _ _ (λ out combined part front back is front_is back_is.
    let node = fold-around (laws.monoid how) (laws.image_fits how) front.now.entries c.args.middle.0.now c.args.middle.1.now back.now.entries in
    combined ∙ rw (front_is, back_is) (sym node) ∙ ap (reduce (g.W.Reduce.image_of how) (g.W.Reduce.unit_of how) (g.W.Reduce.combined how)) (sym is)) c.combine_around.ensures.value

pub returns-clause-cost : goal.returns-clause-cost
returns-clause-cost g c = IfOk-weaker c.combine_around.result _ _ (λ out combined part front back is front_is back_is. c.combine_around.ensures.cost) c.combine_around.ensures.value
