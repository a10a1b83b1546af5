use Rattle.std.proofs.Common.{rules, ◌≡◌, ◌+◌, ◌-◌, ◌/◌, ◌<◌, ◌++◌, take, drop, ap, ◌∙◌, arith}
use Rattle.std.proofs.Math.Seq.{take-add}
use Rattle.std.proofs.lemmas.List.{drop-drop}
use Rattle.std.proofs.lemmas.Result.{IfOk-weaker}
use Rattle.map_model.specs.Fold.{reduce}
use Rattle.map_model.proofs.Folds.{fold-append}
use Rattle.bulk_passes.proofs.Halves.{refused, half_fewer, half_some, half_inside, rest_fewer, rest_some, rest_inside, front_cost, back_cost, halves_cost, halves_moved}
use Rattle.bulk_passes.proofs.block.+reduce_next.Goals as goal

pub returns-clause-value : goal.returns-clause-value
returns-clause-value g t c =
    let laws = g.met.W.Reduce in
    let how = c.args.how.now in
    let entries = g.L.Leaf.entries c.args.leaf.now in
    let at = c.args.walk.now.index in
    let count = c.args.count in
    let half = count / 2 in
    let reduced = reduce (g.W.Reduce.image_of how) (g.W.Reduce.unit_of how) (g.W.Reduce.combined how) in
    let whole : take count (drop at entries) ≡ take half (drop at entries) ++ take (count - half) (drop (at + half) entries) =
    ap (λ n. take n (drop at entries)) (omega arith) ∙ take-add half (count - half) (drop at entries) ∙ ap (λ x. take half (drop at entries) ++ take (count - half) x) (drop-drop half at entries) in
    let joined : reduced (take count (drop at entries)) ≡ g.W.Reduce.combined how c.in_ok-front.front c.in_ok-back.back =
    rw (c.in_ok-front.ensures.value, rw c.in_ok-front.ensures.moved at c.in_ok-back.ensures.value) (ap reduced whole ∙ fold-append (laws.monoid how) (laws.image_fits how) _ _) in
    rw joined c.combine_two.ensures.value

pub reduce_next-requires : goal.reduce_next-requires
reduce_next-requires g t c κs within =
    let fewer : c.args.count / 2 < c.args.count = half_fewer _ c.if-count-le-RUN.false in
    let some : 0 < c.args.count / 2 = half_some _ c.if-count-le-RUN.false in
    let inside = half_inside _ _ _ c.requires.inside in
    search rules

pub reduce_next-requires-2 : goal.reduce_next-requires-2
reduce_next-requires-2 g t c κs within =
    let fewer : c.args.count - c.args.count / 2 < c.args.count = rest_fewer _ c.if-count-le-RUN.false in
    let some : 0 < c.args.count - c.args.count / 2 = rest_some _ c.if-count-le-RUN.false in
    let inside = rest_inside _ _ _ _ c.in_ok-front.ensures.moved c.requires.inside in
    search rules

pub returns-in_err-front-clause-place : goal.returns-in_err-front-clause-place
returns-in_err-front-clause-place g t c = c.in_err-front.ensures.place

pub returns-in_err-front-clause-cost : goal.returns-in_err-front-clause-cost
returns-in_err-front-clause-cost g t c = front_cost _ _ _ c.in_err-front.ensures.cost

pub returns-in_err-back-clause-place : goal.returns-in_err-back-clause-place
returns-in_err-back-clause-place g t c = c.in_err-back.ensures.place

pub returns-in_err-back-clause-cost : goal.returns-in_err-back-clause-cost
returns-in_err-back-clause-cost g t c = back_cost _ _ _ _ c.in_ok-front.ensures.cost c.in_err-back.ensures.cost

pub returns-clause-moved : goal.returns-clause-moved
returns-clause-moved g t c = IfOk-weaker c.combine_two.result _ _ (λ _ _. halves_moved _ _ _ _ c.in_ok-front.ensures.moved c.in_ok-back.ensures.moved) c.combine_two.ensures.value

pub returns-clause-place : goal.returns-clause-place
returns-clause-place g t c = c.in_ok-back.ensures.place

pub returns-clause-cost : goal.returns-clause-cost
returns-clause-cost g t c = halves_cost _ _ _ _ _ c.in_ok-front.ensures.cost c.in_ok-back.ensures.cost c.combine_two.ensures.one_step

pub returns-in_err-front-clause-value : goal.returns-in_err-front-clause-value
returns-in_err-front-clause-value g t c = refused c.from_residual.result _ _ c.from_residual.ensures.1

pub returns-in_err-front-clause-moved : goal.returns-in_err-front-clause-moved
returns-in_err-front-clause-moved g t c = refused c.from_residual.result _ _ c.from_residual.ensures.1

pub returns-in_err-back-clause-value : goal.returns-in_err-back-clause-value
returns-in_err-back-clause-value g t c = refused c.from_residual-in_err-back.result _ _ c.from_residual-in_err-back.ensures.1

pub returns-in_err-back-clause-moved : goal.returns-in_err-back-clause-moved
returns-in_err-back-clause-moved g t c = refused c.from_residual-in_err-back.result _ _ c.from_residual-in_err-back.ensures.1
