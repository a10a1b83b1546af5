use Rattle.std.proofs.Common.{length, ap, ap₂, ◌∙◌}
use Rattle.std.proofs.lemmas.Result.{IfOk-weaker}
use Rattle.bulk_ops.proofs.Bounds.{combination_pays}
use Rattle.bulk_ops.proofs.counted.combine_counted.Goals as goal

pub returns-clause-entries : goal.returns-clause-entries
returns-clause-entries g c = IfOk-weaker c.divide_alone.result _ _ (λ out is. is ∙ ap₂ (g.W.Combination.combined c.args.how.now) c.in_ok-sides.ensures.near c.in_ok-sides.ensures.far) c.divide_alone.ensures.answer

pub returns-clause-cost : goal.returns-clause-cost
returns-clause-cost g c = IfOk-weaker c.divide_alone.result _ _ (λ out cost levels enough.
    combination_pays g.M.Shape.BLOCK g.M.Leaf.Leaf.FIND (length c.args.a.now.entries) (length c.in_ok-sides.sides.0.entries) (length c.args.b.now.entries) (length c.in_ok-sides.sides.1.entries) levels c.args.steps.now c.divide_alone.new.steps
    (ap length c.in_ok-sides.ensures.near) (ap length c.in_ok-sides.ensures.far) enough cost) c.divide_alone.ensures.cost
