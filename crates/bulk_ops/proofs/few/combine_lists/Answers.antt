use Rattle.std.proofs.Common.{◌≡◌, length, ap, ◌∙◌, arith}
use Rattle.bulk_ops.proofs.few.combine_lists.Goals as goal

pub returns-clause-cost : goal.returns-clause-cost
returns-clause-cost g c =
    let listed : length c.deref.result.now ≡ length c.args.tree.now.entries = ap length c.deref.ensures.value ∙ ap length c.in_ok-entries.ensures in
    let made = (g.met.W.Combination.laws c.args.how.now).short c.deref.result.now c.args.few.now in
    let both = ap length c.in_ok-both.ensures.value in
    omega (arith, listed, made, both, c.combine_slices.ensures.cost, c.tree_of_counted.ensures.cost)
