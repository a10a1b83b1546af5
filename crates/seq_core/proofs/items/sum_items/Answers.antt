use Rattle.std.proofs.Common.{refl, arith}
use Rattle.seq_core.proofs.Sums.{sum-take_more}
use Rattle.seq_core.proofs.items.sum_items.Goals as goal

pub loop-item-preserved : goal.loop-item-preserved
loop-item-preserved g c =
    let law = g.met.F.Fold in
    let more = sum-take_more law.monoid law.image_fits c.args.items.now c.loop-item.item-index c.item-item.result c.loop-item-test.true c.item-item.is in
    (rw (more, c.combine-sum.ensures.value, c.loop-item.invariant.0, c.of.ensures) refl, omega (arith, c.loop-item.invariant.1, c.combine-sum.ensures.one_step))
