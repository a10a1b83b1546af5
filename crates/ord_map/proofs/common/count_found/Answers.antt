use Rattle.std.proofs.Common.{arith}
use Rattle.map_model.proofs.Lengths.{length-intersect_le}
use Rattle.ord_map.proofs.common.count_found.Goals as goal

pub overflow_add-count : goal.overflow_add-count
overflow_add-count g c =
    let so_far = c.loop-key.invariant in
    let most = length-intersect_le g.A.Key.Ord.cmp (λ a _. a) c.args.few.now c.args.many.now in
    let len = c.len-number.ensures.value in
    let fits = c.len-number.ensures.fits in
    omega (arith, so_far, most, len, fits)
