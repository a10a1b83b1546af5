use Rattle.std.proofs.Common.{◌≡◌, ◌∙◌, length, sym, ap, arith}
use Rattle.entry_lists.proofs.slicing.cut_front.Goals as goal

pub returns-clause-cost : goal.returns-clause-cost
returns-clause-cost g c =
    let place : c.count_below-place.result ≡ length c.cut_at.result.below.now = c.count_below-place.ensures.place ∙ sym (ap length c.cut_at.ensures.below) in
    omega (arith, place, c.count_below-place.ensures.cost, c.cut_at.ensures.cost)
