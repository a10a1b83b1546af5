use Rattle.std.proofs.Common.{arith}
use Rattle.entry_lists.proofs.slicing.cut_slice.Goals as goal

pub returns-clause-cost : goal.returns-clause-cost
returns-clause-cost g c = λ n short. omega (arith, c.place_in-place.ensures.cost n short, c.cut_at.ensures.cost)
