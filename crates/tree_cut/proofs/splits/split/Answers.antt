use Rattle.std.proofs.Common.{◌≤◌, length, arith}
use Rattle.map_model.specs.Balance.{weight}
use Rattle.map_model.specs.Entries.{above, below}
use Rattle.map_model.proofs.Lengths.{length-filter_le}
use Rattle.map_model.proofs.Heights.{levels_of_part}
use Rattle.tree_cut.proofs.splits.split.Goals as goal

pub returns-clause-cost : goal.returns-clause-cost
returns-clause-cost g c = λ n few.
    let entries = c.args.tree.now.entries in
    let order = g.M.Key.Ord.cmp in
    let fewer_below : length (below order entries c.args.key.now) ≤ length entries = length-filter_le _ entries in
    let fewer_above : length (above order entries c.args.key.now) ≤ length entries = length-filter_le _ entries in
    let low = levels_of_part g.M.Shape.BLOCK n (weight (below order entries c.args.key.now)) (weight entries) (omega (arith, fewer_below)) few in
    let high = levels_of_part g.M.Shape.BLOCK n (weight (above order entries c.args.key.now)) (weight entries) (omega (arith, fewer_above)) few in
    omega (arith, c.split_in.ensures.cost n n low high)
