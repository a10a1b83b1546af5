-- What a join costs, by the levels of its trees together.
use Rattle.std.proofs.Common.{ℕ, ◌+◌, ◌*◌, ◌≤◌, arith, mul-le-mul_right}
use Rattle.map_model.specs.Balance.{HeightLaw, IsAtMostLevels, IsWithinLevels}
use Rattle.map_model.proofs.Heights.{height_at_most, levels_of_part, within_levels}
use Rattle.tree_shape.specs.Shape.{link_cost}
use Rattle.tree_make.specs.Costs.{join_cost}

-- what the join itself takes, with an entry
pub cost_with : (block n left right start done : ℕ)
    → (IsWithinLevels block n left right → IsWithinLevels block n right left → done ≤ start + (3 * n + 1) * link_cost block)
    → IsAtMostLevels block n (left + right) → done ≤ start + join_cost block n
cost_with block n left right start done below few =
    let back : IsAtMostLevels block n (right + left) = levels_of_part block n (right + left) (left + right) (omega arith) few in
    omega (arith, below (within_levels block n left right few) (within_levels block n right left back))

-- what taking the first entry off a tree and the join take, without one
pub cost_without : (block n height left size start done : ℕ) → 1 ≤ block → HeightLaw block height size
    → (IsAtMostLevels block n (left + (size + 1)) → done ≤ start + (64 * (height + 1) * (block + 2) + (3 * n + 1) * link_cost block))
    → IsAtMostLevels block n (left + (size + 1)) → done ≤ start + join_cost block n
cost_without block n height left size start done some law below few =
    let low = height_at_most block n height size some law (levels_of_part block n (size + 1) (left + (size + 1)) (omega arith) few) in
    let lower = mul-le-mul_right (block + 2) low in
    omega (arith, below few, lower)
