-- How many rows there are, and how high their maps, where totals are counted.
use Rattle.std.proofs.Common.{◌≡◌, ℕ, ◌+◌, ◌≤◌, List, [], ◌∷◌, length, arith, mul-le-mul_left}
use Rattle.aug_monoid.specs.declared.pair64.Pair64.{Pair64}
use Rattle.aug_monoid.specs.Exact.{pair64_cmp}
use Rattle.aug_monoid.specs.Images.{AreImageCosts, project_cost}
use Rattle.map_model.specs.Balance.{HeightLaw}
use Rattle.map_model.proofs.Heights.{height_at_most, levels_of_part}
use Rattle.map_model.proofs.Lengths.{length-union_le}
use Rattle.range_tree.specs.Costs.{IsHighest, IsRowsCost, rows_cost, sum_cost}
use Rattle.range_tree.specs.Rows.{row_of, rows_of, rows_of_both}

-- no more rows than points
rows_few : (m : List (Pair64 × ℕ)) → length (rows_of m) ≤ length m
rows_few [] = omega arith
rows_few (e ∷ m) = let rest = rows_few m in let both = length-union_le pair64_cmp (λ _ w. w) (row_of e.0 e.1) (rows_of m) in omega (arith, rest, both)

-- a map is no higher than the highest of so many
lower : (m : List (Pair64 × ℕ)) (height highest : ℕ) → HeightLaw 64 height (length m) → IsHighest (length m) highest → height ≤ highest
lower m height highest law levels = height_at_most 64 highest height (length m) (omega arith) law levels

-- the steps of the total of a range of rows, in the map of them
pub rows_within : (rows m : List (Pair64 × ℕ)) (height most start done : ℕ) → m ≡ rows → HeightLaw 64 height (length m) → IsRowsCost rows most → done ≤ start + rows_cost height → done ≤ start + most
rows_within rows m height most start done same law cost few =
    let levels : IsHighest (length m) cost.height = rw same cost.highest in
    let low = lower m height cost.height law levels in
    omega (arith, low, few, cost.enough)

-- what is enough for the rows of all points is enough for those of a part
pub costs_of_parts : (m : List (Pair64 × ℕ)) (height : ℕ) → IsHighest (length m) height → AreImageCosts row_of [] rows_of_both IsRowsCost (length m) (rows_cost height)
costs_of_parts m height highest = λ part short. record {
  height = height;
  highest = levels_of_part 64 height (length (rows_of part) + 1) (length m + 1) (omega (arith, short, rows_few part)) highest;
  enough = omega arith;
}

-- the steps of a total over the columns
pub sum_within : (m : List (Pair64 × ℕ)) (low height start done : ℕ) → HeightLaw 64 low (length m) → IsHighest (length m) height → done ≤ start + project_cost 64 low (rows_cost height) → done ≤ start + sum_cost height
sum_within m low height start done law highest few =
    let less = lower m low height law highest in
    let scaled = mul-le-mul_left (rows_cost height) less in
    omega (arith, few, less, scaled)
