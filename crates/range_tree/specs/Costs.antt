-- What the total of a rectangle costs: the steps of ranges of rows, each in a map of them, over a range of columns.
use Rattle.std.specs.Prelude.{ℕ, ◌+◌, ◌*◌, ◌≤◌, List, length}
use Rattle.aug_monoid.specs.declared.pair64.Pair64.{Pair64}
use Rattle.map_model.specs.Balance.{IsAtMostLevels}

-- no map of so many points is higher. It is in blocks of 64 to 128, by (x, y) and by (y, x)
abbrev pub IsHighest : ℕ → ℕ → Type 0
IsHighest count height = IsAtMostLevels 64 height (count + 1)

-- the most steps of the total of a range of rows, in a map of them of some height
abbrev pub rows_cost : ℕ → ℕ
rows_cost height = 11 * height + 1793

-- so many steps are enough for the total of a range of these rows
pub record IsRowsCost (rows : List (Pair64 × ℕ)) (most : ℕ) : Type 0 where
  pub height : ℕ
  pub highest : IsHighest (length rows) height
  pub enough : rows_cost height ≤ most

-- the most steps of the total of a rectangle, where no map of as many points is higher: at most 4 * height + 257 totals of rows, and
-- the comparisons of columns
abbrev pub sum_cost : ℕ → ℕ
sum_cost height = (4 * height + 257) * rows_cost height + (2 * height + 256)
