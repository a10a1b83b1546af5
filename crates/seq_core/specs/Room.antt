-- When a node may gain an item in place.
use Rattle.std.specs.Prelude.{ℕ, ◌+◌, ◌*◌, ◌^◌, ◌<◌, ◌≤◌}
use Rattle.map_model.specs.Balance.{IsBalanced}

-- a node over sides of so many items stays one with an item more on the right side
pub record HasRoom (block left right : ℕ) : Type 0 where
  pub balanced : IsBalanced (left + 1) (right + 2)
  pub filled : left + right + 2 ≤ 4 * block → right + 1 ≤ 2 * block
  pub fits : left + right + 2 < 2 ^ 60
