-- When a side of a node may gain or lose an entry in place.
use Rattle.std.specs.Prelude.{ℕ, ◌+◌, ◌*◌, ◌^◌, ◌<◌, ◌≤◌}
use Rattle.map_model.specs.Balance.{IsBalanced}

-- a node over sides of so many entries stays one with an entry more on the near side, or as many
pub record HasRoom (block near far : ℕ) : Type 0 where
  pub balanced : IsBalanced (near + 2) (far + 1)
  pub filled : near + far + 2 ≤ 4 * block → near + 1 ≤ 2 * block
  pub fits : near + far + 2 < 2 ^ 60

-- a node over sides of so many entries stays one with an entry less on the near side, or as many
pub record CanSpare (block near far : ℕ) : Type 0 where
  pub balanced : IsBalanced near (far + 1)
  pub filled : near + far ≤ 4 * block → (near + far < 4 * block) × (block < near)
