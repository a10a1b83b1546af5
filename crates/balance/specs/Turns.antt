-- How a node that is out of balance is turned.
use Rattle.std.specs.Prelude.{ℕ, ◌+◌, ◌*◌, ◌^◌, ◌<◌, ◌≤◌}
use Rattle.map_model.specs.Balance.{IsBalanced}

-- the weight of a tree
abbrev pub IsWeight : ℕ → Type 0
IsWeight x = (1 ≤ x) × (x < 2 ^ 61)

-- a single turn leaves both new nodes balanced
abbrev pub SingleBalances : ℕ → ℕ → ℕ → Type 0
SingleBalances outer inner last = IsBalanced outer inner × IsBalanced (outer + inner) last

-- the near side of a join came back as a node of the weights inner and last
pub record IsRepairable (outer inner last : ℕ) : Type 0 where
  pub not_too_light : 3 * (outer + inner + last) < 16 * outer
  pub not_too_heavy : outer ≤ 3 * (inner + last)
  pub near_balanced : IsBalanced inner last

-- a double turn leaves all three new nodes balanced
pub record DoubleBalances (outer a b last : ℕ) : Type 0 where
  pub front : IsBalanced outer a
  pub back : IsBalanced b last
  pub whole : IsBalanced (outer + a) (b + last)
