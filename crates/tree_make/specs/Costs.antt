-- How many steps a join takes.
use Rattle.std.specs.Prelude.{ℕ, ◌+◌, ◌*◌}
use Rattle.tree_shape.specs.Shape.{link_cost}

-- the most steps that two trees which are n levels together take: to take the first entry off the right one, where none is given, and to link on the way up
abbrev pub join_cost : ℕ → ℕ → ℕ
join_cost block n = 64 * (n + 1) * (block + 2) + (3 * n + 1) * link_cost block
