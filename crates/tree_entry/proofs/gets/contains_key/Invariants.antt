use Rattle.std.proofs.Common.{◌≡◌, ◌+◌, ◌≤◌, length}
use Rattle.map_model.specs.Entries.{lookup}
use Rattle.tree_entry.proofs.gets.contains_key.Given as goal

abbrev pub invariant-down : goal.invariant-down
invariant-down g l =
    (lookup g.M.Key.Ord.cmp l.tree.entries l.key ≡ lookup g.M.Key.Ord.cmp l.part.entries l.key)
    × (l.steps + l.part.height ≤ l.initial.steps + l.tree.height)

abbrev pub decreases-down : goal.decreases-down
decreases-down g l = length l.part.entries
