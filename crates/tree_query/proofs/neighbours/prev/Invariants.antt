use Rattle.std.proofs.Common.{◌≡◌, ◌+◌, ◌≤◌, length}
use Rattle.std.specs.Option.{option_map, option_or}
use Rattle.map_model.specs.Parts.{prev}
use Rattle.tree_query.proofs.neighbours.prev.Given as goal

abbrev pub invariant-down : goal.invariant-down
invariant-down g l =
    (prev g.M.Key.Ord.cmp l.tree.entries l.key ≡ option_or (prev g.M.Key.Ord.cmp l.part.entries l.key) (option_map (λ e. (e.0.now, e.1.now)) l.near))
    × (l.steps + l.part.height ≤ l.initial.steps + l.tree.height)

abbrev pub decreases-down : goal.decreases-down
decreases-down g l = length l.part.entries
