use Rattle.std.proofs.Common.{◌≡◌, ◌+◌, ◌*◌, ◌≤◌, take}
use Rattle.map_model.specs.Operations.{found_in}
use Rattle.aug_map.proofs.finding.entries_at_counted.Given as goal

abbrev pub invariant-loop-key : goal.invariant-loop-key
invariant-loop-key g l =
    (l.found.items ≡ found_in g.M.Key.Ord.cmp l.tree.entries (take l.key-index l.keys))
    × (l.steps ≤ l.initial.steps + l.key-index * (l.tree.height + g.M.Leaf.Leaf.FIND))
