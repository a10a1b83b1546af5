use Rattle.std.proofs.Common.{◌<◌, length}
use Rattle.tree_walk.proofs.Ways.{LeadsAhead, LeadsBehind}
use Rattle.tree_walk.proofs.seat.find_seat.Given as goal

abbrev pub invariant-down : goal.invariant-down
invariant-down g l =
    (l.at_in < length l.part.entries)
    × LeadsAhead g.M.Leaf.Leaf.entries l.part.entries l.at_in l.ahead l.tree.entries l.at
    × LeadsBehind l.part.entries l.at_in l.tree.entries l.at

abbrev pub decreases-down : goal.decreases-down
decreases-down g l = length l.part.entries
