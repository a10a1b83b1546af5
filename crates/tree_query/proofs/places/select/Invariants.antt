use Rattle.std.proofs.Common.{◌≡◌, length}
use Rattle.map_model.specs.Parts.{select}
use Rattle.tree_query.proofs.places.select.Given as goal

abbrev pub invariant-down : goal.invariant-down
invariant-down g l = select l.tree.entries l.at ≡ select l.part.entries l.at_in

abbrev pub decreases-down : goal.decreases-down
decreases-down g l = length l.part.entries
