use Rattle.std.proofs.Common.{◌≡◌, map, take}
use Rattle.row_leaf.specs.Code.{row_entry}
use Rattle.row_leaf.proofs.leaf.encode.Given as goal

abbrev pub invariant-loop-entry : goal.invariant-loop-entry
invariant-loop-entry l = l.gaps ≡ take l.entry-index (map row_entry l.from)
