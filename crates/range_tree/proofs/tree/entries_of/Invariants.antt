use Rattle.std.proofs.Common.{◌≡◌, map, take}
use Rattle.map_model.specs.Entries.{AllKeys}
use Rattle.range_tree.specs.Places.{IsPlace}
use Rattle.range_tree.specs.Points.{entry_of}
use Rattle.range_tree.proofs.tree.entries_of.Given as goal

abbrev pub invariant-loop-point : goal.invariant-loop-point
invariant-loop-point l = record {
  same : l.entries.items ≡ map entry_of (take l.point-index l.points);
  fit : AllKeys IsPlace l.entries.items;
}
