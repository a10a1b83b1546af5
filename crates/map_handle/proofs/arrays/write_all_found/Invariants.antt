use Rattle.std.proofs.Common.{◌≡◌, map, take}
use Rattle.map_handle.specs.Arrays.{one_if_some, value_or_zero}
use Rattle.map_handle.proofs.arrays.write_all_found.Given as goal

abbrev pub invariant-loop-i : goal.invariant-loop-i
invariant-loop-i l = record {
  vals : take l.i l.vals ≡ map value_or_zero (take l.i l.found);
  present : take l.i l.present ≡ map one_if_some (take l.i l.found);
}
