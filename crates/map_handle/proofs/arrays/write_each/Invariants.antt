use Rattle.std.proofs.Common.{◌≡◌, map, take}
use Rattle.map_handle.specs.Arrays.{presence_at, value_at}
use Rattle.map_handle.proofs.arrays.write_each.Given as goal

abbrev pub invariant-loop-i : goal.invariant-loop-i
invariant-loop-i l = record {
  vals : take l.i l.vals ≡ map (value_at l.kept) (take l.i l.keys);
  present : take l.i l.present ≡ map (presence_at l.kept) (take l.i l.keys);
}
