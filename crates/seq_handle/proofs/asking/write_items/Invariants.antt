use Rattle.std.proofs.Common.{◌≡◌, ◌≤◌, ◌++◌, drop, length, take}
use Rattle.seq_handle.proofs.asking.write_items.Given as goal

abbrev pub invariant-loop-item : goal.invariant-loop-item
invariant-loop-item l = record {
  written : drop l.from_place l.seq.items ≡ take l.count l.items ++ l.item-iterator;
  rest : drop l.count l.items ≡ drop l.count l.initial.items;
  fits : l.count ≤ length l.items;
}
