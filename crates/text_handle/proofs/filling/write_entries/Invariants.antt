use Rattle.std.proofs.Common.{◌≡◌, ◌++◌, drop, length, map, take}
use Rattle.text_handle.specs.Rows.{bytes_of, ends_from}
use Rattle.text_handle.proofs.filling.write_entries.Given as goal

abbrev pub invariant-loop-at : goal.invariant-loop-at
invariant-loop-at l = record {
  start : l.start ≡ length (bytes_of (take l.at l.found));
  keys : l.keys ≡ bytes_of (take l.at l.found) ++ drop l.start l.initial.keys;
  ends : l.ends ≡ ends_from 0 (take l.at l.found) ++ drop l.at l.initial.ends;
  vals : l.vals ≡ map (λ e. e.1) (take l.at l.found) ++ drop l.at l.initial.vals;
}
