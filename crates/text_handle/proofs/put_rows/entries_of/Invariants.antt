use Rattle.std.proofs.Common.{◌≡◌, ◌++◌, true, drop, length}
use Rattle.text_handle.specs.Rows.{are_ends, entries_from}
use Rattle.text_handle.proofs.put_rows.entries_of.Given as goal

abbrev pub invariant-loop-at : goal.invariant-loop-at
invariant-loop-at l = record {
  built : entries_from 0 l.keys l.ends l.vals ≡ l.entries.items ++ entries_from l.start l.keys (drop l.at l.ends) (drop l.at l.vals);
  ordered : are_ends l.start (length l.keys) (drop l.at l.ends) ≡ true;
}
