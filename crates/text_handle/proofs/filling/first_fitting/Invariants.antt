use Rattle.std.proofs.Common.{◌≡◌, ◌≤◌, ◌-◌, ◌++◌, length}
use Rattle.text_handle.specs.Rows.{fitting}
use Rattle.text_handle.proofs.filling.first_fitting.Given as goal

abbrev pub invariant-loop-entry : goal.invariant-loop-entry
invariant-loop-entry l = record {
  fits : fitting l.room l.places l.rest ≡ l.found.items ++ fitting l.left (l.places - length l.found.items) l.entry-iterator;
  placed : length l.found.items ≤ l.places;
}
