use Rattle.map_tests.proofs.tests.cursors.a_cursor_gives_each_entry_once_from_both_ends.Given as goal

abbrev pub invariant-loop-count : goal.invariant-loop-count
invariant-loop-count g l = Unit {0}
