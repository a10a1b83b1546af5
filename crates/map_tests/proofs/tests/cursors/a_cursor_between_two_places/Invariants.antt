use Rattle.map_tests.proofs.tests.cursors.a_cursor_between_two_places.Given as goal

abbrev pub invariant-loop-places : goal.invariant-loop-places
invariant-loop-places g l = Unit {0}
