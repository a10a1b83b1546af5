use Rattle.map_tests.proofs.tests.cursors.a_map_has_its_keys_and_no_others.Given as goal

abbrev pub invariant-loop-count : goal.invariant-loop-count
invariant-loop-count g l = Unit {0}
