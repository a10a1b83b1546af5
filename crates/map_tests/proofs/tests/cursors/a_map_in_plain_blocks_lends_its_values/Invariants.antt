use Rattle.map_tests.proofs.tests.cursors.a_map_in_plain_blocks_lends_its_values.Given as goal

abbrev pub invariant-loop-count : goal.invariant-loop-count
invariant-loop-count g l = Unit {0}
