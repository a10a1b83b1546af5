use Rattle.map_tests.proofs.tests.cursors.assert_lent_counted.Given as goal

abbrev pub invariant-loop-entry : goal.invariant-loop-entry
invariant-loop-entry g l = Unit {0}
