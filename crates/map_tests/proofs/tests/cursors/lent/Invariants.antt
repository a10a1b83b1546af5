use Rattle.map_tests.proofs.tests.cursors.lent.Given as goal

abbrev pub invariant-loop-entry : goal.invariant-loop-entry
invariant-loop-entry g l = Unit {0}
