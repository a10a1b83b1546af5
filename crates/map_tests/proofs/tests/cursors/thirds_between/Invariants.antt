use Rattle.map_tests.proofs.tests.cursors.thirds_between.Given as goal

abbrev pub invariant-loop-at : goal.invariant-loop-at
invariant-loop-at g l = Unit {0}
