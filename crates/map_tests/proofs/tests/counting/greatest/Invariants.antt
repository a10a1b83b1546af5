use Rattle.map_tests.proofs.tests.counting.greatest.Given as goal

abbrev pub invariant-loop-number : goal.invariant-loop-number
invariant-loop-number g l = Unit {0}
