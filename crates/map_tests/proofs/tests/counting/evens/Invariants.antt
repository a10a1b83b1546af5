use Rattle.map_tests.proofs.tests.counting.evens.Given as goal

abbrev pub invariant-loop-half : goal.invariant-loop-half
invariant-loop-half g l = Unit {0}
