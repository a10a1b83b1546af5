use Rattle.map_tests.proofs.tests.spans.thirds.Given as goal

abbrev pub invariant-loop-key : goal.invariant-loop-key
invariant-loop-key g l = Unit {0}
