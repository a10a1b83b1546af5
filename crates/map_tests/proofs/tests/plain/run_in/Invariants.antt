use Rattle.map_tests.proofs.tests.plain.run_in.Given as goal

abbrev pub invariant-loop-turn : goal.invariant-loop-turn
invariant-loop-turn g l = Unit {0}
