use Rattle.ground_tests.proofs.blocks.walked.Given as goal

abbrev pub invariant-loop : goal.invariant-loop
invariant-loop g l = g.L.Leaf.fits_walk l.leaf l.walk
