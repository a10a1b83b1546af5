use Rattle.map_tests.proofs.tests.sums.map_of.Goals as goal

pub loop-entry-preserved : goal.loop-entry-preserved
loop-entry-preserved g c = tt
