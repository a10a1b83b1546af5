use Rattle.map_tests.proofs.tests.refusing.refused_in.Goals as goal

pub loop-key-preserved : goal.loop-key-preserved
loop-key-preserved g c = tt
