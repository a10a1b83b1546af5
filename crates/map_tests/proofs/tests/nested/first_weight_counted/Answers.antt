use Rattle.map_tests.proofs.tests.nested.first_weight_counted.Goals as goal

pub loop-key-preserved : goal.loop-key-preserved
loop-key-preserved g c = tt
