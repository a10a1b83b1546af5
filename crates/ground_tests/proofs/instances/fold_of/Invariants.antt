use Rattle.ground_tests.proofs.instances.fold_of.Given as goal

abbrev pub ghosts-counted_fold : goal.ghosts-counted_fold
ghosts-counted_fold g a = record { name = a.blank.name; parts = a.blank.parts }
