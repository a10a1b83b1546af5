use Rattle.ground_tests.proofs.instances.projected.Given as goal

abbrev pub ghosts-counted_projection : goal.ghosts-counted_projection
ghosts-counted_projection g a = record { name = a.blank.name; parts = a.blank.parts }
