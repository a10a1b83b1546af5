use Rattle.map_tests.proofs.tests.nested.first_weight.Given as goal

abbrev pub ghosts-first_weight_counted : goal.ghosts-first_weight_counted
ghosts-first_weight_counted g a = record { name = a.blank.name; parts = a.blank.parts }
