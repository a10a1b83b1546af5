use Rattle.work_tests.proofs.slices.compared.Given as goal

abbrev pub ghosts-compared_counted : goal.ghosts-compared_counted
ghosts-compared_counted g a = record { name = a.blank.name; parts = a.blank.parts }
