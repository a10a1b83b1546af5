use Rattle.work_tests.proofs.many.compared.Given as goal

abbrev pub ghosts-compared_counted : goal.ghosts-compared_counted
ghosts-compared_counted a b = record { name = b.blank.name; parts = b.blank.parts }
