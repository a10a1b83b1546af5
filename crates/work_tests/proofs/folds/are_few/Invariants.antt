use Rattle.work_tests.proofs.folds.are_few.Given as goal

abbrev pub ghosts-are_few_counted : goal.ghosts-are_few_counted
ghosts-are_few_counted a b = record { name = b.blank.name; parts = b.blank.parts }
