use Rattle.work_tests.proofs.batches.most.Given as goal

abbrev pub ghosts-most_counted : goal.ghosts-most_counted
ghosts-most_counted g a = record { name = a.blank.name; parts = a.blank.parts }
