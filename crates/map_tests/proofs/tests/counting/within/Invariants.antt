use Rattle.map_tests.proofs.tests.counting.within.Given as goal

abbrev pub ghosts-within_counted : goal.ghosts-within_counted
ghosts-within_counted g a = record { name = a.blank.name; parts = a.blank.parts }
