use Rattle.map_tests.proofs.tests.changes.told.Given as goal

abbrev pub ghosts-told_counted : goal.ghosts-told_counted
ghosts-told_counted g a = record { name = a.blank.name; parts = a.blank.parts }
