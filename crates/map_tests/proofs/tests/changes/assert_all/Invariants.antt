use Rattle.map_tests.proofs.tests.changes.assert_all.Given as goal

abbrev pub ghosts-assert_all_counted : goal.ghosts-assert_all_counted
ghosts-assert_all_counted g a = record { name = a.blank.name; parts = a.blank.parts }
