use Rattle.map_tests.proofs.tests.cursors.assert_between.Given as goal

abbrev pub ghosts-assert_between_counted : goal.ghosts-assert_between_counted
ghosts-assert_between_counted g a = record { name = a.blank.name; parts = a.blank.parts }
