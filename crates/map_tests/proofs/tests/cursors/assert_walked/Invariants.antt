use Rattle.map_tests.proofs.tests.cursors.assert_walked.Given as goal

abbrev pub ghosts-assert_walked_counted : goal.ghosts-assert_walked_counted
ghosts-assert_walked_counted g a = record { name = a.blank.name; parts = a.blank.parts }
