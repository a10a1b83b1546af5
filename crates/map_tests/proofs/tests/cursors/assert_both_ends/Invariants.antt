use Rattle.map_tests.proofs.tests.cursors.assert_both_ends.Given as goal

abbrev pub ghosts-assert_both_ends_counted : goal.ghosts-assert_both_ends_counted
ghosts-assert_both_ends_counted g a = record { name = a.blank.name; parts = a.blank.parts }
