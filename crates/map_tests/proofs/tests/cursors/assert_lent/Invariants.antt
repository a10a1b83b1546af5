use Rattle.map_tests.proofs.tests.cursors.assert_lent.Given as goal

abbrev pub ghosts-assert_lent_counted : goal.ghosts-assert_lent_counted
ghosts-assert_lent_counted g a = record { name = a.blank.name; parts = a.blank.parts }
