use Rattle.map_tests.proofs.tests.cursors.assert_keys.Given as goal

abbrev pub ghosts-assert_keys_counted : goal.ghosts-assert_keys_counted
ghosts-assert_keys_counted g a = record { name = a.blank.name; parts = a.blank.parts }
