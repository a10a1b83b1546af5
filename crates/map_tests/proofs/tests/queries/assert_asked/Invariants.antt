use Rattle.map_tests.proofs.tests.queries.assert_asked.Given as goal

abbrev pub ghosts-assert_asked_counted : goal.ghosts-assert_asked_counted
ghosts-assert_asked_counted g a = record { name = a.blank.name; parts = a.blank.parts }
