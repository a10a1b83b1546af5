use Rattle.work_tests.proofs.filters.assert_found_in_plain.Given as goal

abbrev pub ghosts-assert_found : goal.ghosts-assert_found
ghosts-assert_found a b = record { name = b.blank.name; parts = b.blank.parts }
