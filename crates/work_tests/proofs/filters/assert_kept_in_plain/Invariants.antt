use Rattle.work_tests.proofs.filters.assert_kept_in_plain.Given as goal

abbrev pub ghosts-assert_kept : goal.ghosts-assert_kept
ghosts-assert_kept a b = record { name = b.blank.name; parts = b.blank.parts }
