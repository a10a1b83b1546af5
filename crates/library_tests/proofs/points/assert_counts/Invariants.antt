use Rattle.library_tests.proofs.points.assert_counts.Given as goal

abbrev pub ghosts-assert_counted : goal.ghosts-assert_counted
ghosts-assert_counted a b = record { name = b.blank.name; parts = b.blank.parts }
