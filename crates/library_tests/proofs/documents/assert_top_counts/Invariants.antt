use Rattle.library_tests.proofs.documents.assert_top_counts.Given as goal

abbrev pub ghosts-assert_top_counted : goal.ghosts-assert_top_counted
ghosts-assert_top_counted a b = record { name = b.blank.name; parts = b.blank.parts }
