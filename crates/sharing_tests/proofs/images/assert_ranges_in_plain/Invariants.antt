use Rattle.sharing_tests.proofs.images.assert_ranges_in_plain.Given as goal

abbrev pub ghosts-assert_ranges : goal.ghosts-assert_ranges
ghosts-assert_ranges a b = record { name = b.blank.name; parts = b.blank.parts }
