use Rattle.seq_tests.proofs.finding.place.Given as goal

abbrev pub ghosts-place_counted : goal.ghosts-place_counted
ghosts-place_counted g a = record { name = a.blank.name; parts = a.blank.parts }
