use Rattle.seq_tests.proofs.texts.words_are_counted.Given as goal

abbrev pub ghosts-found_counted : goal.ghosts-found_counted
ghosts-found_counted g a = record { name = a.blank.name; parts = a.blank.parts }
