use Rattle.fork_join.proofs.dividing.open_uncounted.Given as goal

abbrev pub ghosts-open_with_counter : goal.ghosts-open_with_counter
ghosts-open_with_counter g a = record { name = a.blank.name; parts = a.blank.parts }
