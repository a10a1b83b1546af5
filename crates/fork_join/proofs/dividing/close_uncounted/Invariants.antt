use Rattle.fork_join.proofs.dividing.close_uncounted.Given as goal

abbrev pub ghosts-close_with_counter : goal.ghosts-close_with_counter
ghosts-close_with_counter g a = record { name = a.blank.name; parts = a.blank.parts }
