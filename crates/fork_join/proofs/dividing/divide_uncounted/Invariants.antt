use Rattle.fork_join.proofs.dividing.divide_uncounted.Given as goal

abbrev pub ghosts-divide_with_counter : goal.ghosts-divide_with_counter
ghosts-divide_with_counter g a = record { name = a.blank.name; parts = a.blank.parts }
