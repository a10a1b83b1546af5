use Rattle.inverted_index.proofs.index.Index.any_of_alone.Given as goal

abbrev pub ghosts-find_lists : goal.ghosts-find_lists
ghosts-find_lists a = record { name = a.blank.name; parts = a.blank.parts }
