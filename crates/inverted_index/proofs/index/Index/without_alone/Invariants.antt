use Rattle.inverted_index.proofs.index.Index.without_alone.Given as goal

abbrev pub ghosts-find_one : goal.ghosts-find_one
ghosts-find_one a = record { name = a.blank.name; parts = a.blank.parts }
