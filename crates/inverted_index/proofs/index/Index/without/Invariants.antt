use Rattle.inverted_index.proofs.index.Index.without.Given as goal

abbrev pub ghosts-find_one : goal.ghosts-find_one
ghosts-find_one g a = record { name = a.blank.name; parts = a.blank.parts }
