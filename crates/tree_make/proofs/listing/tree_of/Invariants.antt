use Rattle.tree_make.proofs.listing.tree_of.Given as goal

abbrev pub ghosts-tree_of_uncounted : goal.ghosts-tree_of_uncounted
ghosts-tree_of_uncounted g a = record { name = a.blank.name; parts = a.blank.parts }
