use Rattle.tree_make.proofs.listing.tree_of_slice.Given as goal

abbrev pub ghosts-tree_of_slice_uncounted : goal.ghosts-tree_of_slice_uncounted
ghosts-tree_of_slice_uncounted g a = record { name = a.blank.name; parts = a.blank.parts }
