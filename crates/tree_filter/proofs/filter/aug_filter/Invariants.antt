use Rattle.tree_filter.proofs.filter.aug_filter.Given as goal

abbrev pub ghosts-filter_with_counter : goal.ghosts-filter_with_counter
ghosts-filter_with_counter g a = record { name = a.blank.name; parts = a.blank.parts }
