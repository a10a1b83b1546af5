use Rattle.tree_filter.proofs.filter.aug_filter_counted.Given as goal

abbrev pub ghosts-filter_joining : goal.ghosts-filter_joining
ghosts-filter_joining g a = record { name = a.blank.name; parts = a.blank.parts }
