use Rattle.ord_map.proofs.map.OrdMap.fold_range.Given as goal

abbrev pub ghosts-range_fold : goal.ghosts-range_fold
ghosts-range_fold g a = record { name = a.blank.name; parts = a.blank.parts }
