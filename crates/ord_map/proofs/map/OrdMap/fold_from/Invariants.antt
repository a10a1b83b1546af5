use Rattle.ord_map.proofs.map.OrdMap.fold_from.Given as goal

abbrev pub ghosts-right_fold : goal.ghosts-right_fold
ghosts-right_fold g a = record { name = a.blank.name; parts = a.blank.parts }
