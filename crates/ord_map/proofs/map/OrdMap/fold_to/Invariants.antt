use Rattle.ord_map.proofs.map.OrdMap.fold_to.Given as goal

abbrev pub ghosts-left_fold : goal.ghosts-left_fold
ghosts-left_fold g a = record { name = a.blank.name; parts = a.blank.parts }
