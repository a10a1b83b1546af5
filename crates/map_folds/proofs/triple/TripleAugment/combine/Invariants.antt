use Rattle.map_folds.proofs.triple.TripleAugment.combine.Given as goal

abbrev pub ghosts-combine_all : goal.ghosts-combine_all
ghosts-combine_all g a = record { name = a.blank.name; parts = a.blank.parts }
