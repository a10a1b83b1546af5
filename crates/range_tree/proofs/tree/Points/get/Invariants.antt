use Rattle.range_tree.proofs.tree.Points.get.Given as goal

abbrev pub ghosts-weight_at : goal.ghosts-weight_at
ghosts-weight_at a = record { name = a.blank.name; parts = a.blank.parts }
