use Rattle.range_tree.proofs.tree.Points.sum.Given as goal

abbrev pub ghosts-sum_with_counter : goal.ghosts-sum_with_counter
ghosts-sum_with_counter a = record { name = a.blank.name; parts = a.blank.parts }
