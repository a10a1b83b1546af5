use Rattle.tree_filter.proofs.finding.first_where.Given as goal

abbrev pub ghosts-first_with_counter : goal.ghosts-first_with_counter
ghosts-first_with_counter g a = record { name = a.blank.name; parts = a.blank.parts }
