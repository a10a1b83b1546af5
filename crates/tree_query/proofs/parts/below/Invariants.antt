use Rattle.tree_query.proofs.parts.below.Given as goal

abbrev pub ghosts-keep : goal.ghosts-keep
ghosts-keep g a = record { name = a.blank.name; parts = a.blank.parts }
