use Rattle.tree_make.proofs.joining.join_around.Given as goal

abbrev pub ghosts-join_around_uncounted : goal.ghosts-join_around_uncounted
ghosts-join_around_uncounted g a = record { name = a.blank.name; parts = a.blank.parts }
