use Rattle.tree_cut.proofs.exposing.expose.Given as goal

abbrev pub ghosts-halves_of : goal.ghosts-halves_of
ghosts-halves_of g a = record { name = a.blank.name; parts = a.blank.parts }
