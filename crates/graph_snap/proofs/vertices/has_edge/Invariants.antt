use Rattle.graph_snap.proofs.vertices.has_edge.Given as goal

abbrev pub ghosts-has : goal.ghosts-has
ghosts-has a = record { name = a.blank.name; parts = a.blank.parts }
