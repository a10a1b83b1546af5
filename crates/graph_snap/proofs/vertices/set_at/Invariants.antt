use Rattle.graph_snap.proofs.vertices.set_at.Given as goal

abbrev pub ghosts-set_counted : goal.ghosts-set_counted
ghosts-set_counted a = record { name = a.blank.name; parts = a.blank.parts }
