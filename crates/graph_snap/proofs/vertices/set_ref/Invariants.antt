use Rattle.graph_snap.proofs.vertices.set_ref.Given as goal

abbrev pub ghosts-ref_counted : goal.ghosts-ref_counted
ghosts-ref_counted a = record { name = a.blank.name; parts = a.blank.parts }
