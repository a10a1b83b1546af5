use Rattle.graph_snap.proofs.neighbours.set_with_run.Given as goal

abbrev pub ghosts-put_element : goal.ghosts-put_element
ghosts-put_element a = record { name = a.blank.name; parts = a.blank.parts }
