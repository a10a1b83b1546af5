use Rattle.tree_tests.proofs.tests.markers.edge.Given as goal

abbrev pub ghosts-edge_counted : goal.ghosts-edge_counted
ghosts-edge_counted g a = record { name = a.blank.name; parts = a.blank.parts }
