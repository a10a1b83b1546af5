use Rattle.graph_snap.proofs.search.not_in_list.Given as goal

abbrev pub ghosts-not_known : goal.ghosts-not_known
ghosts-not_known a = record { name = a.blank.name; parts = a.blank.parts }
