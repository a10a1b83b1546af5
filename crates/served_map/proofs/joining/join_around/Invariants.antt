use Rattle.served_map.proofs.joining.join_around.Given as goal

abbrev pub ghosts-joined : goal.ghosts-joined
ghosts-joined a = record { name = a.blank.name; parts = a.blank.parts }

abbrev pub ghosts-appended : goal.ghosts-appended
ghosts-appended a = record { name = a.blank.name; parts = a.blank.parts }
