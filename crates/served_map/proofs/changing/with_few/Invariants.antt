use Rattle.served_map.proofs.changing.with_few.Given as goal

abbrev pub ghosts-change_keys : goal.ghosts-change_keys
ghosts-change_keys a = record { name = a.blank.name; parts = a.blank.parts }
