use Rattle.served_map.proofs.joining.sides_of.Given as goal

abbrev pub ghosts-sides_counted : goal.ghosts-sides_counted
ghosts-sides_counted a = record { name = a.blank.name; parts = a.blank.parts }
