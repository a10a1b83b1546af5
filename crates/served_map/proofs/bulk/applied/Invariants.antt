use Rattle.served_map.proofs.bulk.applied.Given as goal

abbrev pub ghosts-applied_counted : goal.ghosts-applied_counted
ghosts-applied_counted g a = record { name = a.blank.name; parts = a.blank.parts }
