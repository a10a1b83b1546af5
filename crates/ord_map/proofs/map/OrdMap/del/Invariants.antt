use Rattle.ord_map.proofs.map.OrdMap.del.Given as goal

abbrev pub ghosts-del : goal.ghosts-del
ghosts-del g a = record { name = a.blank.name; parts = a.blank.parts }
