use Rattle.ord_map.proofs.map.OrdMap.put.Given as goal

abbrev pub ghosts-put : goal.ghosts-put
ghosts-put g a = record { name = a.blank.name; parts = a.blank.parts }
