use Rattle.ord_map.proofs.map.OrdMap.prev.Given as goal

abbrev pub ghosts-prev : goal.ghosts-prev
ghosts-prev g a = record { name = a.blank.name; parts = a.blank.parts }
