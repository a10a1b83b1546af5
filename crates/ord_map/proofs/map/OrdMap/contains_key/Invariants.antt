use Rattle.ord_map.proofs.map.OrdMap.contains_key.Given as goal

abbrev pub ghosts-contains_key : goal.ghosts-contains_key
ghosts-contains_key g a = record { name = a.blank.name; parts = a.blank.parts }
