use Rattle.ord_map.proofs.map.OrdMap.get.Given as goal

abbrev pub ghosts-get : goal.ghosts-get
ghosts-get g a = record { name = a.blank.name; parts = a.blank.parts }
