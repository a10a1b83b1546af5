use Rattle.ord_map.proofs.map.OrdMap.get_ref.Given as goal

abbrev pub ghosts-get_ref : goal.ghosts-get_ref
ghosts-get_ref g a = record { name = a.blank.name; parts = a.blank.parts }
