use Rattle.ord_map.proofs.map.OrdMap.rank.Given as goal

abbrev pub ghosts-rank : goal.ghosts-rank
ghosts-rank g a = record { name = a.blank.name; parts = a.blank.parts }
