use Rattle.ord_map.proofs.map.OrdMap.next.Given as goal

abbrev pub ghosts-next : goal.ghosts-next
ghosts-next g a = record { name = a.blank.name; parts = a.blank.parts }
