use Rattle.aug_map.proofs.map.Map.multi_del_alone.Given as goal

abbrev pub ghosts-multi_del_uncounted : goal.ghosts-multi_del_uncounted
ghosts-multi_del_uncounted g a = record { name = a.blank.name; parts = a.blank.parts }
