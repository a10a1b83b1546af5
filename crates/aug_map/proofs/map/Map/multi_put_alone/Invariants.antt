use Rattle.aug_map.proofs.map.Map.multi_put_alone.Given as goal

abbrev pub ghosts-multi_put_uncounted : goal.ghosts-multi_put_uncounted
ghosts-multi_put_uncounted g a = record { name = a.blank.name; parts = a.blank.parts }
