use Rattle.aug_map.proofs.map.Map.build_alone.Given as goal

abbrev pub ghosts-build_uncounted : goal.ghosts-build_uncounted
ghosts-build_uncounted g a = record { name = a.blank.name; parts = a.blank.parts }
