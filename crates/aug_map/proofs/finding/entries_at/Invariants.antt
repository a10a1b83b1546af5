use Rattle.aug_map.proofs.finding.entries_at.Given as goal

abbrev pub ghosts-entries_at_uncounted : goal.ghosts-entries_at_uncounted
ghosts-entries_at_uncounted g a = record { name = a.blank.name; parts = a.blank.parts }
