use Rattle.sorted_lists.proofs.last.last_of_each_key_alone.Given as goal

abbrev pub ghosts-last_of_each_key_uncounted : goal.ghosts-last_of_each_key_uncounted
ghosts-last_of_each_key_uncounted g a = record { name = a.blank.name; parts = a.blank.parts }
