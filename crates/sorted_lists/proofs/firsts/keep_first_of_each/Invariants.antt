use Rattle.sorted_lists.proofs.firsts.keep_first_of_each.Given as goal

abbrev pub ghosts-keep_first_of_each_uncounted : goal.ghosts-keep_first_of_each_uncounted
ghosts-keep_first_of_each_uncounted g a = record { name = a.blank.name; parts = a.blank.parts }
