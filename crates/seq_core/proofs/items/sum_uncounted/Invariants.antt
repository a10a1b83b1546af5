use Rattle.seq_core.proofs.items.sum_uncounted.Given as goal

abbrev pub ghosts-sum_counted : goal.ghosts-sum_counted
ghosts-sum_counted g a = record { name = a.blank.name; parts = a.blank.parts }
