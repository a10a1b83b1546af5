use Rattle.seq_core.proofs.items.sum_both.Given as goal

abbrev pub ghosts-both_counted : goal.ghosts-both_counted
ghosts-both_counted g a = record { name = a.blank.name; parts = a.blank.parts }
