use Rattle.seq_core.proofs.items.sum_around.Given as goal

abbrev pub ghosts-around_counted : goal.ghosts-around_counted
ghosts-around_counted g a = record { name = a.blank.name; parts = a.blank.parts }
