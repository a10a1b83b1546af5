use Rattle.tree_entry.proofs.puts.single.Given as goal

abbrev pub ghosts-single_counted : goal.ghosts-single_counted
ghosts-single_counted g a = record { name = a.blank.name; parts = a.blank.parts }
