use Rattle.put_runs.proofs.putting.sizes_of_puts.Given as goal

abbrev pub ghosts-new_keys : goal.ghosts-new_keys
ghosts-new_keys a = record { name = a.blank.name; parts = a.blank.parts }
