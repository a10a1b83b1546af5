use Rattle.seq_handle.proofs.asking.fold_range.Given as goal

abbrev pub ghosts-run_totals : goal.ghosts-run_totals
ghosts-run_totals a = record { name = a.blank.name; parts = a.blank.parts }
