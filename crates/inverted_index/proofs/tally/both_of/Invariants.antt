use Rattle.inverted_index.proofs.tally.both_of.Given as goal

abbrev pub ghosts-both_counted : goal.ghosts-both_counted
ghosts-both_counted a = record { name = a.blank.name; parts = a.blank.parts }
